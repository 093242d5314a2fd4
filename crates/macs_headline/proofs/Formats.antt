-- A `format`, answered or cut short, is a life.
use Rattle.std.proofs.Common.{◌≡◌, ◌≤◌, inl, inr, ℕ, zero, suc, false, List, [], ◌∷◌, Result, Ok, Err, is_ok, refl, ◌∙◌}
use Rattle.std.proofs.Common.{subst, arith}
use Rattle.std.specs.Option.{option_map}
use Rattle.macs_config.specs.Config.{Edition, IsUpTo, this_edition}
use Rattle.macs_config.specs.Identity.{Identity}
use Rattle.macs_disk.specs.Disk.{Disk, IsHonest, LeftSince, now}
use Rattle.macs_disk.specs.States.{Image, IsImage, IsSound}
use Rattle.macs_disk.proofs.Moments.{Left-now}
use Rattle.macs_journal.specs.Areas.{IsArea}
use Rattle.macs_journal.specs.Formatting.{HasOpenHead}
use Rattle.macs_journal.specs.Found.{IsGateOpen}
use Rattle.macs_journal.specs.Work.{IsSpared, MayHold}
use Rattle.macs_journal.specs.declared.fault.JournalFault.{JournalFault}
use Rattle.macs_journal.specs.declared.fault.JournalFault.TheVariants.{NotFormatted}
use Rattle.macs_rxsc.specs.Receive.{first_numbers}
use Rattle.macs_store.specs.Found.{StandingIs}
use Rattle.macs_store.specs.Standing.{Standing, new_standing}
use Rattle.macs_endpoint.specs.Formatting.{FormatLeaves, IsFormat}
use Rattle.macs_endpoint.specs.Restart.{Fits, Resumes, RxRises, TxRises, opened_state}
use Rattle.macs_endpoint.specs.State.{State}
use Rattle.macs_headline.specs.Deeds.{IsPassedOn}
use Rattle.macs_headline.specs.History.{Blank, FitsPast, Formats, Formatted, Past, formatted_state}
use Rattle.macs_headline.proofs.Lists.{contains-first, contains-later}
use Rattle.macs_headline.proofs.Histories.{found-or-refused}
use Rattle.macs_headline.proofs.Losses.{IsCovered, LeadTo, covered-passed, covered-seen}

-- ---- one image

pub up-to-itself : (edition : Edition) → IsUpTo edition edition
up-to-itself edition = record { channels = omega arith; long_keys = λ is. is; format_two = λ is. is }

-- what is found resumes a state of the same identity and configuration, if numbers rise to the ceilings
pub resumed : (old : State) (found : Standing) → IsUpTo old.edition found.edition → found.identity ≡ old.identity
    → found.config ≡ old.config
    → ((an : ℕ) → TxRises old.identity.tx_block (old.next an) (found.ceilings.tx an))
    → ((sci : List ℕ) (an : ℕ) → RxRises old.identity.rx_block (old.numbers sci an)
    (option_map first_numbers (found.ceilings.rx sci an))) → Resumes old (opened_state found old.logs)
resumed old found edition identity config next numbers = record {
  edition = edition;
  identity = identity;
  config = config;
  next = next;
  numbers = numbers;
  logs = refl;
  running = refl;
  idle = refl;
  waiting = refl;
  tickets = refl;
}

-- one that stands for a new endpoint fits its state
pub new-fits : (sectors : ℕ) (image : Image) (identity : Identity)
    → StandingIs this_edition sectors image (Ok (new_standing this_edition identity))
    → Fits this_edition sectors image (formatted_state this_edition identity)
new-fits sectors image identity is = record {
  found = new_standing this_edition identity;
  is_found = is;
  restart = inl (resumed (formatted_state this_edition identity) (new_standing this_edition identity)
      (up-to-itself this_edition) refl refl (λ an. refl) (λ sci an. refl));
}

blank_more : (sectors : ℕ) (identities : List Identity) (identity : Identity) (image : Image)
    → FitsPast this_edition sectors (Blank identities) image
    → FitsPast this_edition sectors (Blank (identity ∷ identities)) image
blank_more sectors identities identity image (inl none) = inl none
blank_more sectors identities identity image (inr (other, among, is)) =
    inr (other, contains-later identity identities other among, is)

-- what a format leaves on the way
blank_left : (sectors : ℕ) (identities : List Identity) (identity : Identity) (old : Disk) (image : Image)
    → IsCovered sectors (Blank identities) old
    → FormatLeaves old identity image → FitsPast this_edition sectors (Blank (identity ∷ identities)) image
blank_left sectors identities identity old image covered (inl before) =
    blank_more sectors identities identity image (covered.images image before)
blank_left sectors identities identity old image covered (inr (inl none)) =
    inl (subst (λ (n : ℕ). StandingIs this_edition n image (Err NotFormatted)) covered.size none)
blank_left sectors identities identity old image covered (inr (inr new)) =
    inr (
      identity,
      contains-first identity identities,
      subst
          (λ (n : ℕ). StandingIs this_edition n image (Ok (new_standing this_edition identity)))
          covered.size new.stands,
    )

-- ---- a disk with a journal

open_head : (image : Image) (area : ℕ) → IsArea area → IsGateOpen image area 0 → HasOpenHead image
open_head image zero is opens = inl opens
open_head image (suc zero) is opens = inr opens
open_head image (suc (suc n)) is opens = absurd (omega (arith, is))

-- a head gate reads open where a standing is found
found_open : (sectors : ℕ) (image : Image) (found : Standing) → StandingIs this_edition sectors image (Ok found)
    → HasOpenHead image
found_open sectors image found (size, stands) =
    let journal = stands.found.stands in
    open_head image stands.content.area journal.area journal.head.open_gate

-- what might have been left of sectors that were all left alone may be left before
spared_image : (old new : Disk) (k : ℕ) (image : Image) → old.clock ≤ k → k ≤ new.clock → ((i : ℕ) → IsSpared old new i)
    → IsImage (new.past k) image → IsImage (now old) image
spared_image old new k image from until spared left = record {
  kept = λ i. (holds i).kept;
  whole = λ i. (holds i).whole;
} where
  holds : (i : ℕ) → MayHold (now old) i (image i)
  holds i = (spared i).leaves k from until (image i) (record { kept = left.kept i; whole = left.whole i })

-- ---- the deed

module _ {D : Type 0} (disk_of : D → Disk) (sound : (it : D) → IsHonest (disk_of it) → IsSound (now (disk_of it)))
    (sectors : ℕ)
    (old new : D) (identity : Identity) (result : Result (Unit {0}) JournalFault)
    (format : IsFormat disk_of old identity result new) where
  module _ (past : Past) (covered : IsCovered sectors past (disk_of old)) where
    format_honest : IsHonest (disk_of new)
    format_honest = format.device.work.works.honest ∙ covered.honest

    format_size : (disk_of new).sectors ≡ sectors
    format_size = format.device.work.works.sectors ∙ covered.size

  left_blank : (identities : List Identity) → IsCovered sectors (Blank identities) (disk_of old)
      → (image : Image) → LeftSince (disk_of new) (disk_of old).clock image
      → FitsPast this_edition sectors (Blank (identity ∷ identities)) image
  left_blank identities covered image left =
      blank_left sectors identities identity (disk_of old) image covered
      ((format.any_moment (format_honest (Blank identities) covered)).each image left)

  left_formatted : (s : State) → IsCovered sectors (Formatted s) (disk_of old)
      → (image : Image) → LeftSince (disk_of new) (disk_of old).clock image
      → FitsPast this_edition sectors (Formatted s) image
  left_formatted s covered image left =
      let fits = covered-seen sectors (Formatted s) (disk_of old) (sound old covered.honest) covered in
      let opens = found_open sectors (now (disk_of old)).seen fits.found fits.is_found in
      covered.images image (spared_image (disk_of old) (disk_of new) left.0 image left.1 left.2
      (format.device.journal opens (format_honest (Formatted s) covered)) left.3)

  -- cut short
  pub format-cut : (past : Past) (lost : D) → IsCovered sectors past (disk_of old)
      → IsPassedOn (disk_of new) (disk_of old).clock (disk_of lost)
      → LeadTo sectors past (Formats this_edition identity false ∷ []) (disk_of lost)
  format-cut (Blank identities) lost covered passed = record {
    later = Blank (identity ∷ identities);
    lead = (Blank (identity ∷ identities), refl, refl);
    covered =
        covered-passed sectors (Blank (identity ∷ identities)) (disk_of new) (disk_of lost) (disk_of old).clock passed
        (format_honest (Blank identities) covered) (format_size (Blank identities) covered)
        (left_blank identities covered);
  }
  format-cut (Formatted s) lost covered passed = record {
    later = Formatted s;
    lead = (Formatted s, refl, refl);
    covered = covered-passed sectors (Formatted s) (disk_of new) (disk_of lost) (disk_of old).clock passed
        (format_honest (Formatted s) covered) (format_size (Formatted s) covered) (left_formatted s covered);
  }

-- answered
module _ {D : Type 0} (disk_of : D → Disk) (sound : (it : D) → IsHonest (disk_of it) → IsSound (now (disk_of it)))
    (sectors : ℕ)
    (old new : D) (identity : Identity) where
  pub format-answered : (past : Past) (result : Result (Unit {0}) JournalFault) → IsCovered sectors past (disk_of old)
      → IsFormat disk_of old identity result new
      → LeadTo sectors past (Formats this_edition identity (is_ok result) ∷ []) (disk_of new)
  format-answered (Blank identities) (Ok done) covered format =
      let honest = format_honest disk_of sound sectors old new identity (Ok done) format (Blank identities) covered in
      let size = format_size disk_of sound sectors old new identity (Ok done) format (Blank identities) covered in
      record {
        later = Formatted (formatted_state this_edition identity);
        lead = (Formatted (formatted_state this_edition identity), refl, refl);
        covered = record {
          honest = honest;
          size = size;
          images = λ image left. new-fits sectors image identity
              (subst (λ (n : ℕ). StandingIs this_edition n image (Ok (new_standing this_edition identity))) size
              (format.kept honest image left).stands);
        };
      }
  format-answered (Blank identities) (Err fault) covered format = record {
    later = Blank (identity ∷ identities);
    lead = (Blank (identity ∷ identities), refl, refl);
    covered = record {
      honest = format_honest disk_of sound sectors old new identity (Err fault) format (Blank identities) covered;
      size = format_size disk_of sound sectors old new identity (Err fault) format (Blank identities) covered;
      images =
          λ image left. left_blank disk_of sound sectors old new identity (Err fault) format identities covered image
          (Left-now (disk_of new) (disk_of old).clock image format.device.work.works.later left);
    };
  }
  format-answered (Formatted s) (Ok done) covered format =
      let fits = covered-seen sectors (Formatted s) (disk_of old) (sound old covered.honest) covered in
      let honest = format_honest disk_of sound sectors old new identity (Ok done) format (Formatted s) covered in
      absurd (found-or-refused this_edition sectors (now (disk_of old)).seen NotFormatted fits.found
      (subst (λ (n : ℕ). StandingIs this_edition n (now (disk_of old)).seen (Err NotFormatted)) covered.size
      (format.blank honest)) fits.is_found)
  format-answered (Formatted s) (Err fault) covered format = record {
    later = Formatted s;
    lead = (Formatted s, refl, refl);
    covered = record {
      honest = format_honest disk_of sound sectors old new identity (Err fault) format (Formatted s) covered;
      size = format_size disk_of sound sectors old new identity (Err fault) format (Formatted s) covered;
      images = λ image left. left_formatted disk_of sound sectors old new identity (Err fault) format s covered image
          (Left-now (disk_of new) (disk_of old).clock image format.device.work.works.later left);
    };
  }
