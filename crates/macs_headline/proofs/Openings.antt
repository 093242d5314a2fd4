-- The headline on openings that are refused, and on lives that change nothing.
use Rattle.std.proofs.Common.{◌≡◌, ◌⊎◌, inl, inr, ℕ, Bool, true, false, List, Result, Ok, Err, refl, sym, ap, subst}
use Rattle.std.proofs.lemmas.Bool.{false≢true}
use Rattle.macs_config.specs.Config.{Edition}
use Rattle.macs_config.specs.Identity.{Identity}
use Rattle.macs_disk.specs.States.{Image}
use Rattle.macs_record.specs.declared.format.Format.{Format}
use Rattle.macs_record.specs.declared.format.Format.TheVariants.{One, Two}
use Rattle.macs_journal.specs.declared.fault.JournalFault.{JournalFault}
use Rattle.macs_journal.specs.declared.fault.JournalFault.TheVariants.{Disk, GenerationsSpent, NotFormatted}
use Rattle.macs_store.specs.Found.{IsUnfitTo, StandingIs}
use Rattle.macs_store.specs.Replay.{migrates}
use Rattle.macs_store.specs.Standing.{Standing, new_standing}
use Rattle.macs_store.proofs.OneStanding.{one_standing}
use Rattle.macs_endpoint.specs.State.{State}
use Rattle.macs_endpoint.specs.Restart.{Fits}
use Rattle.macs_headline.specs.History.{Blank, FitsPast, Formats, Formatted, Leads, Past, logs_of}
use Rattle.macs_headline.specs.Openings.{AreAsBefore, IsSpentFor, NothingChanges, RefusedForDiskOrBlank}
use Rattle.macs_headline.specs.Openings.{RefusedForDiskOrSpent, SpentAreLast}
use Rattle.macs_headline.proofs.Histories.{found-or-refused}

pub same-fault : (a b : JournalFault) → ◌≡◌ {A = Result Standing JournalFault} (Err a) (Err b) → a ≡ b
same-fault a b is = cc

-- ---- a last generation

-- the formats that an edition does not keep
pub old-format : (edition : Edition) (format : Format) → migrates edition format ≡ true
    → (format ≡ One) × (edition.format_two ≡ true)
old-format edition One is = (refl, is)
old-format edition Two is = absurd (false≢true is)

pub spent-are-last : SpentAreLast
spent-are-last edition image fault spent =
    let at = spent.1 in
    let old = old-format edition at.content.head.format at.is.old in
    (spent.0, at.content, at.standing, at.is.found, at.is.stands, old.0, old.1, at.last)

-- ---- refused openings

module _ (sectors : ℕ) where
  -- where an image stands for something
  where_found : (edition : Edition) (image : Image) (fault : JournalFault) (found : Standing)
      → IsUnfitTo edition sectors image fault
      → StandingIs edition sectors image (Ok found) → IsSpentFor edition image fault
  where_found edition image GenerationsSpent found is there = (refl, is.1)
  where_found edition image fault found is there = absurd (found-or-refused edition sectors image fault found is there)

  -- where no head gate is open
  where_blank : (edition : Edition) (image : Image) (fault : JournalFault) → IsUnfitTo edition sectors image fault
      → StandingIs edition sectors image (Err NotFormatted) → (fault ≡ NotFormatted) ⊎ IsSpentFor edition image fault
  where_blank edition image GenerationsSpent is there = inr (refl, is.1)
  where_blank edition image fault is there =
      inl (same-fault fault NotFormatted (one_standing edition sectors image (Err fault) (Err NotFormatted) is there))

  for_disk : (edition : Edition) (image : Image) (s : State) (fault : JournalFault) → Fits edition sectors image s
      → (fault ≡ Disk) ⊎ IsUnfitTo edition sectors image fault → (fault ≡ Disk) ⊎ IsSpentFor edition image fault
  for_disk edition image s fault fits (inl is) = inl is
  for_disk edition image s fault fits (inr is) = inr (where_found edition image fault fits.found is fits.is_found)

  pub refused-for-disk-or-spent : RefusedForDiskOrSpent sectors
  refused-for-disk-or-spent s edition image fault new leads = for_disk edition image s fault leads.0 leads.1

  for_blank : (identities : List Identity) (edition : Edition) (image : Image) (fault : JournalFault)
      → FitsPast edition sectors (Blank identities) image
      → (fault ≡ Disk) ⊎ IsUnfitTo edition sectors image fault
      → (fault ≡ Disk) ⊎ ((fault ≡ NotFormatted) ⊎ IsSpentFor edition image fault)
  for_blank identities edition image fault fits (inl is) = inl is
  for_blank identities edition image fault (inl none) (inr is) = inr (where_blank edition image fault is none)
  for_blank identities edition image fault (inr (identity, among, new)) (inr is) =
      inr (inr (where_found edition image fault (new_standing edition identity) is new))

  pub refused-for-disk-or-blank : RefusedForDiskOrBlank sectors
  refused-for-disk-or-blank identities edition image fault new leads =
      for_blank identities edition image fault leads.0 leads.1

  no_other : (old new : Past) → new ≡ old → AreAsBefore sectors old new
  no_other old new is = record {
    images = λ later image. (
      λ fits. subst (λ (p : Past). FitsPast later sectors p image) is fits,
      λ fits. subst (λ (p : Past). FitsPast later sectors p image) (sym is) fits,
    );
    logs = ap logs_of is;
  }

  by_format : (s : State) (edition : Edition) (identity : Identity) (is_ok : Bool) (new : Past)
      → Leads sectors (Formatted s) (Formats edition identity is_ok) new
      → AreAsBefore sectors (Formatted s) new
  by_format s edition identity true new leads = absurd leads
  by_format s edition identity false new leads = no_other (Formatted s) new leads

  pub nothing-changes : NothingChanges sectors
  nothing-changes = record {
    refused = λ old edition image fault new leads. no_other old new leads.2;
    formatted = by_format;
  }
