-- A medium that is passed on, and disks that a past covers.
use Rattle.std.proofs.Common.{◌≡◌, ℕ, List, [], inl, inr, Ok, refl, sym, ◌∙◌, subst}
use Rattle.std.proofs.Math.Path.{fun_ext}
use Rattle.macs_config.specs.Config.{this_edition}
use Rattle.macs_disk.specs.Disk.{Disk, IsHonest, LeftSince, MayLeave, Works, disk_after_loss, now}
use Rattle.macs_disk.specs.Runs.{Leaves}
use Rattle.macs_disk.specs.States.{DiskState, Image, IsImage, IsSound, settled_state}
use Rattle.macs_disk.proofs.Moments.{Left-now}
use Rattle.macs_journal.specs.declared.fault.JournalFault.TheVariants.{NotFormatted}
use Rattle.macs_store.specs.Found.{StandAlike, StandingIs}
use Rattle.macs_store.specs.Opening.{OpeningLeaves}
use Rattle.macs_store.specs.Standing.{Standing, new_standing}
use Rattle.macs_headline.specs.Deeds.{IsPassedOn}
use Rattle.macs_headline.specs.Endings.{LosesPower}
use Rattle.macs_headline.specs.History.{Blank, FitsPast, Formatted, LeadOn, Life, Past}
use Rattle.macs_headline.proofs.Histories.{found-one, found-or-refused}

-- where nothing is pending there is one image
pub one-image : (image other : Image) → IsImage (settled_state image) other → other ≡ image
one-image image other left = fun_ext (λ i. left.kept i refl)

-- a disk that holds an image of some moment since, with nothing pending
pub settled-passed : (old new : Disk) (since : ℕ) (image : Image) → LeftSince old since image
    → new.sectors ≡ old.sectors → new.honest ≡ old.honest
    → now new ≡ settled_state image → IsPassedOn old since new
settled-passed old new since image left sectors honest settled = record {
  moment = left.0;
  later = left.1;
  within = left.2;
  sectors = sectors;
  honest = honest;
  images = λ other here.
      let same : other ≡ image = one-image image other (subst (λ (s : DiskState). IsImage s other) settled here) in
      subst (λ (i : Image). IsImage (old.past left.0) i) (sym same) left.3;
}

pub loses-power : (disk : Disk) (since : ℕ) (image : Image) → LeftSince disk since image
    → LosesPower disk since (disk_after_loss disk image)
loses-power disk since image left =
    record { image = image; left = left; alike = record { sectors = refl; honest = refl }; settled = refl }

-- ---- a disk each of whose images may be come upon after a past

pub record IsCovered (sectors : ℕ) (past : Past) (disk : Disk) : Type 0 where
  pub honest : IsHonest disk
  pub size : disk.sectors ≡ sectors
  pub images : (image : Image) → MayLeave disk image → FitsPast this_edition sectors past image

-- what reads give of it may be
pub covered-seen : (sectors : ℕ) (past : Past) (disk : Disk) → IsSound (now disk) → IsCovered sectors past disk
    → FitsPast this_edition sectors past (now disk).seen
covered-seen sectors past disk sound covered = covered.images (now disk).seen sound.fit

-- one to which the medium is passed on
pub covered-passed : (sectors : ℕ) (past : Past) (ran new : Disk) (since : ℕ) → IsPassedOn ran since new → IsHonest ran
    → ran.sectors ≡ sectors
    → ((image : Image) → LeftSince ran since image → FitsPast this_edition sectors past image)
    → IsCovered sectors past new
covered-passed sectors past ran new since passed honest size fits = record {
  honest = passed.honest ∙ honest;
  size = passed.sectors ∙ size;
  images = λ image left. fits image (passed.moment, passed.later, passed.within, passed.images image left);
}

-- ---- openings

-- an image that stands for the same as one that a program may find
fits_alike : (sectors : ℕ) (past : Past) (seen image : Image) → StandAlike this_edition seen image
    → FitsPast this_edition sectors past seen
    → FitsPast this_edition sectors past image
fits_alike sectors (Blank identities) seen image alike (inl none) =
    absurd (found-or-refused this_edition sectors seen NotFormatted alike.standing none (none.0, alike.first))
fits_alike sectors (Blank identities) seen image alike (inr (identity, among, new)) =
    let same = found-one this_edition sectors seen alike.standing (new_standing this_edition identity)
    (new.0, alike.first) new in
    inr (
      identity,
      among,
      subst (λ (s : Standing). StandingIs this_edition sectors image (Ok s)) same (new.0, alike.second),
    )
fits_alike sectors (Formatted s) seen image alike fits =
    let same =
    found-one this_edition sectors seen alike.standing fits.found (fits.is_found.0, alike.first) fits.is_found in
    record {
      found = fits.found;
      is_found =
          subst (λ (s : Standing). StandingIs this_edition sectors image (Ok s)) same (fits.is_found.0, alike.second);
      restart = fits.restart;
    }

-- after the calls of an opening
pub left-alike : (sectors : ℕ) (past : Past) (old new : Disk) → IsSound (now old) → IsCovered sectors past old
    → Leaves old new (OpeningLeaves old)
    → (image : Image) → LeftSince new old.clock image → FitsPast this_edition sectors past image
left-alike sectors past old new sound covered leaves image left = elim (leaves.each image left) [
  | inl before ↦ covered.images image before
  | inr alike ↦ fits_alike sectors past (now old).seen image alike (covered-seen sectors past old sound covered)
]

pub covered-on : (sectors : ℕ) (past : Past) (old new : Disk) → IsSound (now old) → Works old new
    → IsCovered sectors past old → Leaves old new (OpeningLeaves old)
    → IsCovered sectors past new
covered-on sectors past old new sound works covered leaves = record {
  honest = works.honest ∙ covered.honest;
  size = works.sectors ∙ covered.size;
  images = λ image left.
      left-alike sectors past old new sound covered leaves image (Left-now new old.clock image works.later left);
}

-- ---- where lives lead to

-- these lives lead from a past to one that covers the disk
pub record LeadTo (sectors : ℕ) (past : Past) (lives : List Life) (disk : Disk) : Type 0 where
  pub later : Past
  pub lead : LeadOn sectors past lives later
  pub covered : IsCovered sectors later disk

pub lead-nowhere : (sectors : ℕ) (past : Past) (disk : Disk) → IsCovered sectors past disk → LeadTo sectors past [] disk
lead-nowhere sectors past disk covered = record { later = past; lead = refl; covered = covered }
