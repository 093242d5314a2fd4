use Rattle.std.proofs.Common.{◌≡◌, ◌≤◌, ◌<◌, rules, inl, inr, ℕ, Result, Ok, Err, IsErrOf, refl, sym, subst}
use Rattle.std.specs.Prelude.{OnOk}
use Rattle.std.proofs.lemmas.Bool.{cases_lt}
use Rattle.macs_config.specs.Identity.{Identity}
use Rattle.macs_disk.specs.Disk.{Disk, IsHonest, MayLeave, now}
use Rattle.macs_disk.specs.Runs.{Leaves}
use Rattle.macs_disk.specs.States.{Image}
use Rattle.macs_disk.proofs.Moments.{Leaves-start, Leaves-weaker}
use Rattle.macs_journal.specs.Areas.{least_sectors}
use Rattle.macs_journal.specs.Formatting as journal
use Rattle.macs_journal.specs.Formatting.{IsJournalFormat, first_content}
use Rattle.macs_journal.specs.Found.{HasJournal}
use Rattle.macs_journal.specs.declared.fault.JournalFault.{JournalFault}
use Rattle.macs_journal.specs.declared.fault.JournalFault.TheVariants.{TooSmall}
use Rattle.macs_endpoint.specs.Formatting.{FormatLeaves, IsFormattedAs}
use Rattle.macs_endpoint.proofs.formatting.format.Goals as goal

-- ---- a disk that was formatted: from what a journal leaves to what an endpoint finds

-- a new journal is that of a new endpoint
formatted-as : (sectors : ℕ) (identity : Identity) (image : Image) → least_sectors ≤ sectors
    → HasJournal image (first_content identity)
    → IsFormattedAs sectors identity image
formatted-as sectors identity image size new = record {
  stands = (size, record { content = first_content identity; found = new; stands = refl });
  format = record { content = first_content identity; found = new; is = refl };
}

-- what a journal leaves, on a disk that is large enough
formatted : (old : Disk) (identity : Identity) (image : Image) → least_sectors ≤ old.sectors
    → journal.IsOldNoneOrNew (now old) identity image
    → FormatLeaves old identity image
formatted old identity image size left = elim left [
  | inl before ↦ inl before
  | inr later ↦ elim later [
    | inl none ↦ inr (inl (size, none))
    | inr new ↦ inr (inr (formatted-as old.sectors identity image size new))
  ]
]

module _ {D : Type 0} (disk_of : D → Disk) where
  -- a disk that is too small stays as it is
  format-leaves : (old new : D) (identity : Identity) → ((disk_of old).sectors < least_sectors → new ≡ old)
      → Leaves (disk_of old) (disk_of new) (journal.IsOldNoneOrNew (now (disk_of old)) identity)
      → Leaves (disk_of old) (disk_of new) (FormatLeaves (disk_of old) identity)
  format-leaves old new identity untouched leaves = elim (cases_lt (disk_of old).sectors least_sectors) [
    | inl small ↦
        subst (λ (d : D). Leaves (disk_of old) (disk_of d) (FormatLeaves (disk_of old) identity))
        (sym (untouched small))
        (Leaves-start (disk_of old) (FormatLeaves (disk_of old) identity) (λ image left. inl left))
    | inr size ↦
        Leaves-weaker (disk_of old) (disk_of new) (journal.IsOldNoneOrNew (now (disk_of old)) identity)
        (FormatLeaves (disk_of old) identity)
        (λ image left. formatted (disk_of old) identity image size left) leaves
  ]

  -- it is large enough where it answered Ok
  kept_size : (old new : D) (identity : Identity) (result : Result (Unit {0}) JournalFault)
      → IsJournalFormat disk_of old identity result new
      → (IsErrOf result TooSmall → ⊥) → least_sectors ≤ (disk_of new).sectors
  kept_size old new identity result made large = elim (cases_lt (disk_of old).sectors least_sectors) [
    | inl small ↦ absurd (large (made.device.small.1 small))
    | inr size ↦ subst (λ (n : ℕ). least_sectors ≤ n) (sym made.device.work.works.sectors) size
  ]

  -- and then each image is that of a new endpoint
  kept-as : (old new : D) (identity : Identity) (result : Result (Unit {0}) JournalFault)
      → IsJournalFormat disk_of old identity result new
      → OnOk result (IsHonest (disk_of new) → (image : Image) → MayLeave (disk_of new) image
      → IsFormattedAs (disk_of new).sectors identity image)
  kept-as old new identity (Ok done) made = λ honest image left.
      formatted-as (disk_of new).sectors identity image (kept_size old new identity (Ok done) made (λ is. absurd cc))
      (made.kept honest image left)
  kept-as old new identity (Err fault) made = tt

pub returns : goal.returns
returns g c =
    let made = c.format.ensures in
    record {
      device = made.device;
      blank = search rules;
      any_moment = λ honest. format-leaves g.D.SectorDisk.disk c.args.disk.now c.format.new.disk c.args.identity.now
          (λ small. made.device.untouched (made.device.small.1 small)) (made.any_moment honest);
      kept = kept-as g.D.SectorDisk.disk c.args.disk.now c.format.new.disk c.args.identity.now c.format.result made;
    }
