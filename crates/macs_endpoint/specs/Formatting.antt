-- A disk while it is being formatted, and what formatting promises.
use Rattle.std.specs.Prelude.{◌⊎◌, ℕ, Result, Ok, Err, OnOk}
use Rattle.macs_config.specs.Config.{this_edition}
use Rattle.macs_config.specs.Identity.{Identity}
use Rattle.macs_disk.specs.Disk.{Disk, IsHonest, MayLeave, now}
use Rattle.macs_disk.specs.Runs.{Leaves}
use Rattle.macs_disk.specs.States.{Image}
use Rattle.macs_record.specs.declared.format.Format.TheVariants.{Two}
use Rattle.macs_journal.specs.Formatting.{IsFormatOf}
use Rattle.macs_journal.specs.Found.{HasFormat}
use Rattle.macs_journal.specs.declared.fault.JournalFault.{JournalFault}
use Rattle.macs_journal.specs.declared.fault.JournalFault.TheVariants.{NotFormatted}
use Rattle.macs_store.specs.Found.{StandingIs}
use Rattle.macs_store.specs.Standing.{new_standing}

-- an image of a new endpoint, in a journal of format two
pub record IsFormattedAs (sectors : ℕ) (identity : Identity) (image : Image) : Type 0 where
  pub stands : StandingIs this_edition sectors image (Ok (new_standing this_edition identity))
  pub format : HasFormat image Two

-- an image that the disk could leave before, or one without a journal, or one of a new endpoint with this identity
abbrev pub FormatLeaves : Disk → Identity → Image → Type 0
FormatLeaves old identity image =
    MayLeave old image
    ⊎ (StandingIs this_edition old.sectors image (Err NotFormatted) ⊎ IsFormattedAs old.sectors identity image)

-- A disk without a journal becomes that of a new endpoint with this identity. On an honest disk a power loss on the way
-- leaves what it could leave before, no journal, or the new endpoint; once it is done a power loss leaves only the new
-- endpoint.
pub record IsFormat {D : Type 0} (disk_of : D → Disk) (old : D) (identity : Identity)
    (result : Result (Unit {0}) JournalFault) (new : D) : Type 0 where
  pub device : IsFormatOf disk_of old result new
  pub blank : OnOk result (IsHonest (disk_of new)
      → StandingIs this_edition (disk_of old).sectors (now (disk_of old)).seen (Err NotFormatted))
  pub any_moment : IsHonest (disk_of new) → Leaves (disk_of old) (disk_of new) (FormatLeaves (disk_of old) identity)
  pub kept : OnOk result (IsHonest (disk_of new) → (image : Image) → MayLeave (disk_of new) image
      → IsFormattedAs (disk_of new).sectors identity image)
