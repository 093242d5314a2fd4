-- What opening a disk promises: the standing, or why it fails, and what becomes of a journal of format one.
use Rattle.std.specs.Prelude.{◌≡◌, ◌≢◌, ◌<◌, ◌≤◌, ◌↔◌, ◌⊎◌, ℕ, Bool, true, false, length, Some, Result, Ok, Err}
use Rattle.macs_config.specs.Config.{this_edition}
use Rattle.macs_disk.specs.Disk.{Disk, IsHonest, MayLeave, Works, now}
use Rattle.macs_disk.specs.Runs.{Leaves, LeavesNothingNew}
use Rattle.macs_disk.specs.States.{Image, state_after_sync}
use Rattle.macs_record.specs.declared.format.Format.TheVariants.{Two}
use Rattle.macs_journal.specs.Appending.{HasEitherJournal, IsReady}
use Rattle.macs_journal.specs.Areas.{least_sectors, other_area}
use Rattle.macs_journal.specs.Compacting.{CompactWrites, Compacts, compacted}
use Rattle.macs_journal.specs.Found.{Content, HasFormat}
use Rattle.macs_journal.specs.Opening.{StandsFromFirst}
use Rattle.macs_journal.specs.Recovery.{IsLeftBy, IsRecoverName}
use Rattle.macs_journal.specs.NewArea.{IsSettled}
use Rattle.macs_journal.specs.Work.{FailsWith, IsSpared}
use Rattle.macs_journal.specs.declared.fault.JournalFault.{JournalFault}
use Rattle.macs_journal.specs.declared.fault.JournalFault.TheVariants as variant
use Rattle.macs_journal.specs.declared.recovery.RecoverRefused.{RecoverRefused}
use Rattle.macs_store.specs.Found.{IsToMigrate, IsUnfitTo, StandAlike, StandingIs}
use Rattle.macs_store.specs.Replay.{snapshot_of}
use Rattle.macs_store.specs.Snapshot.{snapshot}
use Rattle.macs_store.specs.Standing.{Standing}
use Rattle.macs_store.specs.Value.{IsIdle, IsStored, StoreValue, disk_in, is_stopped, standing_in}

-- why a disk is unfit: no endpoint of this edition can continue from it
abbrev pub IsUnfit : {D : Type 0} → (D → Disk) → D → JournalFault → Type 0
IsUnfit disk_of disk fault = IsUnfitTo this_edition (disk_of disk).sectors (now (disk_of disk)).seen fault

-- ---- what an opening leaves

-- an image that the disk could leave before, or one that represents what reads gave
abbrev pub OpeningLeaves : Disk → Image → Type 0
OpeningLeaves old image = MayLeave old image ⊎ StandAlike this_edition (now old).seen image

-- the disk has no journal that an opening migrates
abbrev pub HasNoneToMigrate : Disk → Type 0
HasNoneToMigrate old = (c : Content) (s : Standing) → ¬ IsToMigrate this_edition (now old).seen c s

-- Nothing is written: after the first call the disk stays the same to the end, and no power loss on the way left
-- anything that it could not leave before.
pub record WritesNothing (old new : Disk) : Type 0 where
  pub from_first : StandsFromFirst old new
  pub any_moment : LeavesNothingNew old new

-- an image that the disk could leave before, or one with this content, or with that after a compaction with a snapshot
-- of its standing: in the other area, in the next generation and in format two
abbrev pub MigrationLeaves : Disk → Content → Standing → Image → Type 0
MigrationLeaves old c s image = MayLeave old image ⊎ HasEitherJournal c (compacted c (snapshot s)) image

-- A journal with this content is migrated, completely or in part: that is left at any moment, and no sector is touched
-- except those that a compaction writes to, all in the other area.
pub record IsMigration (old new : Disk) (c : Content) (s : Standing) : Type 0 where
  pub any_moment : Leaves old new (MigrationLeaves old c s)
  pub others : (i : ℕ) → ¬ CompactWrites (now old).seen (other_area c.area) (length (snapshot s)) i → IsSpared old new i

-- ---- an opening that succeeds

-- Its device calls, on a disk that represented this standing: the disk is large enough, and no call failed. On an
-- honest disk nothing is pending then, the current area is of format two, and no power loss on the way left anything
-- but what it could leave before, or what represents the same standing. If no migration is needed nothing is written:
-- the first call is a sync, and those after it only read. Otherwise the journal was migrated, once.
pub record OpensDisk (old new : Disk) (s : Standing) : Type 0 where
  pub large : least_sectors ≤ old.sectors
  pub works : Works old new
  pub fails : new.failures ≡ old.failures
  pub settled : IsHonest new → IsSettled (now new)
  pub format : IsHonest new → (image : Image) → MayLeave new image → HasFormat image Two
  pub any_moment : IsHonest new → Leaves old new (OpeningLeaves old)
  pub unwritten : IsHonest new → HasNoneToMigrate old → WritesNothing old new × (now new ≡ state_after_sync (now old))
  pub migrated : IsHonest new → (c : Content) → IsToMigrate this_edition (now old).seen c s
      → IsMigration old new c s × IsReady (now new) (compacted c (snapshot s))

-- A disk is opened as this store, which is running. On an honest disk the disk represented what is in memory, and holds
-- it.
pub record Opens {D : Type 0} (disk_of : D → Disk) (disk : D) (s : StoreValue D) : Type 0 where
  pub device : OpensDisk (disk_of disk) (disk_in disk_of s) (standing_in s)
  pub running : is_stopped s ≡ false
  pub idle : IsIdle s
  pub found : IsHonest (disk_in disk_of s)
      → StandingIs this_edition (disk_of disk).sectors (now (disk_of disk)).seen (Ok (standing_in s))
  pub stored : IsHonest (disk_in disk_of s) → IsStored disk_of s

-- ---- an opening that fails

-- why a disk is not opened
abbrev pub IsOpenName : JournalFault → Type 0
IsOpenName name = IsRecoverName name ⊎ (name ≡ variant.GenerationsSpent)

-- An opening that fails, and returns the disk. The fault is TooSmall if and only if the disk is too small, and then no
-- call is made; it is Disk if and only if a device call failed. On an honest disk every other fault is the reason why
-- the disk is unfit, and nothing is written; nor is anything if the fault is Disk and no migration was needed.
-- Otherwise the journal was at most migrated.
pub record RefusesDisk {D : Type 0} (disk_of : D → Disk) (disk left : D) (fault : JournalFault) : Type 0 where
  pub name : IsOpenName fault
  pub small : (fault ≡ variant.TooSmall) ↔ ((disk_of disk).sectors < least_sectors)
  pub untouched : fault ≡ variant.TooSmall → left ≡ disk
  pub works : Works (disk_of disk) (disk_of left)
  pub fails : FailsWith (disk_of disk) (disk_of left) fault
  pub found : fault ≢ variant.Disk → IsHonest (disk_of left) → IsUnfit disk_of disk fault
  pub any_moment : IsHonest (disk_of left) → Leaves (disk_of disk) (disk_of left) (OpeningLeaves (disk_of disk))
  pub unwritten : IsHonest (disk_of left) → (fault ≡ variant.Disk → HasNoneToMigrate (disk_of disk))
      → WritesNothing (disk_of disk) (disk_of left) × IsLeftBy fault (now (disk_of disk)) (now (disk_of left))
  pub migrated : IsHonest (disk_of left) → (c : Content) (s : Standing)
      → IsToMigrate this_edition (now (disk_of disk)).seen c s
      → IsMigration (disk_of disk) (disk_of left) c s

-- A disk is opened, or refused because of what is on it, or because a device call failed.
abbrev pub IsStoreOpening : {D : Type 0} → (D → Disk) → D → Result (StoreValue D) (RecoverRefused D) → Type 0
IsStoreOpening disk_of disk (Ok s) = Opens disk_of disk s
IsStoreOpening disk_of disk (Err refused) = RefusesDisk disk_of disk refused.disk refused.fault

-- ---- intermediate steps

-- A store whose journal was recovered compacts it with a snapshot of what is in memory, which represents the same
-- standing; nothing else changes in memory.
pub record CompactsHeld {D : Type 0} (disk_of : D → Disk) (old : StoreValue D) (result : Result (Unit {0}) JournalFault)
    (new : StoreValue D) : Type 0 where
  pub compacts : Compacts disk_of old.journal (snapshot (standing_in old)) result new.journal
  pub held : new.held ≡ old.held
  pub under_way : new.under_way ≡ old.under_way
  pub stands : snapshot_of this_edition (standing_in old).identity (snapshot (standing_in old)) ≡ Some (standing_in old)

-- What becomes of a store that was recovered, depending on whether its records were replayed successfully, and on
-- whether their format requires a migration.
abbrev pub TakesUp : {D : Type 0} → (D → Disk) → (is_read is_old : Bool) → StoreValue D → Result (Unit {0}) JournalFault
    → StoreValue D → Type 0
TakesUp disk_of false is_old old result new = (result ≡ Err variant.BadJournal) × (new ≡ old)
TakesUp disk_of true true old result new = CompactsHeld disk_of old result new
TakesUp disk_of true false old result new = (result ≡ Ok tt) × (new ≡ old)
