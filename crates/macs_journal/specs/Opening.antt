-- What opening a disk promises: the device calls that it makes, why it fails, and what is recovered.
use Rattle.std.specs.Prelude.{ℕ, ◌≡◌, ◌≢◌, ◌<◌, ◌≤◌, ◌↔◌, List, length, take, false, Result, Ok, Err}
use Rattle.macs_config.specs.Identity.{Identity}
use Rattle.macs_disk.specs.Disk.{Disk, IsHonest, Works, now}
use Rattle.macs_disk.specs.Runs.{LeavesNothingNew}
use Rattle.macs_disk.specs.States.{state_after_sync}
use Rattle.macs_record.specs.declared.format.Format.{Format}
use Rattle.macs_record.specs.declared.record.Record.{Record}
use Rattle.macs_journal.specs.Areas.{least_sectors}
use Rattle.macs_journal.specs.Found.{JournalIs}
use Rattle.macs_journal.specs.Recovery.{IsLeftBy, IsRecoverName}
use Rattle.macs_journal.specs.Value.{HoldsContent, IsIdle, JournalValue, content_of, disk_in, is_stopped, used_slots}
use Rattle.macs_journal.specs.Work.{FailsWith}
use Rattle.macs_journal.specs.declared.fault.JournalFault.{JournalFault}
use Rattle.macs_journal.specs.declared.fault.JournalFault.TheVariants as variant
use Rattle.macs_journal.specs.declared.recovery.FoundJournal.{FoundJournal}
use Rattle.macs_journal.specs.declared.recovery.RecoverRefused.{RecoverRefused}
use Rattle.macs_journal.specs.declared.recovery.Recovered.{Recovered}

-- the state after the first call stays to the end
abbrev pub StandsFromFirst : Disk → Disk → Type 0
StandsFromFirst old new = (k : ℕ) → old.clock < k → k ≤ new.clock → new.past k ≡ now new

-- The device calls of an opening that succeeds: the disk is large enough, and no call failed. On an honest disk the
-- first call is a sync, and those after it only read: what reads give is durable from then on, and no power loss on the
-- way left anything that it could not leave before.
pub record IsOpened (old new : Disk) : Type 0 where
  pub large : least_sectors ≤ old.sectors
  pub works : Works old new
  pub fails : new.failures ≡ old.failures
  pub settled : IsHonest new → now new ≡ state_after_sync (now old)
  pub from_first : IsHonest new → StandsFromFirst old new
  pub any_moment : IsHonest new → LeavesNothingNew old new

-- An opening that fails, and returns the disk. The fault is TooSmall if and only if the disk is too small, and then no
-- call is made; Disk if and only if a device call failed. On an honest disk every other fault is as `Found` says,
-- nothing is written, the calls after the first change nothing, and no power loss on the way left anything that it
-- could not leave before.
pub record IsRefused {D : Type 0} (disk_of : D → Disk) (Found : JournalFault → Type 0) (disk left : D)
    (fault : JournalFault) : Type 0 where
  pub name : IsRecoverName fault
  pub small : (fault ≡ variant.TooSmall) ↔ ((disk_of disk).sectors < least_sectors)
  pub untouched : fault ≡ variant.TooSmall → left ≡ disk
  pub works : Works (disk_of disk) (disk_of left)
  pub fails : FailsWith (disk_of disk) (disk_of left) fault
  pub found : fault ≢ variant.Disk → IsHonest (disk_of left) → Found fault
  pub unwritten : IsHonest (disk_of left) → IsLeftBy fault (now (disk_of disk)) (now (disk_of left))
  pub from_first : IsHonest (disk_of left) → StandsFromFirst (disk_of disk) (disk_of left)
  pub any_moment : IsHonest (disk_of left) → LeavesNothingNew (disk_of disk) (disk_of left)

-- A journal is recovered, and these are its records. It is running and has nothing under way, its head has this format,
-- identity and count, and its records fill the used slots, those of the snapshot first. On an honest disk this is the
-- meaning of the disk, and the journal holds it.
pub record Recovers {D : Type 0} (disk_of : D → Disk) (disk : D) (journal : JournalValue D) (format : Format)
    (identity : Identity) (count : ℕ)
    (records : List Record) : Type 0 where
  pub device : IsOpened (disk_of disk) (disk_in disk_of journal)
  pub running : is_stopped journal ≡ false
  pub idle : IsIdle journal
  pub form : format ≡ (content_of journal records).head.format
  pub whose : identity ≡ (content_of journal records).head.identity
  pub counted : count ≡ (content_of journal records).head.count
  pub used : length records ≡ used_slots journal
  pub behind : count ≤ length records
  pub found : IsHonest (disk_in disk_of journal)
      → JournalIs (disk_of disk).sectors (now (disk_of disk)).seen (Ok (content_of journal records))
  pub holds : IsHonest (disk_in disk_of journal) → HoldsContent disk_of journal (content_of journal records)

-- why a disk is refused: it is not the disk of a journal
abbrev pub IsNoJournal : {D : Type 0} → (D → Disk) → D → JournalFault → Type 0
IsNoJournal disk_of disk fault = JournalIs (disk_of disk).sectors (now (disk_of disk)).seen (Err fault)

-- The journal of a disk is recovered into the front of a buffer, or refused because of what is on the disk, or because
-- a device call failed.
abbrev pub IsRecoveryInto : {D : Type 0} → (D → Disk) → D → Result (FoundJournal D) (RecoverRefused D) → List Record
    → Type 0
IsRecoveryInto disk_of disk (Ok found) room =
    Recovers disk_of disk found.journal found.format found.identity found.count (take found.used room)
IsRecoveryInto disk_of disk (Err refused) room =
    IsRefused disk_of (IsNoJournal disk_of disk) disk refused.disk refused.fault

-- the same, with the records in the answer
abbrev pub IsRecovery : {D : Type 0} → (D → Disk) → D → Result (Recovered D) (RecoverRefused D) → Type 0
IsRecovery disk_of disk (Ok r) = Recovers disk_of disk r.journal r.format r.identity r.count r.records.items
IsRecovery disk_of disk (Err refused) = IsRefused disk_of (IsNoJournal disk_of disk) disk refused.disk refused.fault
