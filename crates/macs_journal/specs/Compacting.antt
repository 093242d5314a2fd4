-- A compaction: a snapshot is written into the journal's other area, with a head of the next generation.
use Rattle.std.specs.Prelude.{◌≡◌, ◌≤◌, ◌⊎◌, ◌↔◌, ◌+◌, ℕ, true, false, List, length, Result, IsErrOf, OnOk, OnErr}
use Rattle.macs_disk.specs.States.{Image}
use Rattle.macs_disk.specs.Disk.{IsHonest, MayLeave, now}
use Rattle.macs_disk.specs.Disk as disk
use Rattle.macs_disk.specs.Runs.{Leaves}
use Rattle.macs_record.specs.declared.record.Record.{Record}
use Rattle.macs_journal.specs.Appending.{HasEitherJournal}
use Rattle.macs_journal.specs.Areas.{gates, other_area, slots}
use Rattle.macs_journal.specs.Found.{Content, HasJournal}
use Rattle.macs_journal.specs.NewArea.{HasNewGates}
use Rattle.macs_journal.specs.Stepping.{IsTaskUnderWay, Compaction, calls_of}
use Rattle.macs_journal.specs.Value.{HoldsContent, IsIdle, JournalValue, disk_in, generation, is_stopped, left_of}
use Rattle.macs_journal.specs.Work.{IsSpared, IsWorkOf}
use Rattle.macs_journal.specs.declared.fault.JournalFault.{JournalFault}
use Rattle.macs_journal.specs.declared.fault.JournalFault.TheVariants.{Disk, GenerationsSpent, Stopped}
use Rattle.macs_journal.specs.declared.under_way.UnderWay.TheVariants.{Nothing}
use Rattle.macs_journal.specs.declared.place.Place.{Place}
pub use Rattle.macs_journal.specs.Compacted.{CompactWrites, FindsUntil, compacted, last_generation, next_head}
unfoldable pub use Rattle.macs_journal.specs.Compacted.{HasOpenGates}

-- where the journal continues, after this many records
abbrev pub compacted_place : Place → ℕ → Place
compacted_place place count = record { area = other_area place.area; head = next_head place.head count; free = count }

-- it is running, and a compaction with these records is under way, for which no device call has been made yet
pub record IsBegun {D : Type 0} (j : JournalValue D) (records : List Record) : Type 0 where
  pub running : is_stopped j ≡ false
  pub more : ¬ (generation j ≡ last_generation)
  pub few : length records ≤ slots
  pub under_way : IsTaskUnderWay j (Compaction records) j.under_way
  pub left : left_of j.under_way ≡ calls_of (Compaction records)

-- the journal with nothing under way
abbrev pub with_nothing : {D : Type 0} → JournalValue D → JournalValue D
with_nothing j = record j { under_way = Nothing }

-- A journal is compacted with these records, in its other area. Fails with Stopped if a device call failed before, then
-- with GenerationsSpent if its generation is the last one, and changes nothing then; with Disk if a device call failed,
-- which stops it. Until the head gate is written a power loss leaves the old content, from then on the old or the new,
-- and after Ok the new.
pub record Compacts {D : Type 0} (disk_of : D → disk.Disk) (old : JournalValue D) (records : List Record)
    (result : Result (Unit {0}) JournalFault) (new : JournalValue D) : Type 0 where
  -- which fault, and the state of the journal in memory
  pub stopped : IsErrOf result Stopped ↔ (is_stopped old ≡ true)
  pub spent : IsErrOf result GenerationsSpent ↔ ((is_stopped old ≡ false) × (generation old ≡ last_generation))
  pub names : OnErr result (IsErrOf result Stopped ⊎ (IsErrOf result GenerationsSpent ⊎ IsErrOf result Disk))
  pub same : OnErr result (IsErrOf result Disk ⊎ (new ≡ old))
  pub halted : IsErrOf result Disk → (is_stopped new ≡ true) × IsIdle new
  pub at_fault : OnErr result (new.place ≡ old.place)
  -- it is running, nothing is under way, and it continues after the records
  pub running : OnOk result ((is_stopped new ≡ false) × IsIdle new)
  pub place : OnOk result (new.place ≡ compacted_place old.place (length records))
  -- its device calls: the maximum number, and the number by the gates of the other area that read open
  pub work : IsWorkOf (disk_in disk_of old) (disk_in disk_of new) result
  pub most : (disk_in disk_of new).clock ≤ (disk_in disk_of old).clock + (519 + length records)
  pub calls : OnOk result (IsHonest (disk_in disk_of new) → (opened : ℕ)
      → HasOpenGates (now (disk_in disk_of old)).seen (other_area old.place.area) gates opened
      → (disk_in disk_of new).clock ≡ (disk_in disk_of old).clock + (262 + opened + length records))
  -- the old content is at each moment before the head gate is written
  pub until : IsHonest (disk_in disk_of new) → (before : Content) → HoldsContent disk_of old before → (opened : ℕ)
      → HasOpenGates (now (disk_in disk_of old)).seen (other_area old.place.area) gates opened
      → FindsUntil (disk_in disk_of old) (disk_in disk_of new)
      ((disk_in disk_of old).clock + (261 + opened + length records)) before
  -- the old or the new content at any moment, and the new one after Ok
  pub any_moment : IsHonest (disk_in disk_of new) → (before : Content) → HoldsContent disk_of old before
      → Leaves (disk_in disk_of old) (disk_in disk_of new) (HasEitherJournal before (compacted before records))
  pub done : OnOk result (IsHonest (disk_in disk_of new) → (before : Content) → HoldsContent disk_of old before
      → HoldsContent disk_of new (compacted before records))
  pub kept : OnOk result (IsHonest (disk_in disk_of new) → (before : Content) → HoldsContent disk_of old before
      → (image : Image) → MayLeave (disk_in disk_of new) image → HasJournal image (compacted before records))
  -- its gates read as they were written
  pub gates : OnOk result (IsHonest (disk_in disk_of new)
      → HasNewGates (now (disk_in disk_of old)).seen (now (disk_in disk_of new)).seen (other_area old.place.area))
  -- which sectors are not touched
  pub others : IsHonest (disk_in disk_of new) → (i : ℕ)
      → ¬ CompactWrites (now (disk_in disk_of old)).seen (other_area old.place.area) (length records) i
      → IsSpared (disk_in disk_of old) (disk_in disk_of new) i
