-- A journal's work, one device call at a time.
use Rattle.std.specs.Prelude.{◌≡◌, ◌≢◌, ◌<◌, ◌≤◌, ◌↔◌, ◌⊎◌, ◌+◌, ℕ, true, false, List, length, Result, Ok, IsErrOf}
use Rattle.std.specs.Prelude.{OnOk, OnErr, is_err}
use Rattle.macs_disk.specs.States.{Image}
use Rattle.macs_disk.specs.Disk.{IsDeviceCall, IsHonest, MayLeave, now}
use Rattle.macs_disk.specs.Disk as disk
use Rattle.macs_disk.specs.Runs.{Leaves}
use Rattle.macs_record.specs.Decoding.{IsSectorOf}
use Rattle.macs_record.specs.Gates.{open_gate}
use Rattle.macs_record.specs.Heads.{Head}
use Rattle.macs_record.specs.declared.record.Record.{Record}
use Rattle.macs_journal.specs.Appending.{HasEitherJournal}
use Rattle.macs_journal.specs.Areas.{gate, other_area, slot_body, slots}
use Rattle.macs_journal.specs.Found.{Content, HasJournal, content_with_record}
use Rattle.macs_journal.specs.Compacted.{compacted, last_generation, next_head}
use Rattle.macs_journal.specs.Stages.{AtStage, IsCompacted, IsUnderWay}
use Rattle.macs_journal.specs.Value.{AreLent, ComesTo, HoldsContent, HoldsWith, IsHolding, IsIdle, IsMadeOf}
use Rattle.macs_journal.specs.Value.{IsNoCompact, JournalValue, append_left, device_in, disk_in, generation, is_stopped}
use Rattle.macs_journal.specs.Value.{left_of}
use Rattle.macs_journal.specs.Work.{IsSpared, IsWorkOf}
use Rattle.macs_journal.specs.declared.fault.JournalFault.{JournalFault}
use Rattle.macs_journal.specs.declared.fault.JournalFault.TheVariants.{Disk, GenerationsSpent, Stopped}
use Rattle.macs_journal.specs.declared.under_way.UnderWay.{UnderWay}
use Rattle.macs_journal.specs.declared.under_way.UnderWay.TheVariants as under_way
use Rattle.macs_journal.specs.declared.place.Place.{Place}
use Rattle.macs_journal.specs.declared.work.JournalStep.{JournalStep}
use Rattle.macs_journal.specs.declared.work.JournalStep.TheVariants.{Finished, Going, Idle}
use Rattle.macs_journal.specs.declared.work.Work.{Work}
use Rattle.macs_journal.specs.declared.work.Work.TheVariants.{Append, Compact}

-- ---- tasks

-- to append a record, or to compact the journal with these
pub data Task : Type 0 where
  Appends : Record → Task
  Compaction : List Record → Task

-- the task that the work requests
abbrev pub task_of : Work → Task
task_of (Append r) = Appends r
task_of (Compact records) = Compaction records.items

-- the content that it makes from a content
abbrev pub after_task : Task → Content → Content
after_task (Appends r) before = content_with_record before r
after_task (Compaction records) before = compacted before records

-- the area is not full, or there is at least one record for a compaction
abbrev pub FitsWork : Place → Work → Type 0
FitsWork place (Append r) = place.free < slots
FitsWork place (Compact records) = 1 ≤ length records.items

-- it is a compaction, and the generation is the last
abbrev pub IsSpent : {D : Type 0} → JournalValue D → Task → Type 0
IsSpent j (Appends r) = ⊥
IsSpent j (Compaction records) = generation j ≡ last_generation

-- the work that it starts: the sector of the record, or the head of the next generation; the number of calls left
-- determines which call is next
abbrev pub IsTaskUnderWay : {D : Type 0} → JournalValue D → Task → UnderWay → Type 0
IsTaskUnderWay j task under_way.Nothing = ⊥
IsTaskUnderWay j (Appends r) (under_way.Append work) = IsSectorOf r work.sector
IsTaskUnderWay j (Appends r) (under_way.Compact work) = ⊥
IsTaskUnderWay j (Compaction records) (under_way.Append work) = ⊥
IsTaskUnderWay j (Compaction records) (under_way.Compact work) = next_head j.place.head (length records) ≡ work.head

-- the maximum number of device calls it takes
abbrev pub calls_of : Task → ℕ
calls_of (Appends r) = 4
calls_of (Compaction records) = 519 + length records

-- A task is started, and no device call is made. Fails with Stopped if and only if a device call failed before; with
-- GenerationsSpent if and only if it is a compaction and the generation is the last; nothing changes then.
pub record Starts {D : Type 0} (disk_of : D → disk.Disk) (old : JournalValue D) (task : Task)
    (result : Result (Unit {0}) JournalFault) (new : JournalValue D) : Type 0 where
  pub stopped : IsErrOf result Stopped ↔ (is_stopped old ≡ true)
  pub spent : IsErrOf result GenerationsSpent ↔ ((is_stopped old ≡ false) × IsSpent old task)
  pub names : OnErr result (IsErrOf result Stopped ⊎ IsErrOf result GenerationsSpent)
  pub same : OnErr result (new ≡ old)
  pub device : device_in new ≡ device_in old
  pub place : new.place ≡ old.place
  pub running : OnOk result (is_stopped new ≡ false)
  pub under_way : OnOk result (IsTaskUnderWay old task new.under_way)
  pub left : OnOk result (left_of new.under_way ≡ calls_of task)
  pub holds : OnOk result ((before : Content) → HoldsContent disk_of old before
      → IsHolding (disk_in disk_of new) new.place new.under_way before (after_task task before))

-- ---- one call

-- the same record or the same new head, at another device call
abbrev pub IsSameTask : UnderWay → UnderWay → Type 0
IsSameTask (under_way.Append work) (under_way.Append later) = later.sector ≡ work.sector
IsSameTask (under_way.Compact work) (under_way.Compact later) = later.head ≡ work.head
IsSameTask old new = ⊥

-- where the journal continues once its work is done
abbrev pub place_then : Place → UnderWay → Place
place_then place under_way.Nothing = place
place_then place (under_way.Append work) = record place { free = place.free + 1 }
place_then place (under_way.Compact work) =
    record { area = other_area place.area; head = work.head; free = work.head.count }

-- an append is under way
abbrev pub IsAppendUnderWay : UnderWay → Type 0
IsAppendUnderWay (under_way.Append work) = Unit {0}
IsAppendUnderWay other = ⊥

-- a compaction of the journal at this place is under way, with as many records as these
abbrev pub CompactsWith : Place → UnderWay → List Record → Type 0
CompactsWith place (under_way.Compact work) records = next_head place.head (length records) ≡ work.head
CompactsWith place other records = ⊥

-- a compaction is under way
abbrev pub IsCompactionUnderWay : UnderWay → Type 0
IsCompactionUnderWay (under_way.Compact work) = Unit {0}
IsCompactionUnderWay other = ⊥

-- the work is finished if nothing is left under way
abbrev pub step_of : UnderWay → JournalStep
step_of under_way.Nothing = Finished
step_of (under_way.Append work) = Going
step_of (under_way.Compact work) = Going

-- One device call of the append under way.
pub record AdvancesAppend {D : Type 0} (disk_of : D → disk.Disk) (old : JournalValue D)
    (result : Result (Unit {0}) JournalFault) (new : JournalValue D) : Type 0 where
  pub names : OnErr result (IsErrOf result Disk)
  pub work : IsWorkOf (disk_in disk_of old) (disk_in disk_of new) result
  pub no_compact : IsNoCompact new.under_way
  pub after : is_stopped new ≡ is_err result
  pub device : IsDeviceCall (disk_in disk_of old) (disk_in disk_of new) result
  pub one : (disk_in disk_of new).clock ≤ (disk_in disk_of old).clock + 1
  pub call : OnOk result ((disk_in disk_of new).clock ≡ (disk_in disk_of old).clock + 1)
  pub idle : OnErr result (IsIdle new)
  pub left : OnOk result (append_left new.under_way + 1 ≡ append_left old.under_way)
  pub place : 1 ≤ append_left new.under_way → new.place ≡ old.place
  pub task : (¬ IsIdle new) → IsSameTask old.under_way new.under_way
  pub moved : OnOk result (IsIdle new → new.place ≡ record old.place { free = old.place.free + 1 })
  pub at_fault : OnErr result (new.place ≡ old.place)
  pub any_moment : IsHonest (disk_in disk_of new) → (before after : Content)
      → IsHolding (disk_in disk_of old) old.place old.under_way before after
      → Leaves (disk_in disk_of old) (disk_in disk_of new) (HasEitherJournal before after)
  pub next : OnOk result (IsHonest (disk_in disk_of new) → (before after : Content)
      → IsHolding (disk_in disk_of old) old.place old.under_way before after
      → ComesTo (disk_in disk_of new) new.place new.under_way before after)
  -- once it is done the gate holds exactly what was written; regardless of the call's answer, all sectors except the
  -- body and the gate are not touched
  pub opened : OnOk result (IsIdle new → IsHonest (disk_in disk_of new) → (before after : Content)
      → IsHolding (disk_in disk_of old) old.place old.under_way before after
      → (now (disk_in disk_of new)).seen (gate old.place.area (old.place.free + 1)) ≡ open_gate)
  pub others : IsHonest (disk_in disk_of new) → (i : ℕ) → i ≢ slot_body old.place.area old.place.free
      → i ≢ gate old.place.area (old.place.free + 1)
      → IsSpared (disk_in disk_of old) (disk_in disk_of new) i

-- One device call of the work under way, with the records passed to it.
pub record Advances {D : Type 0} (disk_of : D → disk.Disk) (old : JournalValue D) (snapshot : List Record)
    (result : Result (Unit {0}) JournalFault) (new : JournalValue D) : Type 0 where
  pub names : OnErr result (IsErrOf result Disk)
  pub work : IsWorkOf (disk_in disk_of old) (disk_in disk_of new) result
  pub after : is_stopped new ≡ is_err result
  pub device : IsDeviceCall (disk_in disk_of old) (disk_in disk_of new) result
  pub one : (disk_in disk_of new).clock ≤ (disk_in disk_of old).clock + 1
  pub call : OnOk result ((disk_in disk_of new).clock ≡ (disk_in disk_of old).clock + 1)
  pub idle : OnErr result (IsIdle new)
  pub left : OnOk result (left_of new.under_way + 1 ≤ left_of old.under_way)
  pub exact : OnOk result (IsNoCompact old.under_way → left_of new.under_way + 1 ≡ left_of old.under_way)
  pub place : (¬ IsIdle new) → new.place ≡ old.place
  pub task : (¬ IsIdle new) → IsSameTask old.under_way new.under_way
  pub moved : OnOk result (IsIdle new → new.place ≡ place_then old.place old.under_way)
  pub at_fault : OnErr result (new.place ≡ old.place)
  pub lent : (later : List Record) → AreLent old.under_way later → AreLent new.under_way later
  pub made : (before after : Content) → IsMadeOf old.under_way snapshot before after
      → IsMadeOf new.under_way snapshot before after
  pub any_moment : IsHonest (disk_in disk_of new) → (before after : Content)
      → HoldsWith (disk_in disk_of old) old.place old.under_way snapshot before after
      → Leaves (disk_in disk_of old) (disk_in disk_of new) (HasEitherJournal before after)
  pub next : OnOk result (IsHonest (disk_in disk_of new) → (before after : Content)
      → HoldsWith (disk_in disk_of old) old.place old.under_way snapshot before after
      → ComesTo (disk_in disk_of new) new.place new.under_way before after)

-- before the next device call of a compaction under way with this head, or after its last one
abbrev pub AtNextCall : (began d : disk.Disk) → ℕ → Head → List Record → UnderWay → Type 0
AtNextCall began d area head records under_way.Nothing = IsCompacted began d area head records
AtNextCall began d area head records (under_way.Append work) = ⊥
AtNextCall began d area head records (under_way.Compact work) = (work.head ≡ head)
    × AtStage began d area head records work.stage

-- One device call of the compaction under way, of these records, which continues from its current stage. Regardless of
-- the call's answer, the compaction is under way; after Ok it is before its next call, or done.
pub record AdvancesCompact {D : Type 0} (disk_of : D → disk.Disk) (old : JournalValue D) (records : List Record)
    (result : Result (Unit {0}) JournalFault) (new : JournalValue D) : Type 0 where
  pub advances : Advances disk_of old records result new
  pub under_way : IsHonest (disk_in disk_of new) → (began : disk.Disk) (head : Head)
      → AtNextCall began (disk_in disk_of old) (other_area old.place.area) head records old.under_way
      → IsUnderWay began (disk_in disk_of new) (other_area old.place.area) head records
  pub next : OnOk result (IsHonest (disk_in disk_of new) → (began : disk.Disk) (head : Head)
      → AtNextCall began (disk_in disk_of old) (other_area old.place.area) head records old.under_way
      → AtNextCall began (disk_in disk_of new) (other_area old.place.area) head records new.under_way)

-- A step of a journal: one device call of the work under way. Stopped if and only if a device call failed before, else
-- Idle if and only if nothing is under way: then no call is made and nothing changes. Disk if and only if the call
-- failed, which stops the journal and leaves nothing under way. Otherwise the work continues, the same before and
-- after, or is finished: then the content is the one after it. The clauses about contents apply if the work under way
-- makes the one from the other with the records that are passed.
pub record Steps {D : Type 0} (disk_of : D → disk.Disk) (old : JournalValue D) (snapshot : List Record)
    (result : Result JournalStep JournalFault) (new : JournalValue D) : Type 0 where
  -- the answer, and the state of the journal in memory
  pub stopped : IsErrOf result Stopped ↔ (is_stopped old ≡ true)
  pub idle : (result ≡ Ok Idle) ↔ ((is_stopped old ≡ false) × IsIdle old)
  pub names : OnErr result (IsErrOf result Stopped ⊎ IsErrOf result Disk)
  pub same : (IsErrOf result Stopped ⊎ (result ≡ Ok Idle)) → new ≡ old
  pub halted : IsErrOf result Disk → (is_stopped new ≡ true) × IsIdle new
  pub running : OnOk result (is_stopped new ≡ false)
  pub going : result ≡ Ok Going → ¬ IsIdle new
  pub finished : result ≡ Ok Finished → IsIdle new
  pub place : (¬ (result ≡ Ok Finished)) → new.place ≡ old.place
  pub task : result ≡ Ok Going → IsSameTask old.under_way new.under_way
  pub moved : result ≡ Ok Finished → new.place ≡ place_then old.place old.under_way
  -- as many records must be passed as before
  pub lent : (later : List Record) → AreLent old.under_way later → AreLent new.under_way later
  -- its device calls: one with the same answer as the step, if work is under way and none failed before
  pub work : IsWorkOf (disk_in disk_of old) (disk_in disk_of new) result
  pub device : is_stopped old ≡ false → (¬ IsIdle old) → IsDeviceCall (disk_in disk_of old) (disk_in disk_of new) result
  pub one : (disk_in disk_of new).clock ≤ (disk_in disk_of old).clock + 1
  pub call : OnOk result ((¬ IsIdle old) → (disk_in disk_of new).clock ≡ (disk_in disk_of old).clock + 1)
  -- fewer are left, and exactly one fewer of an append
  pub left : OnOk result ((¬ IsIdle old) → left_of new.under_way + 1 ≤ left_of old.under_way)
  pub exact : OnOk result ((¬ IsIdle old) → IsNoCompact old.under_way
      → left_of new.under_way + 1 ≡ left_of old.under_way)
  -- the content before the work or after it at any moment, and the one after it once it is finished
  pub any_moment : IsHonest (disk_in disk_of new) → (before after : Content)
      → HoldsWith (disk_in disk_of old) old.place old.under_way snapshot before after
      → Leaves (disk_in disk_of old) (disk_in disk_of new) (HasEitherJournal before after)
  pub goes_on : result ≡ Ok Going → IsHonest (disk_in disk_of new) → (before after : Content)
      → HoldsWith (disk_in disk_of old) old.place old.under_way snapshot before after
      → HoldsWith (disk_in disk_of new) new.place new.under_way snapshot before after
  pub done : result ≡ Ok Finished → IsHonest (disk_in disk_of new) → (before after : Content)
      → HoldsWith (disk_in disk_of old) old.place old.under_way snapshot before after
      → IsHolding (disk_in disk_of new) new.place new.under_way after after
  pub kept : result ≡ Ok Finished → IsHonest (disk_in disk_of new) → (before after : Content)
      → HoldsWith (disk_in disk_of old) old.place old.under_way snapshot before after
      → (image : Image) → MayLeave (disk_in disk_of new) image → HasJournal image after
