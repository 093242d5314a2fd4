-- A step in two halves: the device call that comes next, and what it led to, whoever made it.
use Rattle.std.specs.Prelude.{◌≡◌, ◌+◌, ℕ, List, Result, Ok, OnOk, OnErr, is_err}
use Rattle.macs_disk.specs.Disk as disk
use Rattle.macs_disk.specs.DeviceCalls.{IsMade}
use Rattle.macs_disk.specs.declared.device_call.DeviceCall.{DeviceCall}
use Rattle.macs_disk.specs.declared.device_call.DeviceCall.TheVariants.{Read, Write, Sync}
use Rattle.macs_disk.specs.declared.disk.DeviceFault.{DeviceFault}
use Rattle.macs_record.specs.Gates.{closed_gate, open_gate}
use Rattle.macs_record.specs.Heads.{Head, IsHeadOf}
use Rattle.macs_record.specs.declared.record.Record.{Record}
use Rattle.macs_journal.specs.Areas.{gate, head_body, other_area, slot_body}
use Rattle.macs_journal.specs.Stages.{IsBodyOf}
use Rattle.macs_journal.specs.Stepping.{Advances, AdvancesAppend, AdvancesCompact, IsSameTask, Steps}
use Rattle.macs_journal.specs.Stepping.{place_then}
use Rattle.macs_journal.specs.Value.{AreLent, IsIdle, JournalValue, device_in, disk_in, is_stopped, on_device}
use Rattle.macs_journal.specs.declared.appending.AppendStage.{AppendStage}
use Rattle.macs_journal.specs.declared.appending.AppendStage.TheVariants as append
use Rattle.macs_journal.specs.declared.compact_stage.CompactStage.{CompactStage}
use Rattle.macs_journal.specs.declared.compact_stage.CompactStage.TheVariants as stage
use Rattle.macs_journal.specs.declared.fault.JournalFault.{JournalFault}
use Rattle.macs_journal.specs.declared.under_way.UnderWay.{UnderWay}
use Rattle.macs_journal.specs.declared.under_way.UnderWay.TheVariants.{Append, Compact, Nothing}
use Rattle.macs_journal.specs.declared.place.Place.{Place}
use Rattle.macs_journal.specs.declared.work.JournalStep.{JournalStep}
use Rattle.macs_journal.specs.declared.work.JournalStep.TheVariants.{Finished, Going, Idle}

-- the device call of a stage of an append
abbrev pub append_call : (area slot : ℕ) → List ℕ → AppendStage → DeviceCall
append_call area slot octets append.Body = Write (slot_body area slot) octets
append_call area slot octets append.BodySync = Sync
append_call area slot octets append.Gate = Write (gate area (slot + 1)) open_gate
append_call area slot octets append.GateSync = Sync

-- the device call of a stage of a compaction
abbrev pub IsCompactCall : ℕ → Head → List Record → CompactStage → DeviceCall → Type 0
IsCompactCall area head records (stage.ReadGate k) asked = asked ≡ Read (gate area k)
IsCompactCall area head records (stage.CloseGate k) asked = asked ≡ Write (gate area k) closed_gate
IsCompactCall area head records stage.GatesSync asked = asked ≡ Sync
IsCompactCall area head records stage.HeadBody asked = (octets : List ℕ) × IsHeadOf head octets
    × (asked ≡ Write (head_body area) octets)
IsCompactCall area head records (stage.Body slot) asked = (octets : List ℕ) × IsBodyOf records slot octets
    × (asked ≡ Write (slot_body area slot) octets)
IsCompactCall area head records stage.BodiesSync asked = asked ≡ Sync
IsCompactCall area head records stage.HeadGate asked = asked ≡ Write (gate area 0) open_gate
IsCompactCall area head records stage.HeadSync asked = asked ≡ Sync

-- the device call that the work under way needs next, with these records if it is a compaction
abbrev pub IsNextCall : Place → UnderWay → List Record → DeviceCall → Type 0
IsNextCall place Nothing snapshot asked = ⊥
IsNextCall place (Append work) snapshot asked =
    asked ≡ append_call place.area place.free work.sector work.stage
IsNextCall place (Compact work) snapshot asked =
    IsCompactCall (other_area place.area) work.head snapshot work.stage asked

-- the journal, with its device as it was before
abbrev pub with_device : {D : Type 0} → JournalValue D → D → JournalValue D
with_device j device = on_device j device

-- What an append makes of the answer of its next device call. Nothing is called. If the call was made, and led from any
-- device before to the present one, the append advanced by it from there.
pub record DidAppend {D : Type 0} (disk_of : D → disk.Disk) (old : JournalValue D)
    (answer : Result (Unit {0}) DeviceFault)
    (result : Result (Unit {0}) JournalFault) (new : JournalValue D) : Type 0 where
  pub device : device_in new ≡ device_in old
  pub after : is_stopped new ≡ is_err result
  pub moved : OnOk result (IsIdle new → new.place ≡ place_then old.place old.under_way)
  pub idle : OnErr result (IsIdle new)
  pub going : (¬ IsIdle new) → IsSameTask old.under_way new.under_way × (new.place ≡ old.place)
  pub advances : (before : D) (snapshot : List Record) (asked : DeviceCall) (read : List ℕ)
      → IsNextCall old.place old.under_way snapshot asked
      → IsMade (disk_of before) (disk_in disk_of old) asked read answer
      → AdvancesAppend disk_of (with_device old before) result new

-- the same of a compaction
pub record DidCompact {D : Type 0} (disk_of : D → disk.Disk) (old : JournalValue D) (read : List ℕ)
    (answer : Result (Unit {0}) DeviceFault) (result : Result (Unit {0}) JournalFault) (new : JournalValue D)
    : Type 0 where
  pub device : device_in new ≡ device_in old
  pub after : is_stopped new ≡ is_err result
  pub moved : OnOk result (IsIdle new → new.place ≡ place_then old.place old.under_way)
  pub idle : OnErr result (IsIdle new)
  pub going : (¬ IsIdle new) → IsSameTask old.under_way new.under_way × (new.place ≡ old.place)
  pub advances : (before : D) (snapshot : List Record) (asked : DeviceCall) → AreLent old.under_way snapshot
      → IsNextCall old.place old.under_way snapshot asked
      → IsMade (disk_of before) (disk_in disk_of old) asked read answer
      → AdvancesCompact disk_of (with_device old before) snapshot result new

-- the same of either
pub record DidAdvance {D : Type 0} (disk_of : D → disk.Disk) (old : JournalValue D) (read : List ℕ)
    (answer : Result (Unit {0}) DeviceFault) (result : Result (Unit {0}) JournalFault) (new : JournalValue D)
    : Type 0 where
  pub device : device_in new ≡ device_in old
  pub after : is_stopped new ≡ is_err result
  pub moved : OnOk result (IsIdle new → new.place ≡ place_then old.place old.under_way)
  pub idle : OnErr result (IsIdle new)
  pub going : (¬ IsIdle new) → IsSameTask old.under_way new.under_way × (new.place ≡ old.place)
  pub advances : (before : D) (snapshot : List Record) (asked : DeviceCall) → AreLent old.under_way snapshot
      → IsNextCall old.place old.under_way snapshot asked
      → IsMade (disk_of before) (disk_in disk_of old) asked read answer
      → Advances disk_of (with_device old before) snapshot result new

-- The same of a step: it is one from a journal whose device was as before that call. What is in memory then holds
-- regardless of which call was made.
pub record Did {D : Type 0} (disk_of : D → disk.Disk) (old : JournalValue D) (read : List ℕ)
    (answer : Result (Unit {0}) DeviceFault) (result : Result JournalStep JournalFault) (new : JournalValue D)
    : Type 0 where
  pub device : device_in new ≡ device_in old
  -- what is in memory
  pub after : is_stopped new ≡ is_err result
  pub finished : result ≡ Ok Finished → IsIdle new × (new.place ≡ place_then old.place old.under_way)
  pub going : result ≡ Ok Going → IsSameTask old.under_way new.under_way × (new.place ≡ old.place)
  pub idle : OnErr result (IsIdle new)
  pub busy : ¬ (result ≡ Ok Idle)
  pub steps : (before : D) (snapshot : List Record) (asked : DeviceCall) → AreLent old.under_way snapshot
      → IsNextCall old.place old.under_way snapshot asked
      → IsMade (disk_of before) (disk_in disk_of old) asked read answer
      → Steps disk_of (with_device old before) snapshot result new
