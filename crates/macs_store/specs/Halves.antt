-- A step of a store in two halves: the device call that comes next, and what it led to, whoever made it.
use Rattle.std.specs.Prelude.{◌≡◌, ℕ, true, false, List, Some, Result, Ok, OnErr, OnOk}
use Rattle.macs_disk.specs.Disk as disk
use Rattle.macs_disk.specs.DeviceCalls.{IsMade}
use Rattle.macs_disk.specs.declared.device_call.DeviceCall.{DeviceCall}
use Rattle.macs_disk.specs.declared.disk.DeviceFault.{DeviceFault}
use Rattle.macs_journal.specs.Halves as journal
use Rattle.macs_journal.specs.declared.fault.JournalFault.{JournalFault}
use Rattle.macs_journal.specs.declared.work.JournalStep.{JournalStep}
use Rattle.macs_journal.specs.declared.work.JournalStep.TheVariants.{Finished, Going, Idle}
use Rattle.macs_store.specs.Snapshot.{snapshot}
use Rattle.macs_store.specs.Stepping.{Steps}
use Rattle.macs_store.specs.Value.{IsIdle, StoreValue, device_in, disk_in, is_stopped, on_device, standing_in}
use Rattle.macs_store.specs.Value.{standing_then}

-- the device call that the work under way needs next
abbrev pub IsNextCall : {D : Type 0} → StoreValue D → DeviceCall → Type 0
IsNextCall s asked = journal.IsNextCall s.journal.place s.journal.under_way (snapshot (standing_in s)) asked

-- the store, with its device as it was before
abbrev pub with_device : {D : Type 0} → StoreValue D → D → StoreValue D
with_device s device = on_device s device

-- What a store makes of the answer of its next device call. Nothing is called. If the call was made, and led from any
-- device before to the present one, this is a step from there. What is in memory then holds regardless of which call
-- was made.
pub record Did {D : Type 0} (disk_of : D → disk.Disk) (old : StoreValue D) (read : List ℕ)
    (answer : Result (Unit {0}) DeviceFault) (result : Result JournalStep JournalFault) (new : StoreValue D)
    : Type 0 where
  pub device : device_in new ≡ device_in old
  pub busy : ¬ (result ≡ Ok Idle)
  pub running : OnOk result (is_stopped new ≡ false)
  pub halted : OnErr result ((is_stopped new ≡ true) × IsIdle new)
  pub standing : (¬ (result ≡ Ok Finished)) → new.held ≡ old.held
  pub going : result ≡ Ok Going → (¬ IsIdle new) × (standing_then new ≡ standing_then old)
  pub finished : result ≡ Ok Finished → IsIdle new × (standing_then old ≡ Some (standing_in new))
  pub steps : (before : D) (asked : DeviceCall) → IsNextCall old asked
      → IsMade (disk_of before) (disk_in disk_of old) asked read answer
      → Steps disk_of (with_device old before) result new
