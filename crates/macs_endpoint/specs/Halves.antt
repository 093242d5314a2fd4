-- A step of an endpoint in parts: its work begins, the device call comes next, and somebody makes it; then the endpoint
-- continues. Frames and commands may pass between any two of them.
use Rattle.std.specs.Prelude.{◌≡◌, ℕ, false, List, Ok, Result}
use Rattle.macs_disk.specs.Disk.{Disk}
use Rattle.macs_disk.specs.DeviceCalls.{IsMade}
use Rattle.macs_disk.specs.declared.device_call.DeviceCall.{DeviceCall}
use Rattle.macs_disk.specs.declared.disk.DeviceFault.{DeviceFault}
use Rattle.macs_store.specs.Halves as store
use Rattle.macs_store.specs.Value.{IsIdle}
use Rattle.macs_endpoint.specs.Calls.{IsCall, IsStep}
use Rattle.macs_endpoint.specs.State.{Advanced, Advances}
use Rattle.macs_endpoint.specs.Value.{EndpointValue, device_in, disk_in, is_stopped, on_device}
use Rattle.macs_endpoint.specs.declared.fault.StepFault.{StepFault}
use Rattle.macs_endpoint.specs.declared.progress.Step.{Step as Progress}
use Rattle.macs_endpoint.specs.declared.progress.Step.TheVariants.{Worked}

-- the device call that the work under way needs next
abbrev pub IsNextCall : {D : Type 0} → EndpointValue D → DeviceCall → Type 0
IsNextCall e asked = store.IsNextCall e.store asked

-- the endpoint, with its device as it was before
abbrev pub with_device : {D : Type 0} → EndpointValue D → D → EndpointValue D
with_device e device = on_device e device

-- Work is under way. If it was under way before nothing changed; otherwise what was due has begun, which is a call like
-- any other, that returns Worked. Either way, what the next device call makes of it is a step of the endpoint before.
pub record HasBegun {D : Type 0} (disk_of : D → Disk) (old new : EndpointValue D) : Type 0 where
  pub running : is_stopped new ≡ false
  pub busy : ¬ IsIdle new.store
  pub same : (¬ IsIdle old.store) → new ≡ old
  pub call : IsIdle old.store → IsCall disk_of old Advances (Advanced (Ok Worked)) new
  pub step : (result : Result Progress StepFault) (later : EndpointValue D)
      → IsCall disk_of new Advances (Advanced result) later → IsStep disk_of old result later

-- work is under way, as in `HasBegun`, and its next device call has no answer yet: the disk is not prompt
abbrev pub Awaits : {D : Type 0} → (D → Disk) → EndpointValue D → EndpointValue D → Type 0
Awaits disk_of old new = HasBegun disk_of old new × ((disk_in disk_of new).prompt ≡ false)

-- What an endpoint makes of the answer of its next device call. Nothing is called. If the call was made, and led from
-- any device before to the present one, this is a step from there.
pub record Did {D : Type 0} (disk_of : D → Disk) (old : EndpointValue D) (read : List ℕ)
    (answer : Result (Unit {0}) DeviceFault) (result : Result Progress StepFault) (new : EndpointValue D)
    : Type 0 where
  pub device : device_in new ≡ device_in old
  pub step : (before : D) (asked : DeviceCall) → IsNextCall old asked
      → IsMade (disk_of before) (disk_in disk_of old) asked read answer
      → IsCall disk_of (with_device old before) Advances (Advanced result) new
