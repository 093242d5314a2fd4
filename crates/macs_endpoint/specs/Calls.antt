-- One call of an endpoint.
use Rattle.std.specs.Prelude.{◌≡◌, ◌<◌, ◌^◌, All, Result, Ok, Err, false}
use Rattle.macs_config.specs.Apply.{IsCommand}
use Rattle.macs_disk.specs.Disk.{Disk, FailsOnce, IsHonest, Works}
use Rattle.macs_disk.specs.Runs.{Leaves}
use Rattle.macs_txsc.specs.Value as txsc
use Rattle.macs_rxsc.specs.Value as rxsc
use Rattle.macs_store.specs.Value.{IsIdle, standing_in}
use Rattle.macs_endpoint.specs.Advancing.{AdvancesAs, CallsAtOnce, turn_after}
use Rattle.macs_endpoint.specs.Ceilings.{CeilingsAfter}
use Rattle.macs_endpoint.specs.Counting.{channel_counters_after, rx_counters_after, tx_counters_after}
use Rattle.macs_endpoint.specs.Limits.{IsLimited, IsStill}
use Rattle.macs_endpoint.specs.Restart.{FitsCall}
use Rattle.macs_endpoint.specs.State.{Advanced, Advances, Call, Commands, Logs, Protects, Ran, Receives, Refilled}
use Rattle.macs_endpoint.specs.State.{Refills, Reply, Rested, Rests, Submits, no_logs}
use Rattle.macs_endpoint.specs.Step.{Step}
use Rattle.macs_endpoint.specs.Value.{EndpointValue, IsBacked, disk_in, is_stopped, state_of}
use Rattle.macs_endpoint.specs.declared.fault.CommandFault.TheVariants as ran
use Rattle.macs_endpoint.specs.declared.fault.RefillFault.TheVariants as refill
use Rattle.macs_endpoint.specs.declared.fault.RestFault.TheVariants as rest
use Rattle.macs_endpoint.specs.declared.fault.StepFault.{StepFault}
use Rattle.macs_endpoint.specs.declared.fault.StepFault.TheVariants as step
use Rattle.macs_endpoint.specs.declared.progress.Step.{Step as Progress}

-- ---- the arguments of a call

-- a command and the octets of a frame are in the ranges of their types
abbrev pub IsInRange : Call → Type 0
IsInRange (Commands command) = IsCommand command
IsInRange Refills = Unit {0}
IsInRange Rests = Unit {0}
IsInRange (Submits command) = IsCommand command
IsInRange Advances = Unit {0}
IsInRange (Protects plain) = All (λ octet. octet < 2 ^ 8) plain
IsInRange (Receives frame) = All (λ octet. octet < 2 ^ 8) frame

-- ---- on every disk

-- what a step of a running endpoint does, or the first part of one, if the call is a step
abbrev pub AdvancesIn : {D : Type 0} → (D → Disk) → EndpointValue D → Call → Reply → EndpointValue D → Type 0
AdvancesIn disk_of old Advances (Advanced result) new = is_stopped old ≡ false → AdvancesAs disk_of old result new
AdvancesIn disk_of old call reply new = Unit {0}

-- no work is under way after a command, a refill or a rest that ran to its end, or that the journal has no room for
abbrev pub EndsWork : {D : Type 0} → Call → Reply → EndpointValue D → Type 0
EndsWork (Commands command) (Ran (Ok done)) new = IsIdle new.store
EndsWork (Commands command) (Ran (Err ran.GenerationsSpent)) new = IsIdle new.store
EndsWork Refills (Refilled (Ok done)) new = IsIdle new.store
EndsWork Refills (Refilled (Err refill.GenerationsSpent)) new = IsIdle new.store
EndsWork Rests (Rested (Ok done)) new = IsIdle new.store
EndsWork Rests (Rested (Err rest.GenerationsSpent)) new = IsIdle new.store
EndsWork call reply new = Unit {0}

-- What a caller sees of one call: its arguments are in range; it is a step of the machine; the new configuration and
-- ceilings; when the answers occur that a step leaves to the endpoint; which calls make no device call; after which no
-- work is under way; what a step of its work does, and whose turn it is afterwards; what is counted.
pub record CallBehaves {D : Type 0} (disk_of : D → Disk) (old : EndpointValue D) (call : Call) (reply : Reply)
    (new : EndpointValue D) : Type 0 where
  pub in_range : IsInRange call
  pub step : (logs : Logs) → (after : Logs) × Step (state_of old logs) call reply (state_of new after)
  pub ceilings : CeilingsAfter (state_of old no_logs) (standing_in old.store) old.reserving call reply
      (standing_in new.store)
  pub limited : IsLimited old call reply new
  pub still : IsStill old call reply new
  pub ends_work : EndsWork call reply new
  pub advances : AdvancesIn disk_of old call reply new
  pub turn : new.turn ≡ turn_after old call reply
  pub tx_counters : txsc.counters_of new.tx
      ≡ tx_counters_after (state_of old no_logs) call reply (txsc.counters_of old.tx)
  pub rx_counters : rxsc.counters_of new.rx ≡ rx_counters_after reply (rxsc.counters_of old.rx)
  pub channel_counters : rxsc.channel_counters_of new.rx
      ≡ channel_counters_after (state_of old no_logs) call reply (rxsc.channel_counters_of old.rx)

-- exactly one device call between these failed, if and only if the answer is Disk
abbrev pub Fails : Disk → Disk → Reply → Type 0
Fails old new (Ran (Err ran.Disk)) = FailsOnce old new
Fails old new (Refilled (Err refill.Disk)) = FailsOnce old new
Fails old new (Rested (Err rest.Disk)) = FailsOnce old new
Fails old new (Advanced (Err step.Disk)) = FailsOnce old new
Fails old new reply = new.failures ≡ old.failures

-- its device calls
pub record DeviceCalls {D : Type 0} (disk_of : D → Disk) (old : EndpointValue D) (reply : Reply)
    (new : EndpointValue D) : Type 0 where
  pub works : Works (disk_in disk_of old) (disk_in disk_of new)
  pub fails : Fails (disk_in disk_of old) (disk_in disk_of new) reply

-- ---- on an honest disk that held what was in memory

-- What a power loss leaves of one call: at each moment since it began an image fits the state before it, with its
-- command under way, or the state after it; and the disk holds what is in memory again.
pub record Survives {D : Type 0} (disk_of : D → Disk) (old : EndpointValue D) (call : Call)
    (new : EndpointValue D) : Type 0 where
  pub any_moment : (logs after : Logs) → Leaves (disk_in disk_of old) (disk_in disk_of new)
      (FitsCall (disk_in disk_of old).sectors (state_of old logs) call (state_of new after))
  pub backed : IsBacked disk_of new

-- ---- all of it

-- one call, regardless of what happened before it
pub record IsCall {D : Type 0} (disk_of : D → Disk) (old : EndpointValue D) (call : Call) (reply : Reply)
    (new : EndpointValue D) : Type 0 where
  pub behaves : CallBehaves disk_of old call reply new
  pub device : DeviceCalls disk_of old reply new
  pub survives : IsHonest (disk_in disk_of new) → IsBacked disk_of old → Survives disk_of old call new

-- a step, as one call: if it begins work it makes the first device call of that
abbrev pub IsStep : {D : Type 0} → (D → Disk) → EndpointValue D → Result Progress StepFault → EndpointValue D → Type 0
IsStep disk_of old result new =
    IsCall disk_of old Advances (Advanced result) new × CallsAtOnce disk_of old result new
