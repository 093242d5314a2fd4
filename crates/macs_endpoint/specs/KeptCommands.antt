-- Commands that are kept.
use Rattle.std.specs.Prelude.{◌≡◌, ◌≤◌, ◌+◌, ℕ, Some, Result, IsErrOf, OnErr, OnOk}
use Rattle.macs_config.specs.declared.command.Command.{Command}
use Rattle.macs_disk.specs.Disk.{Disk}
use Rattle.macs_store.specs.Keeps.{generation_with_change, most_with_change, slots_with_change}
use Rattle.macs_store.specs.Stepping.{StartsCommit}
use Rattle.macs_store.specs.Value.{calls_left, generation, generation_then, slots_then, used_slots}
use Rattle.macs_store.specs.declared.fault.CommitFault.{CommitFault}
use Rattle.macs_endpoint.specs.Calls.{IsCall}
use Rattle.macs_endpoint.specs.RefillCosts.{reserved_in}
use Rattle.macs_endpoint.specs.State.{Commands, Ran}
use Rattle.macs_endpoint.specs.Value.{EndpointValue, IsKeeping, IsSoundEndpoint, disk_in}
use Rattle.macs_endpoint.specs.declared.fault.CommandFault.{CommandFault}
use Rattle.macs_endpoint.specs.declared.fault.CommandFault.TheVariants as ran
use Rattle.macs_endpoint.specs.declared.queue.Waiting.{Waiting}

-- the maximum number of device calls of a command that does not wait: those left of a reservation under way, and then
-- its own
abbrev pub most_in_command : {D : Type 0} → EndpointValue D → ℕ
most_in_command e = calls_left e.store + most_with_change (slots_then e.store) (reserved_in e)

-- A command is kept, by one change after a reservation under way, or not. If no more change can be kept, the
-- reservation's calls are all.
pub record KeepsCommand {D : Type 0} (disk_of : D → Disk) (old : EndpointValue D) (command : Command)
    (result : Result (Unit {0}) CommandFault) (new : EndpointValue D) : Type 0 where
  pub call : IsCall disk_of old (Commands command) (Ran result) new
  pub slots : OnOk result (used_slots new.store ≡ slots_with_change (slots_then old.store) (reserved_in old))
  pub generation : OnOk result
      (generation new.store ≡ generation_with_change (slots_then old.store) (generation_then old.store))
  pub most : (disk_in disk_of new).clock ≤ (disk_in disk_of old).clock + most_in_command old
  pub spent : IsErrOf result ran.GenerationsSpent
      → (disk_in disk_of new).clock ≤ (disk_in disk_of old).clock + calls_left old.store

-- The first pending command is started, and no device call is made; or the store refuses it, and nothing changes.
pub record StartsFirst {D : Type 0} (disk_of : D → Disk) (old : EndpointValue D) (first : Waiting)
    (result : Result (Unit {0}) CommitFault) (new : EndpointValue D) : Type 0 where
  pub starts : StartsCommit disk_of old.store first.command result new.store
  pub same : OnErr result (new ≡ old)
  pub taken : OnOk result (new ≡ record old { store = new.store; under_way = Some first.command })
  pub keeping : OnOk result (IsKeeping new)
  pub sound : OnOk result (IsSoundEndpoint old)
