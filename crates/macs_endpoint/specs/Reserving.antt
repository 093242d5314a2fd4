-- Reservations of packet numbers.
use Rattle.std.specs.Prelude.{◌≡◌, ◌⊎◌, ◌↔◌, ◌≤◌, ◌+◌, Some, None, Result, Ok, Err, IsErrOf, OnErr, OnOk}
use Rattle.macs_disk.specs.Disk.{Disk, IsHonest, Works}
use Rattle.macs_disk.specs.Runs.{Leaves}
use Rattle.macs_disk.specs.States.{Image}
use Rattle.macs_journal.specs.declared.fault.JournalFault.{JournalFault}
use Rattle.macs_journal.specs.declared.fault.JournalFault.TheVariants as journal
use Rattle.macs_txsc.specs.Value as txsc
use Rattle.macs_rxsc.specs.Value as rxsc
use Rattle.macs_store.specs.Keeps.{IsSpent, generation_after, most_calls, slots_after}
use Rattle.macs_store.specs.Stepping.{HasUnderWay}
use Rattle.macs_store.specs.Value.{IsIdle, calls_left, generation, generation_then, slots_then, standing_in, used_slots}
use Rattle.macs_endpoint.specs.Calls.{Fails}
use Rattle.macs_endpoint.specs.Ceilings.{Raise, StandsRefilled, standing_with_raise, standing_with_reserved}
use Rattle.macs_endpoint.specs.Limits.{IsLimited}
use Rattle.macs_endpoint.specs.Needed.{raise_in}
use Rattle.macs_endpoint.specs.Restart.{Fits}
use Rattle.macs_endpoint.specs.RefillCosts.{Spends}
use Rattle.macs_endpoint.specs.State.{Logs, Refilled, Refills, State, no_logs, rx_side, state_after_fault, tx_side}
use Rattle.macs_endpoint.specs.Value.{EndpointValue, IsBacked, IsReserving, IsSoundEndpoint, disk_in, state_of}
use Rattle.macs_endpoint.specs.declared.fault.RefillFault.{RefillFault}
use Rattle.macs_endpoint.specs.declared.fault.RefillFault.TheVariants as refill

-- opening a disk of that size with this image is a restart of the state
abbrev pub FitsState : State → Disk → Image → Type 0
FitsState s disk image = Fits s.edition disk.sectors image s

-- reservations leave the state, which has no ceilings, unchanged, unless a device call failed
abbrev pub ReserveStep : State → Result (Unit {0}) RefillFault → State → Type 0
ReserveStep old (Ok done) new = new ≡ old
ReserveStep old (Err refill.GenerationsSpent) new = new ≡ old
ReserveStep old (Err refill.Disk) new = new ≡ state_after_fault old
ReserveStep old (Err fault) new = ⊥

-- For any ceilings raised: the step that it is, that no work is under way afterwards, what it does with the disk, and
-- what a power loss leaves at any moment since it began
pub record Reserves {D : Type 0} (disk_of : D → Disk) (old : EndpointValue D) (result : Result (Unit {0}) RefillFault)
    (new : EndpointValue D) : Type 0 where
  pub step : (logs : Logs) → ReserveStep (state_of old logs) result (state_of new logs)
  pub idle : IsIdle new.store
  pub works : Works (disk_in disk_of old) (disk_in disk_of new)
  pub fails : Fails (disk_in disk_of old) (disk_in disk_of new) (Refilled result)
  pub any_moment : IsHonest (disk_in disk_of new) → IsBacked disk_of old → (logs : Logs)
      → Leaves (disk_in disk_of old) (disk_in disk_of new) (FitsState (state_of old logs) (disk_in disk_of old))
  pub backed : IsHonest (disk_in disk_of new) → IsBacked disk_of old → IsBacked disk_of new
  pub limited : IsLimited old Refills (Refilled result) new
  pub tx_counters : txsc.counters_of new.tx ≡ txsc.counters_of old.tx
  pub rx_counters : rxsc.counters_of new.rx ≡ rxsc.counters_of old.rx
  pub channel_counters : rxsc.channel_counters_of new.rx ≡ rxsc.channel_counters_of old.rx

-- This ceiling is raised by one change, or stays. Fails with GenerationsSpent if and only if no more change can be
-- kept, and nothing changes.
pub record Raised {D : Type 0} (disk_of : D → Disk) (old : EndpointValue D) (raise : Raise)
    (result : Result (Unit {0}) RefillFault) (new : EndpointValue D) : Type 0 where
  pub reserves : Reserves disk_of old result new
  pub done : OnOk result (standing_in new.store ≡ standing_with_raise (standing_in old.store) raise)
  pub same : OnErr result (standing_in new.store ≡ standing_in old.store)
  pub spent : IsErrOf result refill.GenerationsSpent ↔ IsSpent old.store
  pub refused : IsErrOf result refill.GenerationsSpent → new ≡ old
  pub slots : OnOk result (used_slots new.store ≡ slots_after old.store)
  pub generation : OnOk result (generation new.store ≡ generation_after old.store)
  pub most : (disk_in disk_of new).clock ≤ (disk_in disk_of old).clock + most_calls old.store

-- the ceiling that is being raised is raised, if any
pub record ReservationEnds {D : Type 0} (disk_of : D → Disk) (old : EndpointValue D)
    (result : Result (Unit {0}) RefillFault) (new : EndpointValue D) : Type 0 where
  pub reserves : Reserves disk_of old result new
  pub done : OnOk result (standing_in new.store ≡ standing_with_reserved (standing_in old.store) old.reserving)
  pub free : OnOk result (new.reserving ≡ None)
  pub fault : OnErr result (IsErrOf result refill.Disk × ((raise : Raise) × (old.reserving ≡ Some raise)))
  pub same : OnErr result (standing_in new.store ≡ standing_in old.store)
  pub still : IsIdle old.store → new ≡ old
  pub slots : OnOk result (used_slots new.store ≡ slots_then old.store)
  pub generation : OnOk result (generation new.store ≡ generation_then old.store)
  pub most : (disk_in disk_of new).clock ≤ (disk_in disk_of old).clock + calls_left old.store

-- Every ceiling that is needed is raised, or one is left. If no work is under way, and none is needed or no more change
-- can be kept, the store is unchanged.
pub record ReservesAll {D : Type 0} (disk_of : D → Disk) (old : EndpointValue D)
    (result : Result (Unit {0}) RefillFault) (new : EndpointValue D) : Type 0 where
  pub reserves : Reserves disk_of old result new
  pub ceilings : StandsRefilled (tx_side (state_of old no_logs)) (rx_side (state_of old no_logs))
      (standing_in old.store) old.reserving result (standing_in new.store)
  pub still : IsIdle old.store → (raise_in old ≡ None) ⊎ IsSpent old.store → new.store ≡ old.store
  pub spends : Spends disk_of old result new.store

-- The raise of this ceiling is started, and no device call is made; or no more change can be kept, and nothing changes.
pub record StartsRaise {D : Type 0} (disk_of : D → Disk) (old : EndpointValue D) (raise : Raise)
    (result : Result (Unit {0}) JournalFault) (new : EndpointValue D) : Type 0 where
  pub refused : OnErr result (IsErrOf result journal.GenerationsSpent × (new ≡ old) × IsSpent old.store)
  pub room : OnOk result (¬ IsSpent old.store)
  pub under_way : OnOk result
      (HasUnderWay disk_of old.store (standing_with_raise (standing_in old.store) raise) new.store)
  pub taken : OnOk result (new ≡ record old { store = new.store; reserving = Some raise })
  pub reserving : OnOk result (IsReserving new)
  pub sound : OnOk result (IsSoundEndpoint old)
