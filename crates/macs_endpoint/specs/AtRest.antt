-- A rest: the ceilings become the next packet numbers, so that a planned end skips none.
use Rattle.std.specs.Prelude.{◌≡◌, ◌↔◌, ℕ, List, Result, Ok, Err, IsErrOf, OnErr, OnOk}
use Rattle.std.specs.Option.{option_map}
use Rattle.macs_disk.specs.Disk.{Disk, IsHonest, MayLeave, Works}
use Rattle.macs_disk.specs.Runs.{Leaves}
use Rattle.macs_disk.specs.States.{Image}
use Rattle.macs_journal.specs.Compacted.{last_generation}
use Rattle.macs_txsc.specs.Value as txsc
use Rattle.macs_rxsc.specs.Receive.{Numbers, first_numbers}
use Rattle.macs_rxsc.specs.Value as rxsc
use Rattle.macs_store.specs.Found.{StandingIs}
use Rattle.macs_store.specs.Standing.{Ceilings, Standing}
use Rattle.macs_store.specs.Value.{IsIdle, generation, standing_in}
use Rattle.macs_endpoint.specs.Calls.{Fails}
use Rattle.macs_endpoint.specs.Ceilings.{StandsRested, next_ceilings}
use Rattle.macs_endpoint.specs.Reserving.{FitsState, ReserveStep}
use Rattle.macs_endpoint.specs.State.{Logs, Rested, State, no_logs}
use Rattle.macs_endpoint.specs.Step.{as_refill}
use Rattle.macs_endpoint.specs.Value.{EndpointValue, IsBacked, disk_in, state_of}
use Rattle.macs_endpoint.specs.declared.fault.RestFault.{RestFault}
use Rattle.macs_endpoint.specs.declared.fault.RestFault.TheVariants as rest

-- ---- what an opening finds

-- no work is under way, and each ceiling is the next packet number: none is used before it is raised again
pub record IsLevel {D : Type 0} (e : EndpointValue D) : Type 0 where
  pub idle : IsIdle e.store
  pub ceilings : (standing_in e.store).ceilings ≡ next_ceilings (state_of e no_logs)

-- a program that opens a disk of this many sectors with this image continues from these settings and next numbers
pub record OpensAt (sectors : ℕ) (image : Image) (s : State) : Type 0 where
  pub found : Standing
  pub is_found : StandingIs s.edition sectors image (Ok found)
  pub identity : found.identity ≡ s.identity
  pub config : found.config ≡ s.config
  pub ceilings : found.ceilings ≡ next_ceilings s

-- the same settings, and no packet number is skipped: the next numbers are the same, and of a receive association the
-- next one is the lowest acceptable too
pub record SkipsNone (old new : State) : Type 0 where
  pub identity : new.identity ≡ old.identity
  pub config : new.config ≡ old.config
  pub next : new.next ≡ old.next
  pub numbers : (sci : List ℕ) (an : ℕ) → new.numbers sci an
      ≡ option_map (λ (n : Numbers). first_numbers n.next) (old.numbers sci an)

-- ---- how it is done

-- What a rest of a running endpoint makes of it: a reservation under way is finished first
pub record RestsAll {D : Type 0} (disk_of : D → Disk) (old : EndpointValue D) (result : Result (Unit {0}) RestFault)
    (new : EndpointValue D) : Type 0 where
  pub step : (logs : Logs) → ReserveStep (state_of old logs) (as_refill result) (state_of new logs)
  pub idle : IsIdle new.store
  pub ceilings : StandsRested (state_of old no_logs) (standing_in old.store) old.reserving result
      (standing_in new.store)
  pub spent : IsErrOf result rest.GenerationsSpent → generation new.store ≡ last_generation
  pub still : IsErrOf result rest.GenerationsSpent → IsIdle old.store → new.store ≡ old.store
  pub works : Works (disk_in disk_of old) (disk_in disk_of new)
  pub fails : Fails (disk_in disk_of old) (disk_in disk_of new) (Rested result)
  pub any_moment : IsHonest (disk_in disk_of new) → IsBacked disk_of old → (logs : Logs)
      → Leaves (disk_in disk_of old) (disk_in disk_of new) (FitsState (state_of old logs) (disk_in disk_of old))
  pub backed : IsHonest (disk_in disk_of new) → IsBacked disk_of old → IsBacked disk_of new
  pub tx_counters : txsc.counters_of new.tx ≡ txsc.counters_of old.tx
  pub rx_counters : rxsc.counters_of new.rx ≡ rxsc.counters_of old.rx
  pub channel_counters : rxsc.channel_counters_of new.rx ≡ rxsc.channel_counters_of old.rx
