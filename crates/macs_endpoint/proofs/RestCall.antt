-- A rest as a call.
use Rattle.std.proofs.Common.{◌≡◌, inl, inr, true, false, [], IsErrOf, Result, Ok, Err, refl, sym, ap, subst}
use Rattle.macs_disk.specs.Disk.{Disk}
use Rattle.macs_disk.proofs.Moments.{Leaves-weaker}
use Rattle.macs_journal.specs.Compacted.{last_generation}
use Rattle.macs_store.specs.Value.{IsIdle, generation, standing_in}
use Rattle.macs_endpoint.specs.Advancing.{turn_after, turn_after_refill}
use Rattle.macs_endpoint.specs.AtRest.{RestsAll}
use Rattle.macs_endpoint.specs.Calls.{EndsWork, Fails, IsCall}
use Rattle.macs_endpoint.specs.Ceilings.{StandsRested}
use Rattle.macs_endpoint.specs.Limits.{IsLimited, IsStill}
use Rattle.macs_endpoint.specs.Reserving.{FitsState, ReserveStep}
use Rattle.macs_endpoint.specs.Restart.{FitsCall}
use Rattle.macs_endpoint.specs.State.{Logs, Rested, Rests, State, no_logs}
use Rattle.macs_endpoint.specs.Step.{RestStep, Step, as_refill}
use Rattle.macs_endpoint.specs.Value.{EndpointValue, disk_in, is_stopped, state_of}
use Rattle.macs_endpoint.specs.declared.fault.RestFault.{RestFault}
use Rattle.macs_endpoint.specs.declared.fault.RestFault.TheVariants as rest
use Rattle.macs_endpoint.specs.declared.turn.Turn.{Turn}
use Rattle.macs_endpoint.proofs.Alone.{alone-call}
use Rattle.macs_endpoint.proofs.RefillCall.{turned_backed}

module _ {D : Type 0} (disk_of : D → Disk) where
  -- ---- nothing changes

  unmoved : (e : EndpointValue D) (result : Result (Unit {0}) RestFault)
      → ((logs : Logs) → Step (state_of e logs) Rests (Rested result) (state_of e logs))
      → Fails (disk_in disk_of e) (disk_in disk_of e) (Rested result)
      → StandsRested (state_of e no_logs) (standing_in e.store) e.reserving result (standing_in e.store)
      → IsLimited e Rests (Rested result) e → IsStill e Rests (Rested result) e → EndsWork Rests (Rested result) e
      → e.turn ≡ turn_after e Rests (Rested result) → IsCall disk_of e Rests (Rested result) e
  unmoved e result step fails ceilings limited still ends_work turn =
      alone-call disk_of e e Rests (Rested result) fails (λ backed. backed) (record {
        in_range = tt;
        step = λ logs. (logs, step logs);
        ceilings = ceilings;
        limited = limited;
        still = still;
        ends_work = ends_work;
        advances = tt;
        turn = turn;
        tx_counters = refl;
        rx_counters = refl;
        channel_counters = refl;
      })

  pub stopped-rest : (e : EndpointValue D) → is_stopped e ≡ true
      → IsCall disk_of e Rests (Rested (Err rest.Stopped)) e
  stopped-rest e stopped = unmoved e (Err rest.Stopped) (λ logs. inl (stopped, tt, refl)) refl refl tt refl tt refl

  pub busy-rest : (e : EndpointValue D) → is_stopped e ≡ false → ¬ (e.waiting ≡ [])
      → IsCall disk_of e Rests (Rested (Err rest.Busy)) e
  busy-rest e running waits =
      unmoved e (Err rest.Busy) (λ logs. inr (running, (waits, refl))) refl refl tt refl tt refl

  -- ---- a rest

  module _ (old new : EndpointValue D) (none : old.waiting ≡ []) where
    abbrev turned : EndpointValue D
    turned = record new { turn = turn_after_refill old.turn old.reserving }

    rest_step : (logs : Logs) (result : Result (Unit {0}) RestFault)
        → ReserveStep (state_of old logs) (as_refill result) (state_of new logs)
        → RestStep (state_of old logs) result (state_of new logs)
    rest_step logs (Ok done) step = (none, step)
    rest_step logs (Err rest.Stopped) step = absurd step
    rest_step logs (Err rest.Busy) step = absurd step
    rest_step logs (Err rest.GenerationsSpent) step = (none, step)
    rest_step logs (Err rest.Disk) step = (none, step)

    turn_by : (result : Result (Unit {0}) RestFault)
        → ReserveStep (state_of old no_logs) (as_refill result) (state_of new no_logs)
        → turn_after_refill old.turn old.reserving ≡ turn_after old Rests (Rested result)
    turn_by (Ok done) step = refl
    turn_by (Err rest.GenerationsSpent) step = refl
    turn_by (Err rest.Disk) step = refl
    turn_by (Err rest.Stopped) step = absurd step
    turn_by (Err rest.Busy) step = absurd step

    limited_by : (result : Result (Unit {0}) RestFault)
        → (IsErrOf result rest.GenerationsSpent → generation new.store ≡ last_generation)
        → IsLimited old Rests (Rested result) turned
    limited_by (Ok done) spent = tt
    limited_by (Err rest.Stopped) spent = tt
    limited_by (Err rest.Busy) spent = tt
    limited_by (Err rest.GenerationsSpent) spent = spent refl
    limited_by (Err rest.Disk) spent = tt

    still_by : (result : Result (Unit {0}) RestFault)
        → ReserveStep (state_of old no_logs) (as_refill result) (state_of new no_logs)
        → (IsErrOf result rest.GenerationsSpent → IsIdle old.store → new.store ≡ old.store)
        → IsStill old Rests (Rested result) turned
    still_by (Ok done) step still = tt
    still_by (Err rest.GenerationsSpent) step still = still refl
    still_by (Err rest.Disk) step still = tt
    still_by (Err rest.Stopped) step still = absurd step
    still_by (Err rest.Busy) step still = absurd step

    ends_by : (result : Result (Unit {0}) RestFault) → IsIdle new.store → EndsWork Rests (Rested result) turned
    ends_by (Ok done) idle = idle
    ends_by (Err rest.GenerationsSpent) idle = idle
    ends_by (Err rest.Disk) idle = tt
    ends_by (Err rest.Stopped) idle = tt
    ends_by (Err rest.Busy) idle = tt

    pub rest-call : (result : Result (Unit {0}) RestFault) → is_stopped old ≡ false → RestsAll disk_of old result new
        → IsCall disk_of old Rests (Rested result) turned
    rest-call result running all = record {
      behaves = record {
        in_range = tt;
        step = λ logs. (logs, inr (running, rest_step logs result (all.step logs)));
        ceilings = all.ceilings;
        limited = limited_by result all.spent;
        still = still_by result (all.step no_logs) all.still;
        ends_work = ends_by result all.idle;
        advances = tt;
        turn = turn_by result (all.step no_logs);
        tx_counters = all.tx_counters;
        rx_counters = all.rx_counters;
        channel_counters = all.channel_counters;
      };
      device = record { works = all.works; fails = all.fails };
      survives = λ honest backed. record {
        any_moment = λ logs later. Leaves-weaker (disk_in disk_of old) (disk_in disk_of new)
            (FitsState (state_of old logs) (disk_in disk_of old))
            (FitsCall (disk_in disk_of old).sectors (state_of old logs) Rests (state_of turned later))
            (λ image fits. inl fits) (all.any_moment honest backed logs);
        backed = turned_backed disk_of new (turn_after_refill old.turn old.reserving) (all.backed honest backed);
      };
    }
