-- A command after a reservation that was under way.
use Rattle.std.proofs.Common.{◌≡◌, ◌≤◌, ◌+◌, ◌⊎◌, ◌∙◌, [], inl, inr, ℕ, true, false, Some, None, Result, Ok, Err}
use Rattle.std.proofs.Common.{is_err, IsErrOf, IsOk, OnOk, refl, sym, ap, subst, arith}
use Rattle.macs_config.specs.Apply.{IsCommand, Named, Reason, apply}
use Rattle.macs_config.specs.Config.{Config, this_edition}
use Rattle.macs_config.specs.declared.command.Command.{Command}
use Rattle.macs_disk.specs.Disk.{IsHonest}
use Rattle.macs_disk.specs.Disk as disk
use Rattle.macs_disk.proofs.Moments.{FailsOnce-before, Leaves-join, Leaves-weaker, Works-on}
use Rattle.macs_store.specs.Keeps.{generation_with_change, most_with_change, slots_with_change}
use Rattle.macs_store.specs.Standing.{Standing, accept, standing_or_refusal}
use Rattle.macs_store.specs.Value.{calls_left, generation, generation_then, slots_then, standing_in, used_slots}
use Rattle.macs_endpoint.specs.Advancing.{turn_after}
use Rattle.macs_endpoint.specs.Calls.{Fails}
use Rattle.macs_endpoint.specs.Ceilings.{StandsRan}
use Rattle.macs_endpoint.specs.Counting.{channel_counters_after}
use Rattle.macs_endpoint.specs.KeptCommands.{KeepsCommand, most_in_command}
use Rattle.macs_endpoint.specs.Limits.{IsLimited, IsStill}
use Rattle.macs_endpoint.specs.Reserving.{FitsState, ReservationEnds}
use Rattle.macs_endpoint.specs.Restart.{FitsCall}
use Rattle.macs_endpoint.specs.RefillCosts.{reserved_in}
use Rattle.macs_endpoint.specs.State.{Commands, Logs, Ran, State, no_logs, state_with_under_way}
use Rattle.macs_endpoint.specs.Step.{Step}
use Rattle.macs_endpoint.specs.Value.{EndpointValue, IsAtRest, IsBacked, IsKeeping, IsReserving, IsSoundEndpoint}
use Rattle.macs_endpoint.specs.Value.{disk_in, is_stopped, state_of}
use Rattle.macs_endpoint.specs.declared.fault.CommandFault.{CommandFault}
use Rattle.macs_endpoint.specs.declared.fault.CommandFault.TheVariants as ran
use Rattle.macs_endpoint.specs.declared.fault.RefillFault.{RefillFault}
use Rattle.macs_endpoint.specs.declared.fault.RefillFault.TheVariants as refill
use Rattle.macs_endpoint.specs.declared.turn.Turn.TheVariants as turn
use Rattle.macs_endpoint.proofs.Commanding.{by_accepted, ok_not_err}
use Rattle.macs_endpoint.proofs.Ended.{not_stopped}
use Rattle.macs_endpoint.proofs.Fitting.{fits-commanding, fits-holding}
use Rattle.macs_endpoint.proofs.RefillCosts.{behind-generation, behind-left, behind-reserved, behind-slots}

-- ---- a few words on answers

disk_named : (fault : RefillFault) → IsErrOf {T = Unit {0}} (Err fault) refill.Disk → fault ≡ refill.Disk
disk_named fault is = cc

-- a reservation that did not end was cut short by a device call
pub ended-cut : {D : Type 0} (disk_of : D → disk.Disk) (e mid : EndpointValue D)
    (result : Result (Unit {0}) RefillFault) → is_err result ≡ true
    → ReservationEnds disk_of e result mid → ReservationEnds disk_of e (Err refill.Disk) mid
ended-cut disk_of e mid (Ok done) is ends = absurd cc
ended-cut disk_of e mid (Err fault) is ends =
    subst (λ (f : RefillFault). ReservationEnds disk_of e (Err f) mid) (disk_named fault ends.fault.0) ends

pub ended-well : {D : Type 0} (disk_of : D → disk.Disk) (e mid : EndpointValue D)
    (result : Result (Unit {0}) RefillFault) → is_err result ≡ false
    → ReservationEnds disk_of e result mid → ReservationEnds disk_of e (Ok tt) mid
ended-well disk_of e mid (Ok done) is ends = ends
ended-well disk_of e mid (Err fault) is ends = absurd cc

ok_standing : (s : Standing) (command : Command) (result : Result Config Reason) → IsOk result
    → IsOk (standing_or_refusal s command result)
ok_standing s command (Ok config) is = refl
ok_standing s command (Err refusal) is = absurd cc

-- what a device call cut short leaves is sound, with any command under way
pub cut-short-kept : {D : Type 0} (mid : EndpointValue D) (command : Command) → IsSoundEndpoint mid
    → is_stopped mid ≡ true
    → IsSoundEndpoint (record mid { under_way = Some command; turn = turn.Reservation })
cut-short-kept {D} mid command kept stopped = record {
  identity = kept.identity;
  channels = kept.channels;
  within = kept.within;
  few = kept.few;
  tickets = kept.tickets;
  work = by kept.work;
}
  where
    cut : EndpointValue D
    cut = record mid { under_way = Some command; turn = turn.Reservation }

    by : IsAtRest mid ⊎ (IsReserving mid ⊎ IsKeeping mid) → IsAtRest cut ⊎ (IsReserving cut ⊎ IsKeeping cut)
    by (inl rest) = inl (record {
      store = rest.store;
      reserving = rest.reserving;
      under_way =
          λ going. absurd (not_stopped (is_stopped mid) stopped going);
    })
    by (inr (inl work)) = absurd (not_stopped (is_stopped mid) stopped work.running)
    by (inr (inr work)) = absurd (not_stopped (is_stopped mid) stopped work.running)

-- and nothing is being raised then
pub cut-free : {D : Type 0} (mid : EndpointValue D) → IsSoundEndpoint mid → is_stopped mid ≡ true
    → mid.reserving ≡ None
cut-free mid kept stopped = by kept.work where
  by : IsAtRest mid ⊎ (IsReserving mid ⊎ IsKeeping mid) → mid.reserving ≡ None
  by (inl rest) = rest.reserving
  by (inr (inl work)) = absurd (not_stopped (is_stopped mid) stopped work.running)
  by (inr (inr work)) = work.reserving

-- ---- a command after it

module _ {D : Type 0} (disk_of : D → disk.Disk) (e : EndpointValue D) (command : Command) (ranges : IsCommand command)
    (running : is_stopped e ≡ false) (none : e.waiting ≡ []) (free : e.under_way ≡ None)
    (accepted : IsOk (accept (standing_in e.store) command)) where
  module _ (mid : EndpointValue D) (ends : ReservationEnds disk_of e (Err refill.Disk) mid) where
    abbrev pub given_up : EndpointValue D
    given_up = record mid { under_way = Some command; turn = turn.Reservation }

    pub stopped : is_stopped mid ≡ true
    stopped = ap (λ (s : State). s.stopped) (ends.reserves.step no_logs)

    under_way : (logs : Logs) → (state_of mid logs).under_way ≡ None
    under_way logs = ap (λ (s : State). s.under_way) (ends.reserves.step logs) ∙ free

    backed_so : IsBacked disk_of mid → IsBacked disk_of given_up
    backed_so backed = record {
      size = backed.size;
      stored = λ going. absurd (not_stopped (is_stopped mid) stopped going);
      fits = λ logs image left.
          fits-holding (disk_in disk_of mid).sectors image backed.size this_edition (state_of mid logs) command
          (under_way logs) (backed.fits logs image left);
      form = backed.form;
    }

    -- a device call failed before the command was begun
    pub cut-before : KeepsCommand disk_of e command (Err ran.Disk) given_up
    cut-before =
        let reserves = ends.reserves in
        let accepts = by_accepted (standing_in e.store) command
        (apply this_edition (standing_in e.store).identity (standing_in e.store).config command) accepted in
        record {
          call = record {
            behaves = record {
              in_range = ranges;
              step = λ logs. (
                logs,
                inr
                    (running, (none, accepts, ap (λ (s : State). state_with_under_way s command) (reserves.step logs))),
              );
              ceilings = inl ends.same;
              limited = tt;
              still = tt;
              ends_work = tt;
              advances = tt;
              turn = refl;
              tx_counters = reserves.tx_counters;
              rx_counters = reserves.rx_counters;
              channel_counters = reserves.channel_counters;
            };
            device = record { works = reserves.works; fails = reserves.fails };
            survives = λ honest backed. record {
              any_moment = λ logs later. Leaves-weaker (disk_in disk_of e) (disk_in disk_of mid)
                  (FitsState (state_of e logs) (disk_in disk_of e))
                  (FitsCall (disk_in disk_of e).sectors (state_of e logs) (Commands command) (state_of given_up later))
                  (λ image fits. inl (fits-commanding (disk_in disk_of e).sectors image backed.size this_edition
                  (state_of e logs) command free fits))
                  (reserves.any_moment honest backed logs);
              backed = backed_so (reserves.backed honest backed);
            };
          };
          slots = tt;
          generation = tt;
          most = let most = ends.most in omega (arith, most);
          spent = λ is. absurd cc;
        }

  module _ (mid : EndpointValue D) (ends : ReservationEnds disk_of e (Ok tt) mid) where
    -- the state is as before
    behind_state : (logs : Logs) → state_of mid logs ≡ state_of e logs
    behind_state logs = ends.reserves.step logs

    pub behind-running : is_stopped mid ≡ false
    behind-running = ap (λ (s : State). s.stopped) (behind_state no_logs) ∙ running

    pub behind-none : mid.waiting ≡ []
    behind-none = ap (λ (s : State). s.waiting) (behind_state no_logs) ∙ none

    behind_applies : IsOk (apply this_edition (standing_in mid.store).identity (standing_in mid.store).config command)
    behind_applies =
        let before = standing_in e.store in
        let accepts = by_accepted before command (apply this_edition before.identity before.config command) accepted in
        subst (λ (s : State). IsOk (apply s.edition s.identity s.config command)) (sym (behind_state no_logs)) accepts

    -- ceilings alone are raised, so the command is still accepted
    pub behind-accepted : IsOk (accept (standing_in mid.store) command)
    behind-accepted =
        let after = standing_in mid.store in
        ok_standing after command (apply this_edition after.identity after.config command) behind_applies

    -- the standing then, how many slots are used and in which generation
    stands : reserved_in mid ≡ reserved_in e
    stands = behind-reserved disk_of e mid ends

    used : slots_then mid.store ≡ slots_then e.store
    used = behind-slots disk_of e mid ends

    number : generation_then mid.store ≡ generation_then e.store
    number = behind-generation disk_of e mid ends

    few_calls : (late : ℕ) → late ≤ (disk_in disk_of mid).clock + most_in_command mid
        → late ≤ (disk_in disk_of e).clock + most_in_command e
    few_calls late within =
        let most = ends.most in
        let left = behind-left disk_of e mid ends in
        let same : most_with_change (slots_then mid.store) (reserved_in mid)
        ≡ most_with_change (slots_then e.store) (reserved_in e) =
        λ i. most_with_change (used i) (stands i) in
        omega (arith, within, most, left, same)

    -- where no change is kept any more
    no_more_calls : (late : ℕ) → late ≤ (disk_in disk_of mid).clock + calls_left mid.store
        → late ≤ (disk_in disk_of e).clock + calls_left e.store
    no_more_calls late within =
        let most = ends.most in
        let left = behind-left disk_of e mid ends in
        omega (arith, within, most, left)

    behind_by : (result : Result (Unit {0}) CommandFault) (new : EndpointValue D)
        → KeepsCommand disk_of mid command result new
        → StandsRan (standing_in e.store) e.reserving command result (standing_in new.store)
        → IsLimited e (Commands command) (Ran result) new → IsStill e (Commands command) (Ran result) new
        → new.turn ≡ turn_after e (Commands command) (Ran result)
        → Fails (disk_in disk_of e) (disk_in disk_of new) (Ran result)
        → KeepsCommand disk_of e command result new
    behind_by result new keeps ran_so limited still whose fails =
        let reserves = ends.reserves in
        let call = keeps.call in
        record {
          call = record {
            behaves = record {
              in_range = ranges;
              step = λ logs.
                  let step = call.behaves.step logs in (
                    step.0,
                    subst (λ (s : State). Step s (Commands command) (Ran result) (state_of new step.0))
                        (behind_state logs) step.1,
                  );
              ceilings = ran_so;
              limited = limited;
              still = still;
              ends_work = call.behaves.ends_work;
              advances = tt;
              turn = whose;
              tx_counters = call.behaves.tx_counters ∙ reserves.tx_counters;
              rx_counters = call.behaves.rx_counters ∙ reserves.rx_counters;
              channel_counters = call.behaves.channel_counters
                  ∙ (λ i. channel_counters_after (behind_state no_logs i) (Commands command) (Ran result)
                  (reserves.channel_counters i));
            };
            device = record {
              works = Works-on (disk_in disk_of e) (disk_in disk_of mid) (disk_in disk_of new) reserves.works
                  call.device.works;
              fails = fails;
            };
            survives = λ honest backed.
                let before : IsHonest (disk_in disk_of mid) = sym call.device.works.honest ∙ honest in
                let second = call.survives honest (reserves.backed before backed) in
                record {
                  any_moment = λ logs later.
                      let sectors = (disk_in disk_of e).sectors in
                      let s = state_of new later in
                      Leaves-join (disk_in disk_of e) (disk_in disk_of mid) (disk_in disk_of new)
                      (FitsState (state_of e logs) (disk_in disk_of e))
                      (FitsCall (disk_in disk_of mid).sectors (state_of mid logs) (Commands command) s)
                      (FitsCall sectors (state_of e logs) (Commands command) s)
                      (reserves.any_moment before backed logs) (second.any_moment logs later)
                      (λ image fits. inl
                      (fits-commanding sectors image backed.size this_edition (state_of e logs) command free fits))
                      (λ image fits.
                      subst (λ (x : State). FitsCall sectors x (Commands command) s image) (behind_state logs)
                      (subst (λ (n : ℕ). FitsCall n (state_of mid logs) (Commands command) s image)
                      reserves.works.sectors fits));
                  backed = second.backed;
                };
          };
          slots = subst (λ (n : ℕ). OnOk result (used_slots new.store ≡ n)) (λ i. slots_with_change (used i) (stands i))
              keeps.slots;
          generation = subst (λ (n : ℕ). OnOk result (generation new.store ≡ n))
              (λ i. generation_with_change (used i) (number i)) keeps.generation;
          most = few_calls (disk_in disk_of new).clock keeps.most;
          spent = λ is. no_more_calls (disk_in disk_of new).clock (keeps.spent is);
        }

    -- a command is kept, or not, after the reservation
    pub behind-keeps : (result : Result (Unit {0}) CommandFault) (new : EndpointValue D)
        → KeepsCommand disk_of mid command result new
        → KeepsCommand disk_of e command result new
    behind-keeps (Ok done) new keeps =
        behind_by (Ok done) new keeps
        (subst (λ (x : Standing). accept x command ≡ Ok (standing_in new.store)) stands keeps.call.behaves.ceilings) tt
        tt keeps.call.behaves.turn
        (keeps.call.device.fails ∙ ends.reserves.fails)
    behind-keeps (Err ran.GenerationsSpent) new keeps =
        behind_by (Err ran.GenerationsSpent) new keeps (keeps.call.behaves.ceilings ∙ stands) keeps.call.behaves.limited
        (λ idle. keeps.call.behaves.still ends.reserves.idle ∙ ap (λ (x : EndpointValue D). x.store) (ends.still idle))
        keeps.call.behaves.turn
        (keeps.call.device.fails ∙ ends.reserves.fails)
    behind-keeps (Err ran.Disk) new keeps =
        behind_by (Err ran.Disk) new keeps (inr (elim keeps.call.behaves.ceilings [
          | inl is ↦ is ∙ ends.done
          | inr is ↦ is ∙ stands
        ])) tt tt keeps.call.behaves.turn
        (FailsOnce-before (disk_in disk_of e) (disk_in disk_of mid) (disk_in disk_of new) ends.reserves.fails
        keeps.call.device.fails)
    behind-keeps (Err ran.Stopped) new keeps =
        let step = keeps.call.behaves.step no_logs in
        absurd (elim step.1 [
          | inl stops ↦ not_stopped (is_stopped mid) stops.0 behind-running
          | inr going ↦ going.1
        ])
    behind-keeps (Err ran.Busy) new keeps =
        let step = keeps.call.behaves.step no_logs in
        absurd (elim step.1 [
          | inl stops ↦ stops.1
          | inr going ↦ going.1.0 behind-none
        ])
    behind-keeps (Err (ran.Refused refusal)) new keeps =
        let step = keeps.call.behaves.step no_logs in
        absurd (elim step.1 [
          | inl stops ↦ stops.1
          | inr going ↦ ok_not_err (apply this_edition (standing_in mid.store).identity (standing_in mid.store).config
              command) (Named refusal) behind_applies going.1.1
        ])
