-- The first command that waits: it is started with its first device call, or is refused.
use Rattle.std.proofs.Common.{◌≡◌, ◌≤◌, [], ◌∷◌, ◌&&◌, inl, inr, ℕ, Bool, true, false, not, if◌then◌else◌, List, length}
use Rattle.std.proofs.Common.{Option, Some, None, Result, Ok, Err, is_ok, IsOk, refl, sym, ◌∙◌, ap, subst, arith}
use Rattle.macs_config.specs.Apply.{IsCommand, Named, Reason, apply}
use Rattle.macs_config.specs.Config.{Config, this_edition}
use Rattle.macs_config.specs.declared.command.Command.{Command}
use Rattle.macs_disk.specs.Disk as disk
use Rattle.macs_journal.specs.Areas.{least_sectors}
use Rattle.macs_txsc.specs.Value as txsc
use Rattle.macs_rxsc.specs.Value as rxsc
use Rattle.macs_store.specs.Standing.{Standing, accept, standing_or_refusal}
use Rattle.macs_store.specs.Stepping.{HasUnderWay, StartsCommit}
use Rattle.macs_store.specs.Table.{standing_of}
use Rattle.macs_store.specs.Value.{IsIdle, standing_in}
use Rattle.macs_store.specs.Value as store
use Rattle.macs_store.specs.declared.fault.CommitFault.{CommitFault}
use Rattle.macs_store.specs.declared.fault.CommitFault.TheVariants as commit
use Rattle.macs_endpoint.specs.Advancing.{BeginsWith, GoesOn, Due, ToKeep, next_due}
use Rattle.macs_endpoint.specs.Halves.{HasBegun}
use Rattle.macs_endpoint.specs.Calls.{IsCall}
use Rattle.macs_endpoint.specs.Ceilings.{StandsAdvanced}
use Rattle.macs_endpoint.specs.Counting.{channel_counters_after}
use Rattle.macs_endpoint.specs.Faults.{command_fault_of}
use Rattle.macs_endpoint.specs.Queue.{first_waiting, queue_length}
use Rattle.macs_endpoint.specs.Restart.{Fits, state_taking_first}
use Rattle.macs_endpoint.specs.State.{Accepts, Advanced, Advances, Logs, State, command_made, no_logs}
use Rattle.macs_endpoint.specs.State.{state_with_under_way}
use Rattle.macs_endpoint.specs.Step.{AdvanceStep, Ends, TakesUp, state_without_first}
use Rattle.macs_endpoint.specs.Value.{EndpointValue, IsAtRest, IsBacked, IsKeeping, IsSoundEndpoint}
use Rattle.macs_endpoint.specs.Value.{is_stopped, state_of}
use Rattle.macs_endpoint.specs.declared.fault.CommandFault.{CommandFault}
use Rattle.macs_endpoint.specs.declared.fault.CommandFault.TheVariants as ran
use Rattle.macs_endpoint.specs.declared.fault.StepFault.{StepFault}
use Rattle.macs_endpoint.specs.declared.fault.StepFault.TheVariants as step
use Rattle.macs_endpoint.specs.declared.progress.Step.{Step as Progress}
use Rattle.macs_endpoint.specs.declared.progress.Step.TheVariants.{Done, Idle, Reserved, Worked}
use Rattle.macs_endpoint.specs.declared.queue.Waiting.{Waiting}
use Rattle.macs_endpoint.specs.declared.turn.Turn.TheVariants as turn
use Rattle.macs_endpoint.proofs.Ended.{kept-held, not_stopped}
use Rattle.macs_endpoint.proofs.Working.{at-rest, kept-backed, some_is}
use Rattle.macs_endpoint.proofs.Taken.{at-once, many-calls, quiet, start-call, taken-call}

-- ---- which command is the first

-- the commands after it
pub rest-waiting : (waiting : List Waiting) (first : Waiting) → first_waiting waiting ≡ Some first
    → (rest : List Waiting) × (waiting ≡ first ∷ rest)
rest-waiting [] first is = absurd cc
rest-waiting (other ∷ rest) first is = (rest, let same : other ≡ first = cc in ap (λ (w : Waiting). w ∷ rest) same)

-- and the one that was taken away
pub front-is : (waiting : List Waiting) (head first : Waiting) (others : List Waiting) → waiting ≡ head ∷ others
    → first_waiting waiting ≡ Some first
    → waiting ≡ first ∷ others
front-is waiting head first others popped waits =
    popped ∙ ap (λ (w : Waiting). w ∷ others) (some_is head first (sym (ap first_waiting popped) ∙ waits))

-- ---- what the store says of it

pub refused_by : (s : Standing) (command : Command) (result : Result Config Reason) (reason : Reason)
    → standing_or_refusal s command result ≡ Err reason → result ≡ Err reason
refused_by s command (Ok config) reason is = absurd cc
refused_by s command (Err other) reason is = let same : other ≡ reason = cc in ap Err same

accepted_by : (s : Standing) (command : Command) (result : Result Config Reason)
    → IsOk (standing_or_refusal s command result) → is_ok result ≡ true
accepted_by s command (Ok config) is = refl
accepted_by s command (Err refusal) is = absurd cc

taken_by : (s : State) (command : Command) (stopped accepts : Bool) → stopped ≡ false → accepts ≡ true
    → (if not stopped && accepts then state_with_under_way s command else s) ≡ state_with_under_way s command
taken_by s command stopped accepts running is = λ i. if not (running i) && is i
    then state_with_under_way s command else s

-- the first command is under way while it is taken up
during_taken : (s : State) (under_way : Option Command) (waiting : List Waiting) (first : Waiting) (rest : List Waiting)
    → under_way ≡ None
    → waiting ≡ first ∷ rest → s.stopped ≡ false → is_ok (apply s.edition s.identity s.config first.command) ≡ true
    → state_taking_first s under_way waiting ≡ state_with_under_way s first.command
during_taken s under_way waiting first rest free waits running accepts =
    (λ i. state_taking_first s (free i) (waits i))
    ∙ taken_by s first.command s.stopped (is_ok (apply s.edition s.identity s.config first.command)) running accepts

-- ---- it is started

module _ {D : Type 0} (disk_of : D → disk.Disk) (e : EndpointValue D) (kept : IsSoundEndpoint e)
    (running : is_stopped e ≡ false) (idle : IsIdle e.store)
    (first : Waiting) (ranges : IsCommand first.command) (waits : first_waiting e.waiting ≡ Some first) where
  abbrev rest : List Waiting
  rest = (rest-waiting e.waiting first waits).0

  waiting_is : e.waiting ≡ first ∷ rest
  waiting_is = (rest-waiting e.waiting first waits).1

  abbrev old : Standing
  old = standing_in e.store

  -- what the configuration says of it
  abbrev judged : Result Config Reason
  judged = apply this_edition old.identity old.config first.command

  resting : IsAtRest e
  resting = at-rest e kept idle

  module _ (s : store.StoreValue D) (after : Standing) (accepted : accept old first.command ≡ Ok after)
      (has : HasUnderWay disk_of e.store after s) where
    -- the endpoint with the command under way
    abbrev keeping : EndpointValue D
    keeping = record e { store = s; under_way = Some first.command }

    same_standing : standing_in s ≡ standing_in e.store
    same_standing = ap standing_of has.standing

    -- it is being kept
    pub taken-keeping : IsKeeping keeping
    taken-keeping = record {
      running = has.running;
      busy = has.busy;
      reserving = resting.reserving;
      first = first;
      rest = rest;
      waiting = waiting_is;
      under_way = refl;
      in_range = ranges;
      after = after;
      leads = has.leads;
      accepted = subst (λ (x : Standing). accept x first.command ≡ Ok after) (sym same_standing) accepted;
    }

    -- and what holds of every endpoint holds on
    pub taken-kept : IsSoundEndpoint keeping
    taken-kept = kept-held e keeping kept same_standing kept.few kept.tickets (inr (inr taken-keeping))

    accepts : Accepts (state_of e no_logs) first.command
    accepts = accepted_by old first.command judged (ap is_ok accepted)

    taken_state : (logs : Logs) → state_of keeping logs ≡ state_with_under_way (state_of e logs) first.command
    taken_state logs = λ i. record {
      edition = this_edition;
      identity = (same_standing i).identity;
      config = (same_standing i).config;
      next = (txsc.tx_side_of e.tx).next;
      numbers = (rxsc.rx_side_of e.rx).numbers;
      logs = logs;
      stopped = (has.running ∙ sym running) i;
      under_way = Some first.command;
      waiting = e.waiting;
      tickets = e.tickets;
    }

    taken_backed : IsBacked disk_of e → IsBacked disk_of keeping
    taken_backed backed =
        kept-backed keeping taken-kept disk_of
        (subst (λ (d : disk.Disk). least_sectors ≤ d.sectors) (sym (ap disk_of has.device)) backed.size)
        (has.stored (backed.stored running))

    -- one step takes it up
    takes : (logs : Logs) (t : State) → t ≡ state_of keeping logs → TakesUp (state_of e logs) t
    takes logs t is = (first, rest, waiting_is, resting.under_way running, accepts, is ∙ taken_state logs)

    -- and no further command is taken
    none_more : (logs : Logs) (t : State) → TakesUp (state_of keeping logs) t → ⊥
    none_more logs t up = let held : Some first.command ≡ None = up.3 in cc

    -- what follows is a step of the endpoint before
    take_call : (result : Result Progress StepFault) (new : EndpointValue D)
        → IsCall disk_of keeping Advances (Advanced result) new
        → ((logs : Logs) (t : State) → AdvanceStep (state_of keeping logs) result t
        → AdvanceStep (state_of e logs) result t)
        → StandsAdvanced (standing_in e.store) e.reserving
        (command_made (state_of e no_logs) Advances (Advanced result)) result (standing_in new.store)
        → BeginsWith e (Some (ToKeep first)) result new
        → rxsc.channel_counters_of new.rx
        ≡ channel_counters_after (state_of e no_logs) Advances (Advanced result) (rxsc.channel_counters_of e.rx)
        → next_due e ≡ Some (ToKeep first) → IsCall disk_of e Advances (Advanced result) new
    take_call result new call leads stands begins counted next =
        taken-call disk_of e running idle after s has (Some first.command) e.reserving result new call leads stands
        (subst (λ (p : Option Due). BeginsWith e p result new) (sym next) begins) counted
        (λ logs sectors image size fits. subst (λ (x : State). Fits this_edition sectors image x)
        (taken_state logs
        ∙ sym (during_taken (state_of e logs) e.under_way e.waiting first rest (resting.under_way running)
        waiting_is running accepts)) fits)
        taken_backed

    by_result : (result : Result Progress StepFault) (new : EndpointValue D)
        → IsCall disk_of keeping Advances (Advanced result) new
        → GoesOn keeping result new → next_due e ≡ Some (ToKeep first)
        → IsCall disk_of e Advances (Advanced result) new
    by_result (Ok Worked) new call goes next =
        take_call (Ok Worked) new call
        (λ logs t steps. elim steps [
          | inl same ↦ inr (takes logs t same)
          | inr up ↦ absurd (none_more logs t up)
        ])
        (call.behaves.ceilings ∙ same_standing) (
          goes.1,
          (let left = goes.3 in let most = has.left in
              omega (arith, left, most)),
        )
        call.behaves.channel_counters next
    by_result (Err step.Disk) new call goes next =
        take_call (Err step.Disk) new call
        (λ logs t steps. elim steps [
          | inl same ↦ inr (state_of keeping logs, takes logs (state_of keeping logs) refl, same)
          | inr up ↦ absurd (none_more logs up.0 up.1)
        ])
        (call.behaves.ceilings ∙ same_standing) goes call.behaves.channel_counters next
    by_result (Ok Idle) new call goes next = absurd goes
    by_result (Ok Reserved) new call goes next = absurd (many-calls disk_of e.store after s has goes.2)
    by_result (Ok (Done ticket (Ok done))) new call goes next = absurd (many-calls disk_of e.store after s has goes.2)
    by_result (Ok (Done ticket (Err at))) new call goes next = absurd goes
    by_result (Err step.Stopped) new call goes next = absurd goes
    by_result (Err step.GenerationsSpent) new call goes next = absurd goes

    -- the command has begun, without its first device call
    pub keep-begun : (mid : EndpointValue D) → mid ≡ keeping → next_due e ≡ Some (ToKeep first)
        → HasBegun disk_of e mid
    keep-begun mid same next =
        subst (λ (x : EndpointValue D). HasBegun disk_of e x) (sym same) (record {
          running = has.running;
          busy = has.busy;
          same = λ busy. absurd (busy idle);
          call = λ nothing. start-call disk_of e running idle after s has (Some first.command) e.reserving
              (λ logs. inr (takes logs (state_of keeping logs) refl))
              (subst (λ (p : Option Due). BeginsWith e p (Ok Worked) keeping) (sym next)
              (refl, omega (arith, has.left)))
              taken_backed;
          step = λ result later call.
              let does = call.behaves.advances has.running in (
                by_result result later call (does.goes_on has.busy) next,
                at-once disk_of e keeping later result has.device has.busy (λ nothing. omega (arith, has.left)) does,
              );
        })

  -- ---- it is refused

  module _ (others : List Waiting) (popped : e.waiting ≡ first ∷ others) where
    -- the endpoint without it
    abbrev pub without : EndpointValue D
    without = record e { waiting = others; turn = turn.Reservation }

    fewer : (length (first ∷ others) ≤ queue_length) → length others ≤ queue_length
    fewer few = omega (arith, few)

    pub without-kept : IsSoundEndpoint without
    without-kept = kept-held e without kept refl
        (fewer (subst (λ (w : List Waiting). length w ≤ queue_length) popped kept.few)) kept.tickets
        (inl (record { store = resting.store; reserving = resting.reserving; under_way = resting.under_way }))

    without_backed : IsBacked disk_of e → IsBacked disk_of without
    without_backed backed = kept-backed without without-kept disk_of backed.size (backed.stored running)

    left_state : (logs : Logs) → state_of without logs ≡ state_without_first (state_of e logs) others
    left_state logs = λ i. record (state_of without logs) { under_way = resting.under_way running i }

    -- it is done with, and nothing else changes
    refused_call : (at : CommandFault)
        → ((logs : Logs) → Ends (state_of e logs) first others (Err at) (state_of without logs))
        → BeginsWith e (Some (ToKeep first)) (Ok (Done first.ticket (Err at))) without
        → next_due e ≡ Some (ToKeep first)
        → IsCall disk_of e Advances (Advanced (Ok (Done first.ticket (Err at)))) without
    refused_call at ends begins next =
        quiet disk_of e running idle (Ok (Done first.ticket (Err at))) without
        (λ logs. (first, others, popped, refl, ends logs)) refl refl
        (subst (λ (p : Option Due). BeginsWith e p (Ok (Done first.ticket (Err at))) without) (sym next) begins) refl
        refl refl refl
        without_backed

    by_fault : (at : CommitFault) (s : store.StoreValue D) → StartsCommit disk_of e.store first.command (Err at) s
        → next_due e ≡ Some (ToKeep first)
        → IsCall disk_of e Advances (Advanced (Ok (Done first.ticket (Err (command_fault_of at))))) without
    by_fault commit.Stopped s starts next = absurd (not_stopped (is_stopped e) (starts.stopped.0 refl) running)
    by_fault commit.Disk s starts next = absurd (starts.names refl)
    by_fault (commit.Refused refusal) s starts next =
        refused_call (ran.Refused refusal)
        (λ logs. (
          resting.under_way running,
          refused_by old first.command judged (Named refusal)
              ((starts.refused refusal).0 refl).1,
          left_state logs,
        )) tt next
    by_fault commit.GenerationsSpent s starts next =
        let spent = starts.spent.0 refl in
        refused_call ran.GenerationsSpent (λ logs.
        (resting.under_way running, accepted_by old first.command judged spent.0, left_state logs)) spent.1 next

    -- the same, where endpoint and fault are named otherwise
    told_so : (at told : CommandFault) → told ≡ at → (x : EndpointValue D) → x ≡ e → (tickets : ℕ) → tickets ≡ x.tickets
        → IsCall disk_of e Advances (Advanced (Ok (Done first.ticket (Err at)))) without
        → IsCall disk_of e Advances (Advanced (Ok (Done first.ticket (Err told))))
        (record x { waiting = others; tickets = tickets; turn = turn.Reservation })
    told_so at told is x same tickets given call =
        let Ended : CommandFault → EndpointValue D
        → Type 0 = λ fault new. IsCall disk_of e Advances (Advanced (Ok (Done first.ticket (Err fault)))) new in
        subst (λ (fault : CommandFault).
        Ended fault (record x { waiting = others; tickets = tickets; turn = turn.Reservation })) (sym is)
        (subst (λ (n : ℕ). Ended at (record x { waiting = others; tickets = n; turn = turn.Reservation })) (sym given)
        (subst (λ (y : EndpointValue D). Ended at (record y { waiting = others; turn = turn.Reservation }))
        (sym same) call))

    -- the store refuses it, and the reason is reported
    pub refused-ends : (at : CommitFault) (s : store.StoreValue D)
        → StartsCommit disk_of e.store first.command (Err at) s
        → next_due e ≡ Some (ToKeep first) → (told : CommandFault) → told ≡ command_fault_of at
        → (x : EndpointValue D) → x ≡ e → (tickets : ℕ) → tickets ≡ x.tickets
        → IsCall disk_of e Advances (Advanced (Ok (Done first.ticket (Err told))))
        (record x { waiting = others; tickets = tickets; turn = turn.Reservation })
    refused-ends at s starts next told is x same tickets given =
        told_so (command_fault_of at) told is x same tickets given (by_fault at s starts next)
