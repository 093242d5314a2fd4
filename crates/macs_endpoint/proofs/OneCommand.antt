-- While a ceiling is needed one submitted command at most is done with before a reservation has its turn.
use Rattle.std.proofs.Common.{◌≡◌, ◌≢◌, ◌≤◌, ◌⊎◌, inl, inr, ℕ, true, false, List, [], ◌∷◌, Option, Some, None, Result}
use Rattle.std.proofs.Common.{Ok, Err, refl, sym, ◌∙◌, ap, subst, arith}
use Rattle.macs_config.specs.declared.command.Command.{Command}
use Rattle.macs_disk.specs.Disk.{Disk}
use Rattle.macs_store.specs.Value.{IsIdle, StoreValue, standing_in}
use Rattle.macs_endpoint.specs.Advancing.{AdvancesAs, BeginsWith, GoesOn, Due, ToRaise, due_among, turn_after}
use Rattle.macs_endpoint.specs.Calls.{AdvancesIn, IsCall}
use Rattle.macs_endpoint.specs.Ceilings.{CeilingsAfter, Raise, first_raise}
use Rattle.macs_endpoint.specs.WorkThroughCalls.{IsNotReserved, Needs, NoneReserved, commands_done, commands_in_reply}
use Rattle.macs_endpoint.specs.Limits.{IsStill}
use Rattle.macs_endpoint.specs.Lives.{Lives, Transition}
use Rattle.macs_endpoint.specs.Needed.{raise_in}
use Rattle.macs_endpoint.specs.Queue.{first_waiting}
use Rattle.macs_endpoint.specs.State.{Advanced, AdvancedLong, Advances, Call, Commands, Logs, Protected, Protects, Ran}
use Rattle.macs_endpoint.specs.State.{Received, Receives, Refilled, Refills, RefusedLong, Reply, State, Submits}
use Rattle.macs_endpoint.specs.State.{Submitted, no_logs, rx_side, tx_side}
use Rattle.macs_endpoint.specs.State.{Rested, Rests}
use Rattle.macs_endpoint.specs.Step.{AdvanceStep, Ends, IsStopped, RunningStep, SubmitStep}
use Rattle.macs_endpoint.specs.Value.{EndpointValue, IsAtRest, IsKeeping, IsReserving, IsSoundEndpoint, is_stopped}
use Rattle.macs_endpoint.specs.Value.{state_of}
use Rattle.macs_endpoint.specs.declared.fault.CommandFault.{CommandFault}
use Rattle.macs_endpoint.specs.declared.fault.CommandFault.TheVariants as ran
use Rattle.macs_endpoint.specs.declared.fault.RefillFault.TheVariants as refill
use Rattle.macs_endpoint.specs.declared.fault.StepFault.{StepFault}
use Rattle.macs_endpoint.specs.declared.fault.StepFault.TheVariants as step
use Rattle.macs_endpoint.specs.declared.fault.SubmitFault.{SubmitFault}
use Rattle.macs_endpoint.specs.declared.fault.SubmitFault.TheVariants as submit
use Rattle.macs_endpoint.specs.declared.fault.RestFault.TheVariants as rest
use Rattle.macs_endpoint.specs.declared.progress.Step.{Step as Progress}
use Rattle.macs_endpoint.specs.declared.progress.Step.TheVariants.{Done, Idle, Reserved, Worked}
use Rattle.macs_endpoint.specs.declared.queue.Waiting.{Waiting}
use Rattle.macs_endpoint.specs.declared.turn.Turn.{Turn as Whose}
use Rattle.macs_endpoint.specs.declared.turn.Turn.TheVariants as turn
use Rattle.macs_endpoint.proofs.Alike.{alike-protect, alike-receive}
use Rattle.macs_endpoint.proofs.Idled.{under_way_or_not}
use Rattle.macs_endpoint.proofs.Working.{not_stopped}

-- a ceiling is being raised; or no command is under way, and where no work is, the turn is a reservation's
abbrev IsReservations : {D : Type 0} → EndpointValue D → Type 0
IsReservations e = ((raise : Raise) × (e.reserving ≡ Some raise))
    ⊎ ((e.under_way ≡ None) × (IsIdle e.store → e.turn ≡ turn.Reservation))

-- no submitted command is done with before a reservation has its turn, or none is needed
abbrev IsQuiet : {D : Type 0} → EndpointValue D → Type 0
IsQuiet e = (is_stopped e ≡ true) ⊎ (IsReservations e ⊎ (raise_in e ≡ None))

-- what is needed begins where the turn is a reservation's
raises_by : (whose : Whose) (o : Option Raise) (w : Option Waiting) → whose ≡ turn.Reservation → o ≢ None
    → (raise : Raise) × (due_among whose o w ≡ Some (ToRaise raise))
raises_by whose None w is some = absurd (some refl)
raises_by whose (Some raise) None is some = (raise, refl)
raises_by turn.Reservation (Some raise) (Some first) is some = (raise, refl)
raises_by turn.Command (Some raise) (Some first) is some = absurd cc

-- a stopped endpoint is done with no command
stopped_none : (call : Call) (reply : Reply) → IsStopped call reply → commands_in_reply reply ≡ 0
stopped_none Advances (Advanced (Ok result)) stopped = absurd stopped
stopped_none Advances (Advanced (Err fault)) stopped = refl
stopped_none (Commands command) (Ran result) stopped = refl
stopped_none Refills (Refilled result) stopped = refl
stopped_none Rests (Rested result) stopped = refl
stopped_none (Submits command) (Submitted result) stopped = refl
stopped_none (Protects plain) (Protected result out) stopped = refl
stopped_none (Receives frame) (Received result out) stopped = refl
stopped_none call reply stopped = absurd stopped

-- a command that is done with is no longer under way
done_free : (s : State) (first : Waiting) (rest : List Waiting) (result : Result (Unit {0}) CommandFault) (t : State)
    → Ends s first rest result t
    → t.under_way ≡ None
done_free s first rest (Ok done) t (config, is, made) = ap (λ (x : State). x.under_way) made
done_free s first rest (Err (ran.Refused refusal)) t (free, is, made) = ap (λ (x : State). x.under_way) made
done_free s first rest (Err ran.GenerationsSpent) t (free, is, made) = ap (λ (x : State). x.under_way) made
done_free s first rest (Err ran.Stopped) t ends = absurd ends
done_free s first rest (Err ran.Busy) t ends = absurd ends
done_free s first rest (Err ran.Disk) t ends = absurd ends

-- ---- one call

module _ {D : Type 0} (disk_of : D → Disk) (old new : EndpointValue D) where
  -- a stopped endpoint stays stopped
  stopped_still : (call : Call) (reply : Reply) → is_stopped old ≡ true → IsCall disk_of old call reply new
      → (commands_in_reply reply ≡ 0) × (is_stopped new ≡ true)
  stopped_still call reply stopped is = elim (is.behaves.step no_logs).1 [
    | inl halts ↦ (stopped_none call reply halts.1, ap (λ (x : State). x.stopped) halts.2 ∙ stopped)
    | inr runs ↦ absurd (not_stopped (is_stopped old) stopped runs.0)
  ]

  -- no command is done with by a call, or one is, and a reservation comes next
  abbrev IsDone : Reply → Type 0
  IsDone reply = (commands_in_reply reply ≡ 0) ⊎ ((commands_in_reply reply ≡ 1) × IsQuiet new)

  module _ (after : Logs) where
    abbrev s : State
    s = state_of old no_logs

    abbrev t : State
    t = state_of new after

    dones : (call : Call) (reply : Reply) → RunningStep s call reply t → new.turn ≡ turn_after old call reply
        → IsDone reply
    dones call (Ran result) moves whose = inl refl
    dones call (Refilled result) moves whose = inl refl
    dones call (Rested result) moves whose = inl refl
    dones call (Submitted result) moves whose = inl refl
    dones call RefusedLong moves whose = inl refl
    dones call (AdvancedLong ticket) moves whose = inl refl
    dones call (Protected result out) moves whose = inl refl
    dones call (Received result out) moves whose = inl refl
    dones call (Advanced (Err fault)) moves whose = inl refl
    dones call (Advanced (Ok Idle)) moves whose = inl refl
    dones call (Advanced (Ok Worked)) moves whose = inl refl
    dones call (Advanced (Ok Reserved)) moves whose = inl refl
    dones Advances (Advanced (Ok (Done ticket result))) (first, rest, waits, is_ticket, ends) whose =
        inr (refl, inr (inl (inr (done_free s first rest result t ends, λ idle. whose))))
    dones (Commands command) (Advanced (Ok (Done ticket result))) moves whose = absurd moves
    dones Refills (Advanced (Ok (Done ticket result))) moves whose = absurd moves
    dones Rests (Advanced (Ok (Done ticket result))) moves whose = absurd moves
    dones (Submits command) (Advanced (Ok (Done ticket result))) moves whose = absurd moves
    dones (Protects plain) (Advanced (Ok (Done ticket result))) moves whose = absurd moves
    dones (Receives frame) (Advanced (Ok (Done ticket result))) moves whose = absurd moves

  done-call : (call : Call) (reply : Reply) → IsCall disk_of old call reply new → IsDone reply
  done-call call reply is = elim (is.behaves.step no_logs).1 [
    | inl stopped ↦ inl (stopped_none call reply stopped.1)
    | inr runs ↦ dones (is.behaves.step no_logs).0 call reply runs.1 is.behaves.turn
  ]

  -- ---- a call where a reservation comes next, and a ceiling is needed

  module _ (kept : IsSoundEndpoint old) (needed : raise_in old ≢ None) (reservations : IsReservations old) where
    -- no command is under way, and where no work is the turn is a reservation's
    free_by : IsReservations old → IsAtRest old ⊎ (IsReserving old ⊎ IsKeeping old)
        → (old.under_way ≡ None) × (IsIdle old.store → old.turn ≡ turn.Reservation)
    free_by (inr free) work = free
    free_by (inl (raise, is)) (inl rest) = absurd (let none = sym is ∙ rest.reserving in cc)
    free_by (inl (raise, is)) (inr (inl work)) = (work.under_way, λ idle. absurd (work.busy idle))
    free_by (inl (raise, is)) (inr (inr work)) = absurd (let none = sym is ∙ work.reserving in cc)

    free : (old.under_way ≡ None) × (IsIdle old.store → old.turn ≡ turn.Reservation)
    free = free_by reservations kept.work

    -- no command is done with, and a reservation still comes next
    abbrev IsStillQuiet : Reply → Type 0
    IsStillQuiet reply = (commands_in_reply reply ≡ 0) × IsQuiet new

    -- nothing changes but what waits, and packet numbers
    stays : (reply : Reply) → commands_in_reply reply ≡ 0 → new.under_way ≡ old.under_way → new.store ≡ old.store
        → new.turn ≡ old.turn → IsStillQuiet reply
    stays reply none under_way store whose = (
      none,
      inr (inl (inr (
        under_way ∙ free.0,
        λ idle. whose ∙ free.1 (sym (ap (λ (x : StoreValue D). x.under_way) store) ∙ idle),
      ))),
    )

    -- the turn is a reservation's, and no command is under way
    turns_to : (reply : Reply) → commands_in_reply reply ≡ 0 → new.under_way ≡ None → new.turn ≡ turn.Reservation
        → IsStillQuiet reply
    turns_to reply none under_way whose = (none, inr (inl (inr (under_way, λ idle. whose))))

    stops : (reply : Reply) → commands_in_reply reply ≡ 0 → is_stopped new ≡ true → IsStillQuiet reply
    stops reply none stopped = (none, inl stopped)

    module _ (after : Logs) where
      abbrev u : State
      u = state_of old no_logs

      abbrev v : State
      v = state_of new after

      keeps : (reply : Reply) → commands_in_reply reply ≡ 0 → new.store ≡ old.store → new.turn ≡ old.turn → v ≡ u
          → IsStillQuiet reply
      keeps reply none store whose is = stays reply none (ap (λ (x : State). x.under_way) is) store whose

      -- ---- a step

      begins : (result : Result Progress StepFault) → IsIdle old.store → AdvancesAs disk_of old result new
          → (raise : Raise) × BeginsWith old (Some (ToRaise raise)) result new
      begins result idle does =
          let next = raises_by old.turn (raise_in old) (first_waiting old.waiting) (free.1 idle) needed in
          (next.0, subst (λ (due : Option Due). BeginsWith old due result new) next.1 (does.begins idle))

      none_kept : (command : Command) → old.under_way ≡ Some command → ⊥
      none_kept command is = let none = sym free.0 ∙ is in cc

      goes_on : (ticket : ℕ) (result : Result (Unit {0}) CommandFault) → GoesOn old (Ok (Done ticket result)) new → ⊥
      goes_on ticket (Ok done) goes = none_kept goes.0.0 goes.0.1
      goes_on ticket (Err fault) goes = goes

      advance : (result : Result Progress StepFault) → AdvanceStep u result v → AdvancesAs disk_of old result new
          → IsNotReserved (Advanced result)
          → IsStillQuiet (Advanced result)
      advance (Ok Idle) moves does calm = elim (under_way_or_not old.store.under_way) [
        | inl idle ↦ absurd (begins (Ok Idle) idle does).1
        | inr busy ↦ absurd (does.goes_on busy)
      ]
      advance (Ok Worked) moves does calm = elim (under_way_or_not old.store.under_way) [
        | inl idle ↦ let began = begins (Ok Worked) idle does in (refl, inr (inl (inl (began.0, began.1.0))))
        | inr busy ↦ let goes = does.goes_on busy in
            (refl, inr (inl (inr (goes.1 ∙ free.0, λ idle. absurd (goes.2 idle)))))
      ]
      advance (Ok Reserved) moves does calm = absurd calm
      advance (Ok (Done ticket result)) moves does calm = elim (under_way_or_not old.store.under_way) [
        | inl idle ↦ absurd (begins (Ok (Done ticket result)) idle does).1
        | inr busy ↦ absurd (goes_on ticket result (does.goes_on busy))
      ]
      advance (Err step.Stopped) moves does calm = absurd moves
      advance (Err step.GenerationsSpent) moves does calm = absurd calm
      advance (Err step.Disk) moves does calm = elim moves [
        | inl is ↦ stops (Advanced (Err step.Disk)) refl (ap (λ (x : State). x.stopped) is)
        | inr taken ↦ stops (Advanced (Err step.Disk)) refl (ap (λ (x : State). x.stopped) taken.2)
      ]

      -- ---- any call

      submits : (command : Command) (result : Result ℕ SubmitFault) → SubmitStep u command result v
          → new.store ≡ old.store → new.turn ≡ old.turn
          → IsStillQuiet (Submitted result)
      submits command (Ok ticket) moves store whose =
          stays (Submitted (Ok ticket)) refl (ap (λ (x : State). x.under_way) moves.3) store whose
      submits command (Err submit.QueueFull) moves store whose =
          keeps (Submitted (Err submit.QueueFull)) refl store whose moves.1
      submits command (Err submit.TicketsSpent) moves store whose =
          keeps (Submitted (Err submit.TicketsSpent)) refl store whose moves.2
      submits command (Err submit.Stopped) moves store whose = absurd moves

      -- after a refill that is answered Ok nothing is needed
      refills : v ≡ u → CeilingsAfter u (standing_in old.store) old.reserving Refills (Refilled (Ok tt))
          (standing_in new.store) → raise_in new ≡ None
      refills is stands = subst (λ (x : State). first_raise (standing_in new.store) (tx_side x) (rx_side x) ≡ None)
          (sym is) stands.is_next

      runs : (call : Call) (reply : Reply) → is_stopped old ≡ false → RunningStep u call reply v
          → IsStill old call reply new → AdvancesIn disk_of old call reply new
          → CeilingsAfter u (standing_in old.store) old.reserving call reply (standing_in new.store)
          → new.turn ≡ turn_after old call reply
          → IsNotReserved reply → IsStillQuiet reply
      runs (Commands command) (Ran (Ok done)) run (none, (config, is, made)) still does stands whose calm =
          turns_to (Ran (Ok done)) refl (ap (λ (x : State). x.under_way) made) whose
      runs (Commands command) (Ran (Err ran.Stopped)) run moves still does stands whose calm = absurd moves
      runs (Commands command) (Ran (Err ran.Busy)) run moves still does stands whose calm =
          keeps (Ran (Err ran.Busy)) refl still whose moves.1
      runs (Commands command) (Ran (Err (ran.Refused refusal))) run moves still does stands whose calm =
          turns_to (Ran (Err (ran.Refused refusal))) refl (ap (λ (x : State). x.under_way) moves.2 ∙ free.0) whose
      runs (Commands command) (Ran (Err ran.GenerationsSpent)) run moves still does stands whose calm =
          turns_to (Ran (Err ran.GenerationsSpent)) refl (ap (λ (x : State). x.under_way) moves.2 ∙ free.0) whose
      runs (Commands command) (Ran (Err ran.Disk)) run moves still does stands whose calm =
          stops (Ran (Err ran.Disk)) refl (ap (λ (x : State). x.stopped) moves.2)
      runs Refills (Refilled (Ok done)) run moves still does stands whose calm =
          (refl, inr (inr (refills moves.1 stands)))
      runs Refills (Refilled (Err refill.Stopped)) run moves still does stands whose calm = absurd moves
      runs Refills (Refilled (Err refill.Busy)) run moves still does stands whose calm =
          keeps (Refilled (Err refill.Busy)) refl still whose moves.1
      runs Refills (Refilled (Err refill.GenerationsSpent)) run moves still does stands whose calm = absurd calm
      runs Refills (Refilled (Err refill.Disk)) run moves still does stands whose calm =
          stops (Refilled (Err refill.Disk)) refl (ap (λ (x : State). x.stopped) moves.1)
      runs Rests (Rested (Ok done)) run moves still does stands whose calm = absurd calm
      runs Rests (Rested (Err rest.Stopped)) run moves still does stands whose calm = absurd moves
      runs Rests (Rested (Err rest.Busy)) run moves still does stands whose calm =
          keeps (Rested (Err rest.Busy)) refl still whose moves.1
      runs Rests (Rested (Err rest.GenerationsSpent)) run moves still does stands whose calm = absurd calm
      runs Rests (Rested (Err rest.Disk)) run moves still does stands whose calm =
          stops (Rested (Err rest.Disk)) refl (ap (λ (x : State). x.stopped) moves.1)
      runs (Submits command) (Submitted result) run moves still does stands whose calm =
          submits command result moves still whose
      runs Advances (Advanced result) run moves still does stands whose calm = advance result moves (does run) calm
      runs (Protects plain) (Protected result out) run moves still does stands whose calm =
          stays (Protected result out) refl (alike-protect u v plain result out moves).0 still whose
      runs (Receives frame) (Received result out) run moves still does stands whose calm =
          stays (Received result out) refl (alike-receive u v frame result out moves).0 still whose
      runs (Commands command) RefusedLong run moves still does stands whose calm = absurd still
      runs Advances (AdvancedLong ticket) run moves still does stands whose calm = absurd still
      runs call reply run moves still does stands whose calm = absurd moves

    reserves : (call : Call) (reply : Reply) → IsCall disk_of old call reply new → IsNotReserved reply
        → IsStillQuiet reply
    reserves call reply is calm =
        let one = is.behaves.step no_logs in
        elim one.1 [
          | inl halts ↦ (stopped_none call reply halts.1, inl (ap (λ (x : State). x.stopped) halts.2 ∙ halts.0))
          | inr steps ↦ runs one.0 call reply steps.0 steps.1 is.behaves.still is.behaves.advances is.behaves.ceilings
              is.behaves.turn calm
        ]

  quiet-call : (call : Call) (reply : Reply) → IsSoundEndpoint old → raise_in old ≢ None → IsQuiet old
      → IsCall disk_of old call reply new
      → IsNotReserved reply → (commands_in_reply reply ≡ 0) × IsQuiet new
  quiet-call call reply kept needed (inl stopped) is calm = let still = stopped_still call reply stopped is in
      (still.0, inl still.1)
  quiet-call call reply kept needed (inr (inl reservations)) is calm =
      reserves kept needed reservations call reply is calm
  quiet-call call reply kept needed (inr (inr none)) is calm = absurd (needed none)

-- ---- through calls

module _ {D : Type 0} (disk_of : D → Disk) where
  quiet_life : (turns : List (Transition D)) (e new : EndpointValue D) → IsQuiet e → Lives disk_of e turns new
      → Needs e turns → NoneReserved turns
      → commands_done turns ≡ 0
  quiet_life [] e new quiet lives needs calm = refl
  quiet_life (turn ∷ turns) e new quiet lives needs calm =
      let one = quiet-call disk_of e turn.after turn.call turn.reply lives.0 needs.0 quiet lives.1 calm.0 in
      omega (arith, one.0, quiet_life turns turn.after new one.1 lives.2 needs.1 calm.1)

  -- while a ceiling is needed, and no reservation has its turn, one submitted command at most is done with
  pub one-command : (old new : EndpointValue D) (turns : List (Transition D)) → Lives disk_of old turns new
      → Needs old turns → NoneReserved turns
      → commands_done turns ≤ 1
  one-command old new [] lives needs calm = omega arith
  one-command old new (turn ∷ turns) lives needs calm =
      elim (done-call disk_of old turn.after turn.call turn.reply lives.1) [
        | inl none ↦ omega (arith, none, one-command turn.after new turns lives.2 needs.1 calm.1)
        | inr (one, quiet) ↦ omega (arith, one, quiet_life turns turn.after new quiet lives.2 needs.1 calm.1)
      ]
