-- Between two commands that wait one reservation at most has its turn.
use Rattle.std.proofs.Common.{◌≡◌, ◌≢◌, ◌≤◌, ◌+◌, ◌++◌, ◌⊎◌, inl, inr, ℕ, true, false, List, [], ◌∷◌, Option, Some}
use Rattle.std.proofs.Common.{None, Result, Ok, Err, refl, sym, ◌∙◌, ap, subst, arith}
use Rattle.macs_config.specs.declared.command.Command.{Command}
use Rattle.macs_disk.specs.Disk.{Disk}
use Rattle.macs_store.specs.Value.{IsIdle, StoreValue}
use Rattle.macs_endpoint.specs.Advancing.{AdvancesAs, BeginsWith, Due, ToKeep, ToRaise, next_due, due_among}
use Rattle.macs_endpoint.specs.Advancing.{turn_after, turn_after_step}
use Rattle.macs_endpoint.specs.Calls.{AdvancesIn, IsCall}
use Rattle.macs_endpoint.specs.Ceilings.{Raise}
use Rattle.macs_endpoint.specs.WorkThroughCalls.{IsNotDone, NoneDone, reservations_in_reply, reservations_made}
use Rattle.macs_endpoint.specs.Limits.{IsStill}
use Rattle.macs_endpoint.specs.Lives.{Lives, Transition}
use Rattle.macs_endpoint.specs.Needed.{raise_in}
use Rattle.macs_endpoint.specs.Queue.{first_waiting}
use Rattle.macs_endpoint.specs.State.{Advanced, AdvancedLong, Advances, Call, Commands, Logs, Protected, Protects, Ran}
use Rattle.macs_endpoint.specs.State.{Received, Receives, Refilled, Refills, RefusedLong, Reply, State, Submits}
use Rattle.macs_endpoint.specs.State.{Submitted, no_logs}
use Rattle.macs_endpoint.specs.State.{Rested, Rests}
use Rattle.macs_endpoint.specs.Step.{AdvanceStep, IsStopped, RunningStep, SubmitStep}
use Rattle.macs_endpoint.specs.Value.{EndpointValue, IsAtRest, IsKeeping, IsReserving, IsSoundEndpoint, is_stopped}
use Rattle.macs_endpoint.specs.Value.{state_of}
use Rattle.macs_endpoint.specs.declared.fault.CommandFault.TheVariants as ran
use Rattle.macs_endpoint.specs.declared.fault.RefillFault.TheVariants as refill
use Rattle.macs_endpoint.specs.declared.fault.StepFault.{StepFault}
use Rattle.macs_endpoint.specs.declared.fault.StepFault.TheVariants as step
use Rattle.macs_endpoint.specs.declared.fault.SubmitFault.{SubmitFault}
use Rattle.macs_endpoint.specs.declared.fault.SubmitFault.TheVariants as submit
use Rattle.macs_endpoint.specs.declared.fault.RestFault.TheVariants as rest
use Rattle.macs_endpoint.specs.declared.progress.Step.{Step as Progress}
use Rattle.macs_endpoint.specs.declared.progress.Step.TheVariants.{Done, Idle, Reserved, Worked}
use Rattle.macs_endpoint.specs.declared.queue.Waiting.{Waiting}
use Rattle.macs_endpoint.specs.declared.turn.Turn.{Turn as Whose}
use Rattle.macs_endpoint.specs.declared.turn.Turn.TheVariants as turn
use Rattle.macs_endpoint.proofs.Alike.{alike-protect, alike-receive}
use Rattle.macs_endpoint.proofs.Idled.{under_way_or_not}
use Rattle.macs_endpoint.proofs.Working.{at-rest, not_stopped, some_is}

-- a command waits
abbrev Waits : {D : Type 0} → EndpointValue D → Type 0
Waits e = (first : Waiting) × (rest : List Waiting) × (e.waiting ≡ first ∷ rest)

-- the first command that waits is under way, or is next
abbrev IsCommands : {D : Type 0} → EndpointValue D → Type 0
IsCommands e = ((command : Command) × (e.under_way ≡ Some command)) ⊎ (IsIdle e.store × (e.turn ≡ turn.Command))

-- where it is next it begins
takes_by : (whose : Whose) (o : Option Raise) (w : Option Waiting) (first : Waiting) → whose ≡ turn.Command
    → w ≡ Some first
    → due_among whose o w ≡ Some (ToKeep first)
takes_by turn.Reservation o w first is waits = absurd cc
takes_by turn.Command o None first is waits = absurd cc
takes_by turn.Command None (Some f) first is waits = ap (λ (x : Waiting). Some (ToKeep x)) (some_is f first waits)
takes_by turn.Command (Some raise) (Some f) first is waits =
    ap (λ (x : Waiting). Some (ToKeep x)) (some_is f first waits)

pub none_reserved : {D : Type 0} (old new : EndpointValue D) (due : Option Due)
    → BeginsWith old due (Ok Reserved) new → ⊥
none_reserved old new None begins = begins
none_reserved old new (Some (ToRaise raise)) begins = begins
none_reserved old new (Some (ToKeep first)) begins = begins

none_idle : {D : Type 0} (old new : EndpointValue D) (due : Option Due)
    → BeginsWith old due (Ok Idle) new → new ≡ old
none_idle old new None begins = begins
none_idle old new (Some (ToRaise raise)) begins = absurd begins
none_idle old new (Some (ToKeep first)) begins = absurd begins

-- a stopped endpoint reserves nothing
stopped_none : (call : Call) (reply : Reply) → IsStopped call reply → reservations_in_reply reply ≡ 0
stopped_none Advances (Advanced (Ok result)) stopped = absurd stopped
stopped_none Advances (Advanced (Err step.GenerationsSpent)) stopped = absurd stopped
stopped_none Advances (Advanced (Err step.Disk)) stopped = absurd stopped
stopped_none Advances (Advanced (Err step.Stopped)) stopped = refl
stopped_none (Commands command) (Ran result) stopped = refl
stopped_none Refills (Refilled result) stopped = refl
stopped_none Rests (Rested result) stopped = refl
stopped_none (Submits command) (Submitted result) stopped = refl
stopped_none (Protects plain) (Protected result out) stopped = refl
stopped_none (Receives frame) (Received result out) stopped = refl
stopped_none call reply stopped = absurd stopped

-- ---- one call

module _ {D : Type 0} (disk_of : D → Disk) (old new : EndpointValue D) (kept : IsSoundEndpoint old)
    (waits : Waits old) where
  -- The endpoint is stopped after it; or no reservation used its turn; or one did, where the turn was no command's, and
  -- it is one's now.
  abbrev Uses : Reply → Type 0
  Uses reply = ((is_stopped new ≡ true) × (reservations_in_reply reply ≡ 0))
      ⊎ (((reservations_in_reply reply ≡ 0) × (IsCommands old → IsCommands new) × Waits new)
      ⊎ ((reservations_in_reply reply ≡ 1) × (¬ IsCommands old) × IsCommands new × Waits new))

  waits_still : new.waiting ≡ old.waiting → Waits new
  waits_still is = (waits.0, waits.1, is ∙ waits.2)

  some_wait : old.waiting ≡ [] → ⊥
  some_wait none = let is = sym none ∙ waits.2 in cc

  -- nothing changes but what waits after the first, and packet numbers
  stays : (reply : Reply) → reservations_in_reply reply ≡ 0 → new.under_way ≡ old.under_way → new.store ≡ old.store
      → new.turn ≡ old.turn → Waits new → Uses reply
  stays reply none under_way store whose wait = inr (inl (
    none,
    (λ commands. elim commands [
      | inl held ↦ inl (held.0, under_way ∙ held.1)
      | inr next ↦ inr (ap (λ (x : StoreValue D). x.under_way) store ∙ next.0, whose ∙ next.1)
    ]),
    wait,
  ))

  module _ (after : Logs) (running : is_stopped old ≡ false) where
    abbrev s : State
    s = state_of old no_logs

    abbrev t : State
    t = state_of new after

    -- the state is as it was
    keeps : (reply : Reply) → reservations_in_reply reply ≡ 0 → new.store ≡ old.store → new.turn ≡ old.turn → t ≡ s
        → Uses reply
    keeps reply none store whose is =
        stays reply none (ap (λ (x : State). x.under_way) is) store whose
        (waits_still (ap (λ (x : State). x.waiting) is))

    -- ---- a step

    -- a command that is next begins
    begins : IsIdle old.store → IsCommands old → next_due old ≡ Some (ToKeep waits.0)
    begins idle (inl held) = absurd (let is = sym held.1 ∙ (at-rest old kept idle).under_way running in cc)
    begins idle (inr next) =
        takes_by old.turn (raise_in old) (first_waiting old.waiting) waits.0 next.1 (ap first_waiting waits.2)

    -- work under way that is a command's
    held : (¬ IsIdle old.store) → IsCommands old → (command : Command) × (old.under_way ≡ Some command)
    held busy (inl is) = is
    held busy (inr next) = absurd (busy next.0)

    -- and a reservation's is not
    no_command : (¬ IsIdle old.store) → (raise : Raise) → old.reserving ≡ Some raise
        → IsAtRest old ⊎ (IsReserving old ⊎ IsKeeping old) → IsCommands old → ⊥
    no_command busy raise is (inl rest) commands = busy rest.store
    no_command busy raise is (inr (inl work)) commands = let none = sym (held busy commands).1 ∙ work.under_way in cc
    no_command busy raise is (inr (inr work)) commands = let none = sym is ∙ work.reserving in cc

    worked : AdvancesAs disk_of old (Ok Worked) new → IsCommands old → IsCommands new
    worked does commands = elim (under_way_or_not old.store.under_way) [
      | inl idle ↦
          let began = subst (λ (due : Option Due). BeginsWith old due (Ok Worked) new) (begins idle commands)
          (does.begins idle) in
          inl (waits.0.command, began.0)
      | inr busy ↦ let under_way = held busy commands in inl (under_way.0, (does.goes_on busy).1 ∙ under_way.1)
    ]

    advance : (result : Result Progress StepFault) → AdvanceStep s result t → IsStill old Advances (Advanced result) new
        → AdvancesAs disk_of old result new
        → new.turn ≡ turn_after_step old.turn result → IsNotDone (Advanced result) → Uses (Advanced result)
    advance (Ok Idle) moves still does whose free = elim (under_way_or_not old.store.under_way) [
      | inl idle ↦
          let is = none_idle old new (next_due old) (does.begins idle) in
          keeps (Advanced (Ok Idle)) refl (ap (λ (x : EndpointValue D). x.store) is) whose moves
      | inr busy ↦ absurd (does.goes_on busy)
    ]
    advance (Ok Worked) moves still does whose free =
        let wait : new.waiting ≡ old.waiting = elim moves [
          | inl is ↦ ap (λ (x : State). x.waiting) is
          | inr taken ↦ ap (λ (x : State). x.waiting) taken.5
        ] in
        inr (inl (refl, worked does, waits_still wait))
    advance (Ok Reserved) moves still does whose free = elim (under_way_or_not old.store.under_way) [
      | inl idle ↦ absurd (none_reserved old new (next_due old) (does.begins idle))
      | inr busy ↦
          let goes = does.goes_on busy in
          inr (inr (
            refl,
            no_command busy goes.0.0 goes.0.1 kept.work,
            inr (goes.1, whose),
            waits_still (ap (λ (x : State). x.waiting) moves),
          ))
    ]
    advance (Ok (Done ticket result)) moves still does whose free = absurd free
    advance (Err step.Stopped) moves still does whose free = absurd moves
    advance (Err step.GenerationsSpent) moves still does whose free = elim (under_way_or_not old.store.under_way) [
      | inl idle ↦ inr (inr (
        refl,
        (λ commands. subst (λ (due : Option Due). BeginsWith old due (Err step.GenerationsSpent) new)
            (begins idle commands) (does.begins idle)),
        inr (ap (λ (x : StoreValue D). x.under_way) still ∙ idle, whose),
        waits_still (ap (λ (x : State). x.waiting) moves),
      ))
      | inr busy ↦ absurd (does.goes_on busy)
    ]
    advance (Err step.Disk) moves still does whose free = elim moves [
      | inl is ↦ inl (ap (λ (x : State). x.stopped) is, refl)
      | inr taken ↦ inl (ap (λ (x : State). x.stopped) taken.2, refl)
    ]

    -- ---- any call

    submits : (command : Command) (result : Result ℕ SubmitFault) → SubmitStep s command result t
        → new.store ≡ old.store → new.turn ≡ old.turn
        → Uses (Submitted result)
    submits command (Ok ticket) moves store whose =
        let is = moves.3 in
        let last : Waiting = record { ticket = old.tickets + 1; command = command } in
        stays (Submitted (Ok ticket)) refl (ap (λ (x : State). x.under_way) is) store whose (
          waits.0,
          waits.1 ++ last ∷ [],
          ap (λ (x : State). x.waiting) is
              ∙ ap (λ (w : List Waiting). w ++ last ∷ []) waits.2,
        )
    submits command (Err submit.QueueFull) moves store whose =
        keeps (Submitted (Err submit.QueueFull)) refl store whose moves.1
    submits command (Err submit.TicketsSpent) moves store whose =
        keeps (Submitted (Err submit.TicketsSpent)) refl store whose moves.2
    submits command (Err submit.Stopped) moves store whose = absurd moves

    runs : (call : Call) (reply : Reply) → RunningStep s call reply t → IsStill old call reply new
        → AdvancesIn disk_of old call reply new
        → new.turn ≡ turn_after old call reply → IsNotDone reply → Uses reply
    runs (Commands command) (Ran (Ok done)) moves still does whose free = absurd (some_wait moves.0)
    runs (Commands command) (Ran (Err ran.Stopped)) moves still does whose free = absurd moves
    runs (Commands command) (Ran (Err ran.Busy)) moves still does whose free =
        keeps (Ran (Err ran.Busy)) refl still whose moves.1
    runs (Commands command) (Ran (Err (ran.Refused refusal))) moves still does whose free = absurd (some_wait moves.0)
    runs (Commands command) (Ran (Err ran.GenerationsSpent)) moves still does whose free = absurd (some_wait moves.0)
    runs (Commands command) (Ran (Err ran.Disk)) moves still does whose free = absurd (some_wait moves.0)
    runs Refills (Refilled (Ok done)) moves still does whose free = absurd (some_wait moves.0)
    runs Refills (Refilled (Err refill.Stopped)) moves still does whose free = absurd moves
    runs Refills (Refilled (Err refill.Busy)) moves still does whose free =
        keeps (Refilled (Err refill.Busy)) refl still whose moves.1
    runs Refills (Refilled (Err refill.GenerationsSpent)) moves still does whose free = absurd (some_wait moves.0)
    runs Refills (Refilled (Err refill.Disk)) moves still does whose free = absurd (some_wait moves.0)
    runs Rests (Rested (Ok done)) moves still does whose free = absurd (some_wait moves.0)
    runs Rests (Rested (Err rest.Stopped)) moves still does whose free = absurd moves
    runs Rests (Rested (Err rest.Busy)) moves still does whose free =
        keeps (Rested (Err rest.Busy)) refl still whose moves.1
    runs Rests (Rested (Err rest.GenerationsSpent)) moves still does whose free = absurd (some_wait moves.0)
    runs Rests (Rested (Err rest.Disk)) moves still does whose free = absurd (some_wait moves.0)
    runs (Submits command) (Submitted result) moves still does whose free = submits command result moves still whose
    runs Advances (Advanced result) moves still does whose free = advance result moves still (does running) whose free
    runs (Protects plain) (Protected result out) moves still does whose free =
        let like = alike-protect s t plain result out moves in
        stays (Protected result out) refl like.0 still whose (waits_still like.1)
    runs (Receives frame) (Received result out) moves still does whose free =
        let like = alike-receive s t frame result out moves in
        stays (Received result out) refl like.0 still whose (waits_still like.1)
    runs (Commands command) RefusedLong moves still does whose free = absurd still
    runs Advances (AdvancedLong ticket) moves still does whose free = absurd still
    runs call reply moves still does whose free = absurd moves

  uses : (call : Call) (reply : Reply) → IsCall disk_of old call reply new → IsNotDone reply → Uses reply
  uses call reply is free =
      let one = is.behaves.step no_logs in
      elim one.1 [
        | inl stopped ↦ inl (ap (λ (x : State). x.stopped) stopped.2 ∙ stopped.0, stopped_none call reply stopped.1)
        | inr steps ↦ runs one.0 steps.0 call reply steps.1 is.behaves.still is.behaves.advances is.behaves.turn free
      ]

-- ---- through calls

module _ {D : Type 0} (disk_of : D → Disk) where
  -- a stopped endpoint reserves nothing
  stopped_life : (turns : List (Transition D)) (e new : EndpointValue D) → is_stopped e ≡ true
      → Lives disk_of e turns new → reservations_made turns ≡ 0
  stopped_life [] e new stopped lives = refl
  stopped_life (turn ∷ turns) e new stopped lives = elim (lives.1.behaves.step no_logs).1 [
    | inl is ↦
        let still : is_stopped turn.after ≡ true = ap (λ (x : State). x.stopped) is.2 ∙ is.0 in
        omega (arith, stopped_none turn.call turn.reply is.1, stopped_life turns turn.after new still lives.2)
    | inr runs ↦ absurd (not_stopped (is_stopped e) stopped runs.0)
  ]

  -- no reservation has its turn before the command has had it
  commands_life : (turns : List (Transition D)) (e new : EndpointValue D) → Waits e → IsCommands e
      → Lives disk_of e turns new → NoneDone turns → reservations_made turns ≡ 0
  commands_life [] e new waits commands lives free = refl
  commands_life (turn ∷ turns) e new waits commands lives free =
      elim (uses disk_of e turn.after lives.0 waits turn.call turn.reply lives.1 free.0) [
        | inl (stopped, none) ↦ omega (arith, none, stopped_life turns turn.after new stopped lives.2)
        | inr (inl (none, keeps, wait)) ↦ omega
            (arith, none, commands_life turns turn.after new wait (keeps commands) lives.2 free.1)
        | inr (inr (one, others, now, wait)) ↦ absurd (others commands)
      ]

  one_life : (turns : List (Transition D)) (e new : EndpointValue D) → Waits e → Lives disk_of e turns new
      → NoneDone turns → reservations_made turns ≤ 1
  one_life [] e new waits lives free = omega arith
  one_life (turn ∷ turns) e new waits lives free =
      elim (uses disk_of e turn.after lives.0 waits turn.call turn.reply lives.1 free.0) [
        | inl (stopped, none) ↦ omega (arith, none, stopped_life turns turn.after new stopped lives.2)
        | inr (inl (none, keeps, wait)) ↦ omega (arith, none, one_life turns turn.after new wait lives.2 free.1)
        | inr (inr (one, others, now, wait)) ↦ omega
            (arith, one, commands_life turns turn.after new wait now lives.2 free.1)
      ]

  waits_by : (e : EndpointValue D) (w : List Waiting) → e.waiting ≡ w → w ≢ [] → Waits e
  waits_by e [] is some = absurd (some refl)
  waits_by e (first ∷ rest) is some = (first, rest, is)

  -- while a command waits, and none is done with, one reservation at most uses its turn
  pub one-between : (old new : EndpointValue D) (turns : List (Transition D)) → old.waiting ≢ []
      → Lives disk_of old turns new → NoneDone turns
      → reservations_made turns ≤ 1
  one-between old new turns some lives free = one_life turns old new (waits_by old old.waiting refl some) lives free
