-- Work under way ends, and what is reserved then is what was needed when it began.
use Rattle.std.proofs.Common.{◌≡◌, ◌≤◌, ◌+◌, ◌⊎◌, inl, inr, true, false, List, [], ◌∷◌, Option, Some, None, Result, Ok}
use Rattle.std.proofs.Common.{Err, refl, ◌∙◌, ap, arith}
use Rattle.macs_disk.specs.Disk.{Disk}
use Rattle.macs_store.specs.Keeps.{most_calls}
use Rattle.macs_store.specs.Value.{IsIdle, StoreValue, calls_left}
use Rattle.macs_endpoint.specs.Advancing.{BeginsWith, GoesOn, Due, ToKeep, ToRaise, next_due}
use Rattle.macs_endpoint.specs.Calls.{AdvancesIn, IsCall, IsStep, EndsWork}
use Rattle.macs_endpoint.specs.WorkThroughCalls.{Lasts, steps_in_call, steps_made}
use Rattle.macs_endpoint.specs.Limits.{IsStill}
use Rattle.macs_endpoint.specs.Lives.{Lives, Transition}
use Rattle.macs_endpoint.specs.State.{Advanced, AdvancedLong, Advances, Call, Commands, Logs, Protected, Protects, Ran}
use Rattle.macs_endpoint.specs.State.{Received, Receives, Refilled, Refills, RefusedLong, Reply, State, Submits}
use Rattle.macs_endpoint.specs.State.{Submitted, no_logs}
use Rattle.macs_endpoint.specs.State.{Rested, Rests}
use Rattle.macs_endpoint.specs.Step.{AdvanceStep, RunningStep}
use Rattle.macs_endpoint.specs.Value.{EndpointValue, is_stopped, state_of}
use Rattle.macs_endpoint.specs.declared.fault.CommandFault.TheVariants as ran
use Rattle.macs_endpoint.specs.declared.fault.RefillFault.TheVariants as refill
use Rattle.macs_endpoint.specs.declared.fault.StepFault.TheVariants as step
use Rattle.macs_endpoint.specs.declared.fault.RestFault.TheVariants as rest
use Rattle.macs_endpoint.specs.declared.fault.StepFault.{StepFault}
use Rattle.macs_endpoint.specs.declared.progress.Step.{Step as Progress}
use Rattle.macs_endpoint.specs.declared.progress.Step.TheVariants.{Done, Idle, Reserved, Worked}
use Rattle.macs_endpoint.proofs.Working.{not_stopped}

-- the state after is stopped where the one before is
still_stopped : (s t : State) → s.stopped ≡ true → t ≡ s → t.stopped ≡ true
still_stopped s t stopped is = ap (λ (x : State). x.stopped) is ∙ stopped

-- ---- one call

module _ {D : Type 0} (disk_of : D → Disk) (old new : EndpointValue D) (busy : ¬ IsIdle old.store)
    (running : is_stopped new ≡ false) where
  -- a call leaves fewer device calls of the work under way, by one for a step, or none
  abbrev LeavesFewer : Call → Type 0
  LeavesFewer call = (IsIdle new.store × (steps_in_call call ≤ calls_left old.store))
      ⊎ (steps_in_call call + calls_left new.store ≤ calls_left old.store)

  same : (call : Call) → steps_in_call call ≡ 0 → new.store ≡ old.store → LeavesFewer call
  same call none is = inr (omega (arith, none, ap (λ (s : StoreValue D). calls_left s) is))

  ends : (call : Call) → steps_in_call call ≡ 0 → IsIdle new.store → LeavesFewer call
  ends call none idle = inl (idle, omega (arith, none))

  fails : {A : Type 0} → is_stopped new ≡ true → A
  fails stopped = absurd (not_stopped (is_stopped new) stopped running)

  module _ (after : Logs) where
    abbrev s : State
    s = state_of old no_logs

    abbrev t : State
    t = state_of new after

    advances : (result : Result Progress StepFault) → AdvanceStep s result t → GoesOn old result new
        → LeavesFewer Advances
    advances (Ok Idle) moves goes = absurd goes
    advances (Ok Worked) moves goes = inr (omega (arith, goes.3))
    advances (Ok Reserved) moves goes = inl (goes.1, omega (arith, goes.2))
    advances (Ok (Done ticket (Ok done))) moves goes = inl (goes.1, omega (arith, goes.2))
    advances (Ok (Done ticket (Err fault))) moves goes = absurd goes
    advances (Err step.Stopped) moves goes = absurd goes
    advances (Err step.GenerationsSpent) moves goes = absurd goes
    advances (Err step.Disk) moves goes = elim moves [
      | inl is ↦ fails (ap (λ (x : State). x.stopped) is)
      | inr taken ↦ fails (ap (λ (x : State). x.stopped) taken.2)
    ]

    runs : (call : Call) (reply : Reply) → is_stopped old ≡ false → RunningStep s call reply t
        → IsStill old call reply new → EndsWork call reply new
        → AdvancesIn disk_of old call reply new → LeavesFewer call
    runs (Commands command) (Ran (Ok done)) run moves still rests advanced = ends (Commands command) refl rests
    runs (Commands command) (Ran (Err ran.Stopped)) run moves still rests advanced = same (Commands command) refl still
    runs (Commands command) (Ran (Err ran.Busy)) run moves still rests advanced = same (Commands command) refl still
    runs (Commands command) (Ran (Err (ran.Refused refusal))) run moves still rests advanced =
        same (Commands command) refl still
    runs (Commands command) (Ran (Err ran.GenerationsSpent)) run moves still rests advanced =
        ends (Commands command) refl rests
    runs (Commands command) (Ran (Err ran.Disk)) run moves still rests advanced =
        fails (ap (λ (x : State). x.stopped) moves.2)
    runs Refills (Refilled (Ok done)) run moves still rests advanced = ends Refills refl rests
    runs Refills (Refilled (Err refill.Stopped)) run moves still rests advanced = same Refills refl still
    runs Refills (Refilled (Err refill.Busy)) run moves still rests advanced = same Refills refl still
    runs Refills (Refilled (Err refill.GenerationsSpent)) run moves still rests advanced = ends Refills refl rests
    runs Refills (Refilled (Err refill.Disk)) run moves still rests advanced =
        fails (ap (λ (x : State). x.stopped) moves.1)
    runs Rests (Rested (Ok done)) run moves still rests advanced = ends Rests refl rests
    runs Rests (Rested (Err rest.Stopped)) run moves still rests advanced = same Rests refl still
    runs Rests (Rested (Err rest.Busy)) run moves still rests advanced = same Rests refl still
    runs Rests (Rested (Err rest.GenerationsSpent)) run moves still rests advanced = ends Rests refl rests
    runs Rests (Rested (Err rest.Disk)) run moves still rests advanced =
        fails (ap (λ (x : State). x.stopped) moves.1)
    runs (Submits command) (Submitted result) run moves still rests advanced = same (Submits command) refl still
    runs Advances (Advanced result) run moves still rests advanced = advances result moves ((advanced run).goes_on busy)
    runs (Protects plain) (Protected result out) run moves still rests advanced = same (Protects plain) refl still
    runs (Receives frame) (Received result out) run moves still rests advanced = same (Receives frame) refl still
    runs (Commands command) RefusedLong run moves still rests advanced = absurd still
    runs Advances (AdvancedLong ticket) run moves still rests advanced = absurd still
    runs call reply run moves still rests advanced = absurd moves

  pub leaves_fewer : (call : Call) (reply : Reply) → IsCall disk_of old call reply new → LeavesFewer call
  leaves_fewer call reply is =
      let one = is.behaves.step no_logs in
      elim one.1 [
        | inl stopped ↦ fails (still_stopped (state_of old no_logs) (state_of new one.0) stopped.0 stopped.2)
        | inr steps ↦ runs one.0 call reply steps.0 steps.1 is.behaves.still is.behaves.ends_work is.behaves.advances
      ]

-- ---- through calls

module _ {D : Type 0} (disk_of : D → Disk) where
  -- no call comes while work is under way where that work has ended
  no_more : (turns : List (Transition D)) (e : EndpointValue D) → IsIdle e.store → Lasts e turns → steps_made turns ≡ 0
  no_more [] e idle lasts = refl
  no_more (turn ∷ turns) e idle lasts = absurd (lasts.0 idle)

  steps_left : (turns : List (Transition D)) (e new : EndpointValue D) → Lives disk_of e turns new → Lasts e turns
      → steps_made turns ≤ calls_left e.store
  steps_left [] e new lives lasts = omega arith
  steps_left (turn ∷ turns) e new lives lasts =
      elim (leaves_fewer disk_of e turn.after lasts.0 lasts.1 turn.call turn.reply lives.1) [
        | inl ended ↦ omega (arith, ended.1, no_more turns turn.after ended.0 lasts.2)
        | inr fewer ↦ omega (arith, fewer, steps_left turns turn.after new lives.2 lasts.2)
      ]

  -- how many steps what is under way takes, with the one that begins it
  pub work-ends : (old begun new : EndpointValue D) (turns : List (Transition D)) → IsIdle old.store
      → IsStep disk_of old (Ok Worked) begun
      → Lives disk_of begun turns new → Lasts begun turns → steps_made turns + 1 ≤ most_calls old.store
  work-ends old begun new turns idle (call, at_once) lives lasts =
      omega (arith, at_once.1 idle, steps_left turns begun new lives lasts)

  begins_within : (old begun : EndpointValue D) (due : Option Due) → BeginsWith old due (Ok Worked) begun
      → calls_left begun.store ≤ most_calls old.store
  begins_within old begun None begins = absurd begins
  begins_within old begun (Some (ToRaise raise)) begins = begins.1
  begins_within old begun (Some (ToKeep first)) begins = begins.1

  -- the same where it begins without a device call
  pub begun-ends : (old begun new : EndpointValue D) (turns : List (Transition D)) → IsIdle old.store
      → IsCall disk_of old Advances (Advanced (Ok Worked)) begun
      → Lives disk_of begun turns new → Lasts begun turns → steps_made turns ≤ most_calls old.store
  begun-ends old begun new turns idle call lives lasts =
      let running : is_stopped old ≡ false = elim (call.behaves.step no_logs).1 [
        | inl stopped ↦ absurd stopped.1
        | inr runs ↦ runs.0
      ] in
      omega (
        arith,
        begins_within old begun (next_due old) ((call.behaves.advances running).begins idle),
        steps_left turns begun new lives lasts,
      )
