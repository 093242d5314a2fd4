-- A reservation that is done raises the ceiling that was needed when it began.
use Rattle.std.proofs.Common.{◌≡◌, ◌⊎◌, inl, inr, ℕ, true, false, List, [], ◌∷◌, Option, Some, None, Result, Ok, Err}
use Rattle.std.proofs.Common.{refl, sym, ◌∙◌, ap, subst}
use Rattle.macs_config.specs.declared.command.Command.{Command}
use Rattle.macs_disk.specs.Disk.{Disk}
use Rattle.macs_store.specs.Standing.{Standing}
use Rattle.macs_store.specs.Value.{IsIdle, StoreValue, standing_in, standing_then}
use Rattle.macs_endpoint.specs.Advancing.{BeginsWith, GoesOn, Due, ToRaise, next_due}
use Rattle.macs_endpoint.specs.Calls.{AdvancesIn, IsCall, EndsWork}
use Rattle.macs_endpoint.specs.Ceilings.{CeilingsAfter, Raise, standing_with_raise}
use Rattle.macs_endpoint.specs.WorkThroughCalls.{Lasts}
use Rattle.macs_endpoint.specs.Limits.{IsStill}
use Rattle.macs_endpoint.specs.Lives.{Lives, Transition}
use Rattle.macs_endpoint.specs.State.{Advanced, AdvancedLong, Advances, Call, Commands, Logs, Protected, Protects, Ran}
use Rattle.macs_endpoint.specs.State.{Received, Receives, Refilled, Refills, RefusedLong, Reply, State, Submits}
use Rattle.macs_endpoint.specs.State.{Submitted, no_logs}
use Rattle.macs_endpoint.specs.State.{Rested, Rests}
use Rattle.macs_endpoint.specs.Step.{AdvanceStep, RunningStep, SubmitStep}
use Rattle.macs_endpoint.specs.Value.{EndpointValue, IsAtRest, IsKeeping, IsReserving, IsSoundEndpoint, is_stopped}
use Rattle.macs_endpoint.specs.Value.{state_of}
use Rattle.macs_endpoint.specs.declared.fault.CommandFault.TheVariants as ran
use Rattle.macs_endpoint.specs.declared.fault.RefillFault.TheVariants as refill
use Rattle.macs_endpoint.specs.declared.fault.StepFault.{StepFault}
use Rattle.macs_endpoint.specs.declared.fault.StepFault.TheVariants as step
use Rattle.macs_endpoint.specs.declared.fault.SubmitFault.{SubmitFault}
use Rattle.macs_endpoint.specs.declared.fault.SubmitFault.TheVariants as submit
use Rattle.macs_endpoint.specs.declared.fault.RestFault.TheVariants as rest
use Rattle.macs_endpoint.specs.declared.progress.Step.{Step as Progress}
use Rattle.macs_endpoint.specs.declared.progress.Step.TheVariants.{Done, Idle, Reserved, Worked}
use Rattle.macs_endpoint.proofs.Alike.{alike-protect, alike-receive}
use Rattle.macs_endpoint.proofs.Between.{none_reserved}
use Rattle.macs_endpoint.proofs.Working.{not_stopped, some_is}

-- raising the ceiling under way makes `to` of the standing, which is `from`
abbrev LeadsTo : {D : Type 0} → Standing → Standing → EndpointValue D → Type 0
LeadsTo from to e = (standing_in e.store ≡ from)
    × ((raise : Raise) × (e.reserving ≡ Some raise) × (standing_with_raise from raise ≡ to))

-- ---- one call

module _ {D : Type 0} (disk_of : D → Disk) (from to : Standing) (old new : EndpointValue D) (kept : IsSoundEndpoint old)
    (still_kept : IsSoundEndpoint new)
    (busy : ¬ IsIdle old.store) (still_busy : ¬ IsIdle new.store) (running : is_stopped new ≡ false)
    (leads : LeadsTo from to old) where
  -- a reservation is under way
  reserving_by : IsAtRest old ⊎ (IsReserving old ⊎ IsKeeping old) → IsReserving old
  reserving_by (inl rest) = absurd (busy rest.store)
  reserving_by (inr (inl work)) = work
  reserving_by (inr (inr work)) = absurd (let none = sym leads.1.1 ∙ work.reserving in cc)

  was : IsReserving old
  was = reserving_by kept.work

  -- and leads to what it leads to
  then_is : standing_then old.store ≡ Some to
  then_is =
      was.leads ∙ ap (λ (x : Standing). Some (standing_with_raise x was.raise)) leads.0
      ∙ ap (λ (raise : Raise). Some (standing_with_raise from raise))
      (some_is was.raise leads.1.0 (sym was.reserving ∙ leads.1.1))
      ∙ ap (λ (x : Standing). Some x) leads.1.2

  leads_by : new.under_way ≡ None → new.store ≡ old.store → IsAtRest new ⊎ (IsReserving new ⊎ IsKeeping new)
      → LeadsTo from to new
  leads_by none same (inl rest) = absurd (still_busy rest.store)
  leads_by none same (inr (inr work)) = absurd (let some = sym none ∙ work.under_way in cc)
  leads_by none same (inr (inl work)) =
      let stands : standing_in new.store ≡ from = ap (λ (s : StoreValue D). standing_in s) same ∙ leads.0 in
      let is : Some (standing_with_raise from work.raise) ≡ Some to =
      sym (ap (λ (x : Standing). Some (standing_with_raise x work.raise)) stands) ∙ sym work.leads
      ∙ ap (λ (s : StoreValue D). standing_then s) same ∙ then_is in
      (stands, (work.raise, work.reserving, some_is (standing_with_raise from work.raise) to is))

  -- and still does where the store is as it was
  keeps : new.under_way ≡ old.under_way → new.store ≡ old.store → LeadsTo from to new
  keeps under_way same = leads_by (under_way ∙ was.under_way) same still_kept.work

  fails : {A : Type 0} → is_stopped new ≡ true → A
  fails stopped = absurd (not_stopped (is_stopped new) stopped running)

  module _ (after : Logs) where
    abbrev s : State
    s = state_of old no_logs

    abbrev t : State
    t = state_of new after

    keeps_state : new.store ≡ old.store → t ≡ s → LeadsTo from to new
    keeps_state same is = keeps (ap (λ (x : State). x.under_way) is) same

    advances : (result : Result Progress StepFault) → AdvanceStep s result t → GoesOn old result new
        → CeilingsAfter s (standing_in old.store) old.reserving Advances (Advanced result) (standing_in new.store)
        → LeadsTo from to new
    advances (Ok Idle) moves goes stands = absurd goes
    advances (Ok Worked) moves goes stands = (stands ∙ leads.0, (leads.1.0, goes.0 ∙ leads.1.1, leads.1.2))
    advances (Ok Reserved) moves goes stands = absurd (still_busy goes.1)
    advances (Ok (Done ticket (Ok done))) moves goes stands = absurd (still_busy goes.1)
    advances (Ok (Done ticket (Err fault))) moves goes stands = absurd goes
    advances (Err step.Stopped) moves goes stands = absurd goes
    advances (Err step.GenerationsSpent) moves goes stands = absurd goes
    advances (Err step.Disk) moves goes stands = elim moves [
      | inl is ↦ fails (ap (λ (x : State). x.stopped) is)
      | inr taken ↦ fails (ap (λ (x : State). x.stopped) taken.2)
    ]

    submits : (command : Command) (result : Result ℕ SubmitFault) → SubmitStep s command result t
        → new.store ≡ old.store → LeadsTo from to new
    submits command (Ok ticket) moves same = keeps (ap (λ (x : State). x.under_way) moves.3) same
    submits command (Err submit.QueueFull) moves same = keeps_state same moves.1
    submits command (Err submit.TicketsSpent) moves same = keeps_state same moves.2
    submits command (Err submit.Stopped) moves same = absurd moves

    runs : (call : Call) (reply : Reply) → is_stopped old ≡ false → RunningStep s call reply t
        → IsStill old call reply new → EndsWork call reply new
        → AdvancesIn disk_of old call reply new → CeilingsAfter s (standing_in old.store) old.reserving call reply
        (standing_in new.store) → LeadsTo from to new
    runs (Commands command) (Ran (Ok done)) run moves still rests does stands = absurd (still_busy rests)
    runs (Commands command) (Ran (Err ran.Stopped)) run moves still rests does stands = absurd moves
    runs (Commands command) (Ran (Err ran.Busy)) run moves still rests does stands = keeps_state still moves.1
    runs (Commands command) (Ran (Err (ran.Refused refusal))) run moves still rests does stands =
        keeps_state still moves.2
    runs (Commands command) (Ran (Err ran.GenerationsSpent)) run moves still rests does stands =
        absurd (still_busy rests)
    runs (Commands command) (Ran (Err ran.Disk)) run moves still rests does stands =
        fails (ap (λ (x : State). x.stopped) moves.2)
    runs Refills (Refilled (Ok done)) run moves still rests does stands = absurd (still_busy rests)
    runs Refills (Refilled (Err refill.Stopped)) run moves still rests does stands = absurd moves
    runs Refills (Refilled (Err refill.Busy)) run moves still rests does stands = keeps_state still moves.1
    runs Refills (Refilled (Err refill.GenerationsSpent)) run moves still rests does stands = absurd (still_busy rests)
    runs Refills (Refilled (Err refill.Disk)) run moves still rests does stands =
        fails (ap (λ (x : State). x.stopped) moves.1)
    runs Rests (Rested (Ok done)) run moves still rests does stands = absurd (still_busy rests)
    runs Rests (Rested (Err rest.Stopped)) run moves still rests does stands = absurd moves
    runs Rests (Rested (Err rest.Busy)) run moves still rests does stands = keeps_state still moves.1
    runs Rests (Rested (Err rest.GenerationsSpent)) run moves still rests does stands = absurd (still_busy rests)
    runs Rests (Rested (Err rest.Disk)) run moves still rests does stands =
        fails (ap (λ (x : State). x.stopped) moves.1)
    runs (Submits command) (Submitted result) run moves still rests does stands = submits command result moves still
    runs Advances (Advanced result) run moves still rests does stands =
        advances result moves ((does run).goes_on busy) stands
    runs (Protects plain) (Protected result out) run moves still rests does stands =
        keeps (alike-protect s t plain result out moves).0 still
    runs (Receives frame) (Received result out) run moves still rests does stands =
        keeps (alike-receive s t frame result out moves).0 still
    runs (Commands command) RefusedLong run moves still rests does stands = absurd still
    runs Advances (AdvancedLong ticket) run moves still rests does stands = absurd still
    runs call reply run moves still rests does stands = absurd moves

  leads_on : (call : Call) (reply : Reply) → IsCall disk_of old call reply new → LeadsTo from to new
  leads_on call reply is =
      let one = is.behaves.step no_logs in
      elim one.1 [
        | inl stopped ↦ fails (ap (λ (x : State). x.stopped) stopped.2 ∙ stopped.0)
        | inr steps ↦ runs one.0 call reply steps.0 steps.1 is.behaves.still is.behaves.ends_work is.behaves.advances
            is.behaves.ceilings
      ]

-- ---- through calls

module _ {D : Type 0} (disk_of : D → Disk) where
  sound_at : (turns : List (Transition D)) (e last : EndpointValue D) → Lives disk_of e turns last
      → IsSoundEndpoint last → IsSoundEndpoint e
  sound_at [] e last lives kept = subst (λ (x : EndpointValue D). IsSoundEndpoint x) lives kept
  sound_at (turn ∷ turns) e last lives kept = lives.0

  busy_at : (turns : List (Transition D)) (e last : EndpointValue D) → Lives disk_of e turns last → Lasts e turns
      → (¬ IsIdle last.store) → IsIdle e.store → ⊥
  busy_at [] e last lives lasts busy = subst (λ (x : EndpointValue D). ¬ IsIdle x.store) lives busy
  busy_at (turn ∷ turns) e last lives lasts busy = lasts.0

  leads_life : (from to : Standing) (turns : List (Transition D)) (e last : EndpointValue D)
      → Lives disk_of e turns last → Lasts e turns → IsSoundEndpoint last
      → (¬ IsIdle last.store) → LeadsTo from to e → LeadsTo from to last
  leads_life from to [] e last lives lasts kept busy leads =
      subst (λ (x : EndpointValue D). LeadsTo from to x) (sym lives) leads
  leads_life from to (turn ∷ turns) e last lives lasts kept busy leads =
      leads_life from to turns turn.after last lives.2 lasts.2 kept busy
      (leads_on disk_of from to e turn.after lives.0 (sound_at turns turn.after last lives.2 kept) lasts.0
      (busy_at turns turn.after last lives.2 lasts.2 busy) lasts.1 leads turn.call turn.reply lives.1)

  running_at : (e new : EndpointValue D) (progress : Progress) → IsCall disk_of e Advances (Advanced (Ok progress)) new
      → is_stopped e ≡ false
  running_at e new progress call = elim (call.behaves.step no_logs).1 [
    | inl stopped ↦ absurd stopped.1
    | inr runs ↦ runs.0
  ]

  -- what is reserved is what was to be raised when the reservation began
  pub as-begun : (old begun last new : EndpointValue D) (turns : List (Transition D)) (raise : Raise) → IsIdle old.store
      → next_due old ≡ Some (ToRaise raise)
      → IsCall disk_of old Advances (Advanced (Ok Worked)) begun → Lives disk_of begun turns last → Lasts begun turns
      → IsSoundEndpoint last
      → IsCall disk_of last Advances (Advanced (Ok Reserved)) new
      → standing_in new.store ≡ standing_with_raise (standing_in old.store) raise
  as-begun old begun last new turns raise idle is_next begins lives lasts kept ends =
      let from = standing_in old.store in
      let to = standing_with_raise from raise in
      let began = subst (λ (due : Option Due). BeginsWith old due (Ok Worked) begun) is_next
      ((begins.behaves.advances (running_at old begun Worked begins)).begins idle) in
      let does = ends.behaves.advances (running_at last new Reserved ends) in
      let busy : ¬ IsIdle last.store = λ rests. none_reserved last new (next_due last) (does.begins rests) in
      let leads =
      leads_life from to turns begun last lives lasts kept busy (begins.behaves.ceilings, (raise, began.0, refl)) in
      let done = ends.behaves.ceilings in
      done.2 ∙ ap (λ (x : Standing). standing_with_raise x done.0) leads.0
      ∙ ap (λ (r : Raise). standing_with_raise from r) (some_is done.0 leads.1.0 (sym done.1 ∙ leads.1.1)) ∙ leads.1.2
