-- The commands that wait, through the calls that a relay makes.
use Rattle.std.proofs.Common.{◌≡◌, ◌++◌, inl, inr, ℕ, List, [], ◌∷◌, map, Result, Ok, Err, sym, ap, ◌∙◌, append-nil}
use Rattle.std.proofs.lemmas.List.{map-append}
use Rattle.macs_config.specs.declared.command.Command.{Command}
use Rattle.macs_disk.specs.Disk.{Disk}
use Rattle.macs_endpoint.specs.Calls.{IsCall}
use Rattle.macs_endpoint.specs.Queue.{with_waiting}
use Rattle.macs_endpoint.specs.State.{Advanced, Advances, Call, Commands, Protected, Protects, Received, Receives}
use Rattle.macs_endpoint.specs.State.{Refills, Reply, State, Submits, Submitted, no_logs}
use Rattle.macs_endpoint.specs.State.{Rests}
use Rattle.macs_endpoint.specs.Step.{AdvanceStep, Ends, IsStopped, RunningStep, SubmitStep, TakesUp}
use Rattle.macs_endpoint.specs.Value.{EndpointValue, state_of}
use Rattle.macs_endpoint.specs.declared.fault.CommandFault.{CommandFault}
use Rattle.macs_endpoint.specs.declared.fault.CommandFault.TheVariants as ran
use Rattle.macs_endpoint.specs.declared.fault.StepFault.{StepFault}
use Rattle.macs_endpoint.specs.declared.fault.StepFault.TheVariants as step
use Rattle.macs_endpoint.specs.declared.fault.SubmitFault.{SubmitFault}
use Rattle.macs_endpoint.specs.declared.fault.SubmitFault.TheVariants as submit
use Rattle.macs_endpoint.specs.declared.progress.Step.{Step as Progress}
use Rattle.macs_endpoint.specs.declared.progress.Step.TheVariants.{Done, Idle, Reserved, Worked}
use Rattle.macs_endpoint.specs.declared.queue.Waiting.{Waiting}
use Rattle.macs_endpoint.proofs.Alike.{alike-protect, alike-receive}
use Rattle.macs_edge.specs.Commanding.{Ended, done_by, ticket_in, tickets_of}
use Rattle.macs_edge.proofs.Flowing.{IsFrame}

-- ---- a frame

frame-runs : (s t : State) (call : Call) (reply : Reply) → IsFrame call → RunningStep s call reply t
    → t.waiting ≡ s.waiting
frame-runs s t (Protects plain) (Protected result out) frame runs = (alike-protect s t plain result out runs).1
frame-runs s t (Receives octets) (Received result out) frame runs = (alike-receive s t octets result out runs).1
frame-runs s t (Protects plain) reply frame runs = absurd runs
frame-runs s t (Receives octets) reply frame runs = absurd runs
frame-runs s t (Commands command) reply frame runs = absurd frame
frame-runs s t Refills reply frame runs = absurd frame
frame-runs s t Rests reply frame runs = absurd frame
frame-runs s t (Submits command) reply frame runs = absurd frame
frame-runs s t Advances reply frame runs = absurd frame

-- ---- a command that is to wait

submit-same : (s t : State) → t ≡ s → tickets_of s.waiting ++ [] ≡ tickets_of t.waiting
submit-same s t is = append-nil (tickets_of s.waiting) ∙ ap (λ (x : State). tickets_of x.waiting) (sym is)

submit-runs : (s t : State) (command : Command) (answer : Result ℕ SubmitFault) → SubmitStep s command answer t
    → tickets_of s.waiting ++ ticket_in answer ≡ tickets_of t.waiting
submit-runs s t command (Ok ticket) (few, left, is_ticket, is) =
    let waiting : t.waiting ≡ with_waiting s.waiting ticket command =
    ap (λ (x : State). x.waiting) is ∙ ap (λ (n : ℕ). with_waiting s.waiting n command) (sym is_ticket) in
    let last : Waiting = record { ticket = ticket; command = command } in
    sym (ap tickets_of waiting ∙ map-append (λ (w : Waiting). w.ticket) s.waiting (last ∷ []))
submit-runs s t command (Err submit.QueueFull) (many, is) = submit-same s t is
submit-runs s t command (Err submit.TicketsSpent) (few, spent, is) = submit-same s t is
submit-runs s t command (Err submit.Stopped) runs = absurd runs

-- ---- a step

taken-up : (s t : State) → TakesUp s t → t.waiting ≡ s.waiting
taken-up s t (first, rest, waiting, idle, accepts, is) = ap (λ (x : State). x.waiting) is

ended : (s : State) (first : Waiting) (rest : List Waiting) (result : Result (Unit {0}) CommandFault) (t : State)
    → Ends s first rest result t
    → t.waiting ≡ rest
ended s first rest (Ok done) t ends = ap (λ (x : State). x.waiting) ends.2
ended s first rest (Err (ran.Refused refusal)) t (idle, why, is) = ap (λ (x : State). x.waiting) is
ended s first rest (Err ran.GenerationsSpent) t (idle, accepts, is) = ap (λ (x : State). x.waiting) is
ended s first rest (Err ran.Stopped) t ends = absurd ends
ended s first rest (Err ran.Busy) t ends = absurd ends
ended s first rest (Err ran.Disk) t ends = absurd ends

-- what a step with this answer is done with, by their tickets
abbrev tickets_done : Result Progress StepFault → List ℕ
tickets_done answer = map (λ (e : Ended). e.ticket) (done_by Advances (Advanced answer))

step-same : (s t : State) → t.waiting ≡ s.waiting → tickets_of s.waiting ≡ tickets_of t.waiting
step-same s t is = ap tickets_of (sym is)

step-runs : (s t : State) (answer : Result Progress StepFault) → AdvanceStep s answer t
    → tickets_of s.waiting ≡ tickets_done answer ++ tickets_of t.waiting
step-runs s t (Ok Idle) is = step-same s t (ap (λ (x : State). x.waiting) is)
step-runs s t (Ok Reserved) is = step-same s t (ap (λ (x : State). x.waiting) is)
step-runs s t (Ok Worked) (inl is) = step-same s t (ap (λ (x : State). x.waiting) is)
step-runs s t (Ok Worked) (inr takes) = step-same s t (taken-up s t takes)
step-runs s t (Ok (Done ticket result)) (first, rest, waiting, is_ticket, ends) =
    let left = ended s first rest result t ends in
    ap tickets_of waiting ∙ (λ i. sym is_ticket i ∷ tickets_of (sym left i))
step-runs s t (Err step.GenerationsSpent) is = step-same s t (ap (λ (x : State). x.waiting) is)
step-runs s t (Err step.Disk) (inl is) = step-same s t (ap (λ (x : State). x.waiting) is)
step-runs s t (Err step.Disk) (inr (mid, takes, is)) =
    step-same s t (ap (λ (x : State). x.waiting) is ∙ taken-up s mid takes)
step-runs s t (Err step.Stopped) runs = absurd runs

-- ---- calls of an endpoint

module _ {D : Type 0} (disk_of : D → Disk) (old new : EndpointValue D) where
  -- a frame leaves what waits
  pub frame-waits : (call : Call) (reply : Reply) → IsFrame call → IsCall disk_of old call reply new
      → new.waiting ≡ old.waiting
  frame-waits call reply frame is =
      let one = is.behaves.step no_logs in
      elim one.1 [
        | inl halts ↦ ap (λ (x : State). x.waiting) halts.2
        | inr runs ↦ frame-runs (state_of old no_logs) (state_of new one.0) call reply frame runs.1
      ]

  stopped-submit : (command : Command) (answer : Result ℕ SubmitFault) (s t : State)
      → IsStopped (Submits command) (Submitted answer) → t ≡ s
      → tickets_of s.waiting ++ ticket_in answer ≡ tickets_of t.waiting
  stopped-submit command (Ok ticket) s t stopped is = absurd stopped
  stopped-submit command (Err fault) s t stopped is = submit-same s t is

  -- a command that is taken comes after the others
  pub submit-waits : (command : Command) (answer : Result ℕ SubmitFault)
      → IsCall disk_of old (Submits command) (Submitted answer) new
      → tickets_of old.waiting ++ ticket_in answer ≡ tickets_of new.waiting
  submit-waits command answer is =
      let one = is.behaves.step no_logs in
      elim one.1 [
        | inl halts ↦ stopped-submit command answer (state_of old no_logs) (state_of new one.0) halts.1 halts.2
        | inr runs ↦ submit-runs (state_of old no_logs) (state_of new one.0) command answer runs.1
      ]

  stopped-step : (answer : Result Progress StepFault) (s t : State) → IsStopped Advances (Advanced answer) → t ≡ s
      → tickets_of s.waiting ≡ tickets_done answer ++ tickets_of t.waiting
  stopped-step (Ok progress) s t stopped is = absurd stopped
  stopped-step (Err fault) s t stopped is = step-same s t (ap (λ (x : State). x.waiting) is)

  -- the first one may be done with
  pub step-waits : (answer : Result Progress StepFault) → IsCall disk_of old Advances (Advanced answer) new
      → tickets_of old.waiting ≡ map (λ (e : Ended). e.ticket)
      (done_by Advances (Advanced answer)) ++ tickets_of new.waiting
  step-waits answer is =
      let one = is.behaves.step no_logs in
      elim one.1 [
        | inl halts ↦ stopped-step answer (state_of old no_logs) (state_of new one.0) halts.1 halts.2
        | inr runs ↦ step-runs (state_of old no_logs) (state_of new one.0) answer runs.1
      ]
