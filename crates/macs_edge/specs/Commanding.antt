-- The results of a desk's commands, over a whole relay: calls of the endpoint, and one answer for each.
use Rattle.std.specs.Prelude.{◌≡◌, ◌++◌, ℕ, List, [], ◌∷◌, flat_map, map, Result, Ok}
use Rattle.macs_config.specs.declared.command.Command.{Command}
use Rattle.macs_disk.specs.Disk.{Disk}
use Rattle.macs_endpoint.specs.Lives.{Transition}
use Rattle.macs_endpoint.specs.State.{Advanced, Advances, Call, Reply, Submits, Submitted}
use Rattle.macs_endpoint.specs.declared.fault.SubmitFault.{SubmitFault}
use Rattle.macs_endpoint.specs.declared.progress.Step.TheVariants as step
use Rattle.macs_endpoint.specs.declared.queue.Waiting.{Waiting}
use Rattle.macs_edge.specs.Flows.{IsFlow}
use Rattle.macs_edge.specs.Relaying.{Relay}
use Rattle.macs_edge.specs.declared.attending.CommandEnd.{CommandEnd}
use Rattle.macs_edge.specs.declared.attending.CommandEnd.TheVariants as end
use Rattle.macs_edge.specs.declared.attending.DeskEvent.{DeskEvent}
use Rattle.macs_edge.specs.declared.attending.DeskEvent.TheVariants.{Answered, Took, Wanted}
use Rattle.macs_edge.specs.declared.attending.Order.TheVariants.{Submit}
use Rattle.macs_edge.specs.declared.relaying.RelaySummary.{RelaySummary}

-- the result of the command with this ticket
pub record Ended : Type 0 where
  pub ticket : ℕ
  pub end : CommandEnd

-- ---- what passed between a relay and its desk

-- the command that a desk submitted
abbrev pub handed_in_by : DeskEvent → List Command
handed_in_by (Wanted was_quiet (Submit command)) = command ∷ []
handed_in_by event = []

-- what was reported to it when it submitted one
abbrev pub told_by : DeskEvent → List (Result ℕ SubmitFault)
told_by (Took answer) = answer ∷ []
told_by event = []

-- the ticket of a command that was taken
abbrev pub ticket_in : Result ℕ SubmitFault → List ℕ
ticket_in (Ok ticket) = ticket ∷ []
ticket_in answer = []

-- the result of a command, as reported to the desk
abbrev pub ended_by : DeskEvent → List Ended
ended_by (Answered ticket what) = record { ticket = ticket; end = what } ∷ []
ended_by event = []

-- the tickets of the commands that were taken, in order
abbrev pub tickets_taken : List DeskEvent → List ℕ
tickets_taken events = flat_map ticket_in (flat_map told_by events)

-- the tickets of the commands that were answered, in order
abbrev pub tickets_answered : List DeskEvent → List ℕ
tickets_answered events = map (λ (e : Ended). e.ticket) (flat_map ended_by events)

-- ---- the calls of the endpoint

-- the command that a call submits
abbrev pub submitted_by : Call → List Command
submitted_by (Submits command) = command ∷ []
submitted_by call = []

-- the answer to a submission
abbrev pub answered_to : Call → Reply → List (Result ℕ SubmitFault)
answered_to (Submits command) (Submitted answer) = answer ∷ []
answered_to call reply = []

-- the command that a step completes, and its result
abbrev pub done_by : Call → Reply → List Ended
done_by Advances (Advanced (Ok (step.Done ticket result))) = record { ticket = ticket; end = end.Done result } ∷ []
done_by call reply = []

-- ---- pending commands

-- their tickets
abbrev pub tickets_of : List Waiting → List ℕ
tickets_of waiting = map (λ (w : Waiting). w.ticket) waiting

-- each of them is answered as failed
abbrev pub all_failed : List Waiting → List Ended
all_failed waiting = map (λ (w : Waiting). record { ticket = w.ticket; end = end.Failed }) waiting

-- ---- all of it

-- The frames flow as in any relay. The commands that the desk submitted were passed on, each as one call of the
-- endpoint, and the desk was given the answers. The results that it was given are those of the commands that steps
-- completed, and after that a failure for each command still pending. And each command that was taken was answered
-- once, in the order of tickets, after those that were pending before
pub record IsAttendedFlow {D : Type 0} (disk_of : D → Disk) (old : Relay D) (events : List DeskEvent) (new : Relay D)
    (summary : RelaySummary) : Type 0 where
  pub flow : IsFlow disk_of old new summary
  pub handed : flat_map handed_in_by events ≡ flat_map (λ (t : Transition D). submitted_by t.call) flow.calls
  pub told : flat_map told_by events ≡ flat_map (λ (t : Transition D). answered_to t.call t.reply) flow.calls
  pub ended : flat_map ended_by events ≡ flat_map (λ (t : Transition D). done_by t.call t.reply) flow.calls ++
      all_failed new.endpoint.waiting
  pub once : tickets_answered events ≡ tickets_of old.endpoint.waiting ++ tickets_taken events
