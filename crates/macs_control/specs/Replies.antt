-- Answers to clients: lines, the last of which has the exit status for the program that asked.
use Rattle.std.specs.Prelude.{ℕ, ◌++◌, List, codes, Result, Ok, Err}
use Rattle.macs_config.specs.declared.refusal.Refusal.TheVariants.{KeySpent}
use Rattle.macs_edge.specs.declared.attending.CommandEnd.{CommandEnd}
use Rattle.macs_edge.specs.declared.attending.CommandEnd.TheVariants.{Done, Failed}
use Rattle.macs_endpoint.specs.declared.fault.CommandFault.{CommandFault}
use Rattle.macs_endpoint.specs.declared.fault.CommandFault.TheVariants.{Refused}
use Rattle.macs_endpoint.specs.declared.fault.SubmitFault.{SubmitFault}
use Rattle.macs_endpoint.specs.declared.fault.SubmitFault.TheVariants.{Stopped, QueueFull, TicketsSpent}
use Rattle.macs_commands.specs.Requests.{end_line}
use Rattle.macs_texts.specs.Lines.{line}
use Rattle.macs_texts.specs.Refusals.{refusal_name}
use Rattle.macs_control.specs.declared.desk.key_notes.NoteFault.{NoteFault}
use Rattle.macs_control.specs.declared.desk.key_notes.NoteFault.TheVariants as note

-- the last line of an answer: 0 if the request is done, 2 if the line is not a request, 3 if a command is refused, 4 if
-- it is not kept, not taken, or its key cannot be noted, 5 if a report is too long
abbrev pub end_text : ℕ → List ℕ
end_text status = line (end_line status)

-- a command is refused, with this name
abbrev pub refused_line : List ℕ → List ℕ
refused_line name = line (codes "refused " ++ name)

-- the key of a command may not be installed: it is spent, or cannot be noted
abbrev pub not_noted_text : NoteFault → List ℕ
not_noted_text note.Spent = refused_line (refusal_name KeySpent) ++ end_text 3
not_noted_text note.Failed = end_text 4

-- a command is not kept
abbrev pub failed_text : CommandFault → List ℕ
failed_text (Refused refusal) = refused_line (refusal_name refusal) ++ end_text 3
failed_text fault = end_text 4

-- a command is done: it is kept, or not
abbrev pub done_text : Result (Unit {0}) CommandFault → List ℕ
done_text (Ok done) = line (codes "ok") ++ end_text 0
done_text (Err fault) = failed_text fault

-- the result of a command that was taken
abbrev pub ended_text : CommandEnd → List ℕ
ended_text (Done answer) = done_text answer
ended_text Failed = end_text 4

-- why a command is not taken
abbrev pub submit_fault_name : SubmitFault → List ℕ
submit_fault_name Stopped = codes "Stopped"
submit_fault_name QueueFull = codes "QueueFull"
submit_fault_name TicketsSpent = codes "TicketsSpent"

-- a command is not taken
abbrev pub not_taken_text : SubmitFault → List ℕ
not_taken_text fault = refused_line (submit_fault_name fault) ++ end_text 4
