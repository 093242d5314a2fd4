-- What the calls of an endpoint return to a C program.
use Rattle.std.specs.Prelude.{◌+◌, ℕ, Result, Ok, Err}
use Rattle.macs_config.specs.declared.refusal.Refusal.{Refusal}
use Rattle.macs_config.specs.declared.refusal.Refusal.TheVariants as refused
use Rattle.macs_endpoint.specs.declared.fault.CommandFault.{CommandFault}
use Rattle.macs_endpoint.specs.declared.fault.CommandFault.TheVariants as command
use Rattle.macs_endpoint.specs.declared.fault.ProtectFault.{ProtectFault}
use Rattle.macs_endpoint.specs.declared.fault.ProtectFault.TheVariants as protect
use Rattle.macs_endpoint.specs.declared.fault.StepFault.{StepFault}
use Rattle.macs_endpoint.specs.declared.fault.StepFault.TheVariants as step
use Rattle.macs_endpoint.specs.declared.fault.SubmitFault.{SubmitFault}
use Rattle.macs_endpoint.specs.declared.fault.SubmitFault.TheVariants as submit
use Rattle.macs_endpoint.specs.declared.progress.Step.{Step}
use Rattle.macs_endpoint.specs.declared.progress.Step.TheVariants as progress
use Rattle.macs_journal.specs.declared.fault.JournalFault.{JournalFault}
use Rattle.macs_journal.specs.declared.fault.JournalFault.TheVariants as journal
use Rattle.macs_rxsc.specs.declared.verdict.Kind.{Kind}
use Rattle.macs_rxsc.specs.declared.verdict.Kind.TheVariants as kind
use Rattle.macs_rxsc.specs.declared.verdict.Reason.{Reason}
use Rattle.macs_rxsc.specs.declared.verdict.Reason.TheVariants as reason
use Rattle.macs_rxsc.specs.declared.verdict.Verdict.{Verdict}
use Rattle.macs_rxsc.specs.declared.verdict.Verdict.TheVariants as verdict
use Rattle.macs_txsc.specs.declared.fault.TxFault.{TxFault}
use Rattle.macs_txsc.specs.declared.fault.TxFault.TheVariants as tx
use Rattle.macs_c.specs.declared.answers.Answer.{Answer}
use Rattle.macs_c.specs.declared.answers.Answer.TheVariants as code

-- the number of a refusal of a command
abbrev pub refusal_number : Refusal → ℕ
refusal_number refused.StartRange = 0
refusal_number refused.OffsetChoice = 1
refusal_number refused.OwnSci = 2
refusal_number refused.EndStationSci = 3
refusal_number refused.NoChannel = 4
refusal_number refused.ChannelTaken = 5
refusal_number refused.ChannelsFull = 6
refusal_number refused.SlotTaken = 7
refusal_number refused.SlotEmpty = 8
refusal_number refused.InUse = 9
refusal_number refused.KeySpent = 10
refusal_number refused.SpentFull = 11

-- the number of a fault of the transmit channel
abbrev pub tx_fault_number : TxFault → ℕ
tx_fault_number tx.Runt = 0
tx_fault_number tx.TooLong = 1
tx_fault_number tx.ForeignSource = 2
tx_fault_number tx.NoEncodingSa = 3
tx_fault_number tx.Exhausted = 4
tx_fault_number tx.NoNumber = 5

-- of a kind of delivery
abbrev pub kind_number : Kind → ℕ
kind_number kind.Ok = 0
kind_number kind.Delayed = 1
kind_number kind.Invalid = 2
kind_number kind.Untagged = 3
kind_number kind.UnknownSci = 4
kind_number kind.UnusedSa = 5

-- of a reason to discard a frame
abbrev pub reason_number : Reason → ℕ
reason_number reason.Runt = 0
reason_number reason.Oversize = 1
reason_number reason.NoTag = 2
reason_number reason.BadTag = 3
reason_number reason.ForKay = 4
reason_number reason.NoSci = 5
reason_number reason.NotUsingSa = 6
reason_number reason.Late = 7
reason_number reason.NotValid = 8

-- the return code of a verdict
abbrev pub verdict_number : Verdict → ℕ
verdict_number (verdict.Delivered how) = 80 + kind_number how
verdict_number (verdict.Discarded why) = 86 + reason_number why
verdict_number verdict.HeldBack = 95

-- the return code: 0 for success
abbrev pub number_of : Answer → ℕ
number_of code.Success = 0
number_of code.Absent = 31
number_of code.Closed = 32
number_of code.Open = 33
number_of code.NoCall = 34
number_of code.TooSmall = 40
number_of code.NotFormatted = 41
number_of code.BadJournal = 42
number_of code.FormatOne = 43
number_of code.Formatted = 44
number_of code.Block = 45
number_of code.Call = 50
number_of code.Idle = 51
number_of code.Worked = 52
number_of code.Reserved = 53
number_of code.Done = 54
number_of code.Stopped = 55
number_of code.GenerationsSpent = 56
number_of code.Disk = 57
number_of code.Busy = 58
number_of code.QueueFull = 60
number_of code.TicketsSpent = 61
number_of code.Field = 2
number_of code.Room = 5
number_of (code.Unsent fault) = 70 + tx_fault_number fault
number_of (code.Received given) = verdict_number given
number_of (code.Refused refusal) = 100 + refusal_number refusal

-- for a disk that is not opened: its sectors are only read, so that Disk is a migration that is not made. Generations
-- are spent only in a journal of format one.
abbrev pub open_answer : JournalFault → Answer
open_answer journal.TooSmall = code.TooSmall
open_answer journal.NotFormatted = code.NotFormatted
open_answer journal.BadJournal = code.BadJournal
open_answer fault = code.FormatOne

-- for the result of a command
abbrev pub command_answer : Result (Unit {0}) CommandFault → Answer
command_answer (Ok done) = code.Success
command_answer (Err command.Stopped) = code.Stopped
command_answer (Err command.Busy) = code.Busy
command_answer (Err (command.Refused refusal)) = code.Refused refusal
command_answer (Err command.GenerationsSpent) = code.GenerationsSpent
command_answer (Err command.Disk) = code.Disk

-- for the result of a step
abbrev pub step_answer : Result Step StepFault → Answer
step_answer (Ok progress.Idle) = code.Idle
step_answer (Ok progress.Worked) = code.Worked
step_answer (Ok progress.Reserved) = code.Reserved
step_answer (Ok (progress.Done ticket result)) = code.Done
step_answer (Err step.Stopped) = code.Stopped
step_answer (Err step.GenerationsSpent) = code.GenerationsSpent
step_answer (Err step.Disk) = code.Disk

-- for a command that is queued or not
abbrev pub submit_answer : Result ℕ SubmitFault → Answer
submit_answer (Ok ticket) = code.Success
submit_answer (Err submit.Stopped) = code.Stopped
submit_answer (Err submit.QueueFull) = code.QueueFull
submit_answer (Err submit.TicketsSpent) = code.TicketsSpent

-- for a frame that is sent or not
abbrev pub protect_answer : Result ℕ ProtectFault → Answer
protect_answer (Ok pn) = code.Success
protect_answer (Err protect.Stopped) = code.Stopped
protect_answer (Err (protect.Tx fault)) = code.Unsent fault
