-- Why a reservation or a command is not kept.
use Rattle.macs_journal.specs.declared.fault.JournalFault.{JournalFault}
use Rattle.macs_journal.specs.declared.fault.JournalFault.TheVariants as journal
use Rattle.macs_store.specs.declared.fault.CommitFault.{CommitFault}
use Rattle.macs_store.specs.declared.fault.CommitFault.TheVariants as commit
use Rattle.macs_endpoint.specs.declared.fault.CommandFault.{CommandFault}
use Rattle.macs_endpoint.specs.declared.fault.CommandFault.TheVariants as command
use Rattle.macs_endpoint.specs.declared.fault.RefillFault.{RefillFault}
use Rattle.macs_endpoint.specs.declared.fault.RefillFault.TheVariants.{Disk, GenerationsSpent, Stopped}
use Rattle.macs_endpoint.specs.declared.fault.RestFault.{RestFault}
use Rattle.macs_endpoint.specs.declared.fault.RestFault.TheVariants as rest
use Rattle.macs_endpoint.specs.declared.fault.StepFault.{StepFault}
use Rattle.macs_endpoint.specs.declared.fault.StepFault.TheVariants as step

-- the fault of a refill for that of a reservation, which is only Stopped, GenerationsSpent or Disk
abbrev pub refill_fault_of : JournalFault → RefillFault
refill_fault_of journal.Stopped = Stopped
refill_fault_of journal.GenerationsSpent = GenerationsSpent
refill_fault_of fault = Disk

-- the fault of a rest for that of the store, which is only Stopped, GenerationsSpent or Disk
abbrev pub rest_fault_of : JournalFault → RestFault
rest_fault_of journal.Stopped = rest.Stopped
rest_fault_of journal.GenerationsSpent = rest.GenerationsSpent
rest_fault_of fault = rest.Disk

-- the fault of a refill with the name of a step's
abbrev pub refill_fault_named : StepFault → RefillFault
refill_fault_named step.Stopped = Stopped
refill_fault_named step.GenerationsSpent = GenerationsSpent
refill_fault_named step.Disk = Disk

-- the fault of a command for that of the store
abbrev pub command_fault_of : CommitFault → CommandFault
command_fault_of commit.Stopped = command.Stopped
command_fault_of (commit.Refused refusal) = command.Refused refusal
command_fault_of commit.GenerationsSpent = command.GenerationsSpent
command_fault_of commit.Disk = command.Disk
