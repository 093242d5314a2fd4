-- What `check FILE DISK` does: it gives the commands to the endpoint on an in-memory copy of the disk, as `apply` does.
use Rattle.std.specs.Prelude.{◌≡◌, ◌⊎◌, ◌≤◌, ◌+◌, ◌/◌, ◌%◌, ◌++◌, ℕ, List, [], ◌∷◌, codes, Option, Some, None, Err}
use Rattle.std.specs.Prelude.{false, true}
use Rattle.std.specs.Fmt.{decimal}
use Rattle.std.specs.Io.KnownBytes.{Appends}
use Rattle.std.specs.declared.alloc.Global.{Global}
use Rattle.macs_config.specs.declared.command.Command.{Command}
use Rattle.macs_config.specs.declared.refusal.Refusal.{Refusal}
use Rattle.macs_disk.specs.DiskCopies.{IsDiskCopy}
use Rattle.macs_disk.specs.Disk.{Disk}
use Rattle.macs_disk.specs.Files.{Behaves, FileState}
use Rattle.macs_disk.specs.MemDisks.{disk_of}
use Rattle.macs_disk.specs.declared.memory.MemDisk.{MemDisk}
use Rattle.macs_endpoint.specs.Calls.{IsCall}
use Rattle.macs_endpoint.specs.Opening.{Opens, RefusesOpening}
use Rattle.macs_endpoint.specs.State.{Commands, Ran}
use Rattle.macs_endpoint.specs.Value.{EndpointValue}
use Rattle.macs_endpoint.specs.declared.fault.CommandFault.{CommandFault}
use Rattle.macs_journal.specs.Areas.{least_sectors}
use Rattle.macs_journal.specs.declared.fault.JournalFault.{JournalFault}
use Rattle.macs_journal.specs.declared.fault.JournalFault.TheVariants as journal
use Rattle.macs_texts.specs.Lines.{line}
use Rattle.macs_texts.specs.Refusals.{refusal_name}
use Rattle.macs_offline.specs.Applying.{Applies, SaidByFile, SaysCommands, commit_fault, is_for, outcomes_status}
use Rattle.macs_offline.specs.Applying.{own_sci}
use Rattle.macs_offline.specs.Copying.{CopyFails}
use Rattle.macs_cli.specs.FileModes.{mode_warning}
use Rattle.macs_cli.specs.Reasons.{IsNotRead}
use Rattle.macs_offline.specs.KeyLists.{SaysSpent}
use Rattle.macs_cli.specs.declared.failure.DiskFault.{DiskFault}
use Rattle.macs_cli.specs.declared.failure.DiskFault.TheVariants as disk
use Rattle.macs_cli.specs.declared.failure.Failure.{Failure}
use Rattle.macs_cli.specs.declared.failure.Failure.TheVariants as failures
use Rattle.macs_cli.specs.declared.status.Status.{Status}

-- ---- lines

-- the text for a command, by its number: it would be accepted or refused
abbrev pub trial_text : ℕ → Option Refusal → List ℕ
trial_text at None = decimal at ++ codes " would be ok"
trial_text at (Some refusal) = decimal at ++ (codes " would be refused " ++ refusal_name refusal)

-- its line
abbrev pub trial_line : ℕ → Option Refusal → List ℕ
trial_line at outcome = line (trial_text at outcome)

-- the lines of these commands, numbered from `at`
abbrev pub trial_lines : ℕ → List (Option Refusal) → List ℕ
trial_lines at [] = []
trial_lines at (outcome ∷ outcomes) = trial_line at outcome ++ trial_lines (at + 1) outcomes

-- all lines: those of the commands, or one line if there are none
abbrev pub trial_report : List (Option Refusal) → List ℕ
trial_report [] = line (codes "0 commands")
trial_report (outcome ∷ outcomes) = trial_lines 1 (outcome ∷ outcomes)

-- ---- on a disk in memory

-- the failure for a fault there: disk calls fail only when memory runs out
abbrev pub failure_in_memory : DiskFault → Failure
failure_in_memory (disk.Journal journal.Disk) = failures.Memory
failure_in_memory fault = failures.Disk fault

-- a fault occurs, so that a command is neither accepted nor refused
abbrev pub EndsTrial : {D : Type 0} → (D → Disk) → EndpointValue D → Command → Failure → Type 0
EndsTrial {D} disk_of old command failure =
    (fault : DiskFault) × (answer : CommandFault) × commit_fault fault answer
    × (new : EndpointValue D) × IsCall disk_of old (Commands command) (Ran (Err answer)) new
    × (failure ≡ failure_in_memory fault)

-- this happens to one of these commands, after some that were accepted or refused
pub record StopsAt {D : Type 0} (disk_of : D → Disk) (old : EndpointValue D) (commands : List Command)
    (failure : Failure) : Type 0 where
  pub done : List Command
  pub next : Command
  pub left : List Command
  pub all : commands ≡ done ++ next ∷ left
  pub outcomes : List (Option Refusal)
  pub between : EndpointValue D
  pub applied : Applies disk_of old done outcomes between
  pub ends : EndsTrial disk_of between next failure

-- not all commands are accepted or refused: one of them ends the run, or memory runs out
abbrev pub TrialEnds : {D : Type 0} → (D → Disk) → EndpointValue D → List Command → Failure → Type 0
TrialEnds disk_of old commands failure = (failure ≡ failures.Memory) ⊎ StopsAt disk_of old commands failure

-- the command file is for another end; or it is for this one, and not all commands are accepted or refused
abbrev pub OwnEnds : {D : Type 0} → (D → Disk) → EndpointValue D → Option (List ℕ) → List Command → Failure → Type 0
OwnEnds disk_of old end commands failure =
    ((failure ≡ failures.OtherEnd) × (is_for end (own_sci old) ≡ false))
    ⊎ ((is_for end (own_sci old) ≡ true) × TrialEnds disk_of old commands failure)

-- an endpoint is opened on a disk, it is the end that the command file is for, and these commands are given to it, one
-- after another
pub record TriesOn {D : Type 0} (disk_of : D → Disk) (copy : D) (end : Option (List ℕ)) (commands : List Command)
    (outcomes : List (Option Refusal)) : Type 0 where
  pub old : EndpointValue D
  pub new : EndpointValue D
  pub opens : Opens disk_of copy old
  pub own : is_for end (own_sci old) ≡ true
  pub applied : Applies disk_of old commands outcomes new

-- no endpoint is opened there, or the commands are for another one, or not all of them are given to it
abbrev pub EndsOn : {D : Type 0} → (D → Disk) → D → Option (List ℕ) → List Command → Failure → Type 0
EndsOn {D} disk_of copy end commands failure =
    ((left : D) × (fault : JournalFault) × RefusesOpening disk_of copy left fault
    × (failure ≡ failure_in_memory (disk.Journal fault)))
    ⊎ ((old : EndpointValue D) × Opens disk_of copy old × OwnEnds disk_of old end commands failure)

-- ---- on a disk in a file

-- a copy of the disk in a file of whole sectors, at least as many as a journal has, if this is the state of the file
abbrev pub IsCopyIn : {F : Type 0} → (F → FileState) → F → MemDisk Global → Type 0
IsCopyIn state_of file copy =
    Behaves (state_of file) → ((state_of file).size % 512 ≡ 0) × (least_sectors ≤ (state_of file).size / 512)
    × IsDiskCopy (state_of file) (disk_of copy)

-- the commands are given to the endpoint on a copy of the disk in a file
pub record TriesIn {F : Type 0} (state_of : F → FileState) (end : Option (List ℕ)) (commands : List Command)
    (outcomes : List (Option Refusal)) : Type 0 where
  pub file : F
  pub copy : MemDisk Global
  pub is_copy : IsCopyIn state_of file copy
  pub tries : TriesOn disk_of copy end commands outcomes

-- not all of the commands are tried, though the file is opened: it cannot be copied; or it has no endpoint, or another
-- one, or one of the commands ends the run
abbrev pub FailsIn : {F : Type 0} → (F → FileState) → Option (List ℕ) → List Command → Failure → Type 0
FailsIn {F} state_of end commands failure =
    ((file : F) × CopyFails (state_of file) failure)
    ⊎ ((file : F) × (copy : MemDisk Global) × IsCopyIn state_of file copy × EndsOn disk_of copy end commands failure)

-- the same, or the file with this name is not opened
abbrev pub TrialFails : {F : Type 0} → (F → FileState) → List ℕ → Option (List ℕ) → List Command → Failure → Type 0
TrialFails state_of name end commands failure = IsNotRead name failure ⊎ FailsIn state_of end commands failure

-- Looking at the disk in a file finds no endpoint: the file is not opened, or memory runs out; or it fails as a trial
-- without commands does
abbrev pub LookFails : {F : Type 0} → (F → FileState) → Failure → Type 0
LookFails state_of failure =
    ((failure ≡ failures.Memory) ⊎ (failure ≡ failures.Disk disk.File)) ⊎ FailsIn state_of None [] failure

-- ---- whole

-- The line of each command of a file is printed with the answer that it would get, then a warning about the file's
-- mode. `left_in` gives the unread octets of a file, where known
pub record PrintsTrial {F : Type 0} (state_of : F → FileState) (left_in : F → Option (List ℕ))
    (before after : Option (List ℕ)) (status : Status) : Type 0 where
  pub octets : List ℕ
  pub end : Option (List ℕ)
  pub commands : List Command
  pub says : SaysCommands octets end commands
  pub by_file : SaidByFile left_in end commands
  pub outcomes : List (Option Refusal)
  pub tries : TriesIn state_of end commands outcomes
  pub mode : Option ℕ
  pub printed : Appends before after (trial_report outcomes ++ mode_warning mode)
  pub status_is : status ≡ outcomes_status outcomes

-- the commands cannot be tried on the disk in the file with this name
abbrev pub TrialStops : {F : Type 0} → (F → FileState) → (F → Option (List ℕ)) → List ℕ → Failure → Type 0
TrialStops state_of left_in name failure =
    (octets : List ℕ) × (end : Option (List ℕ)) × (commands : List Command) × SaysCommands octets end commands
    × SaidByFile left_in end commands × (TrialFails state_of name end commands failure ⊎ SaysSpent commands failure)
