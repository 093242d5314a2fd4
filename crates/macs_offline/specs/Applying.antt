-- What `apply` does with a command file, and the lines that it prints.
use Rattle.std.specs.Prelude.{◌≡◌, ◌≢◌, ◌⊎◌, ◌≤◌, ◌+◌, ℕ, List, [], ◌∷◌, ◌++◌, length, codes, if◌then◌else◌, Option}
use Rattle.std.specs.Prelude.{Some, None, IfSome, is_some, Result, Ok, Err, Bool, true}
use Rattle.std.specs.Fmt.{decimal}
use Rattle.std.specs.Io.KnownBytes.{Appends}
use Rattle.std.specs.List.{list_any}
use Rattle.std.specs.Str.{IsUtf8, bytes_eq}
use Rattle.toml.specs.Data.{Members}
use Rattle.toml.specs.Parse.{parse_document}
use Rattle.macs_config.specs.declared.command.Command.{Command}
use Rattle.macs_config.specs.declared.refusal.Refusal.{Refusal}
use Rattle.macs_disk.specs.Disk.{Disk}
use Rattle.macs_commands.specs.Ends.{end_commands, end_in}
use Rattle.macs_endpoint.specs.Calls.{IsCall}
use Rattle.macs_endpoint.specs.State.{Commands, Ran, no_logs}
use Rattle.macs_endpoint.specs.Value.{EndpointValue, state_of}
use Rattle.macs_endpoint.specs.declared.fault.CommandFault.{CommandFault}
use Rattle.macs_endpoint.specs.declared.fault.CommandFault.TheVariants as ran
use Rattle.macs_journal.specs.declared.fault.JournalFault.TheVariants as journal
use Rattle.macs_texts.specs.Lines.{line}
use Rattle.macs_texts.specs.Refusals.{refusal_name}
use Rattle.macs_cli.specs.declared.failure.DiskFault.{DiskFault}
use Rattle.macs_cli.specs.declared.failure.DiskFault.TheVariants as disk
use Rattle.macs_cli.specs.declared.failure.Failure.{Failure}
use Rattle.macs_cli.specs.declared.failure.Failure.TheVariants as failures
use Rattle.macs_cli.specs.declared.status.Status.{Status}
use Rattle.macs_cli.specs.declared.status.Status.TheVariants as ends

-- ---- the file

-- the longest command file, in octets
abbrev pub longest_file : ℕ
longest_file = 1048576

-- the octets are a TOML file, not too long, with these commands, and name the end that they are for, or none
pub record SaysCommands (octets : List ℕ) (end : Option (List ℕ)) (commands : List Command) : Type 0 where
  pub short : length octets ≤ longest_file
  pub utf8 : IsUtf8 octets
  pub members : Members
  pub parsed : parse_document octets ≡ Some members
  pub named : end_in members ≡ Ok end
  pub said : end_commands members ≡ Ok commands

-- some file whose contents are known has these commands
pub record SaidByFile {F : Type 0} (remaining : F → Option (List ℕ)) (end : Option (List ℕ))
    (commands : List Command) : Type 0 where
  pub file : F
  pub said : IfSome (remaining file) (λ octets. SaysCommands octets end commands)

-- ---- the end

-- a file is for the end with this SCI: it names that end, or none
abbrev pub is_for : Option (List ℕ) → List ℕ → Bool
is_for None sci = true
is_for (Some end) sci = bytes_eq end sci

-- the SCI of an endpoint
abbrev pub own_sci : {D : Type 0} → EndpointValue D → List ℕ
own_sci endpoint = (state_of endpoint no_logs).identity.sci

-- ---- lines

-- the line of a command: its number and whether it was accepted or refused
abbrev pub outcome_line : ℕ → Option Refusal → List ℕ
outcome_line at None = line (decimal at ++ codes " ok")
outcome_line at (Some refusal) = line (decimal at ++ (codes " refused " ++ refusal_name refusal))

-- the lines of these commands, numbered from `at`
abbrev pub outcome_lines : ℕ → List (Option Refusal) → List ℕ
outcome_lines at [] = []
outcome_lines at (outcome ∷ outcomes) = outcome_line at outcome ++ outcome_lines (at + 1) outcomes

-- the status of a run that applied its commands: Done, or Refused if any was refused
abbrev pub outcomes_status : List (Option Refusal) → Status
outcomes_status outcomes = if list_any is_some outcomes then ends.Refused else ends.Done

-- ---- commands

-- the endpoint's answer to a command that is accepted or refused
abbrev pub answer_of : Option Refusal → Result (Unit {0}) CommandFault
answer_of None = Ok tt
answer_of (Some refusal) = Err (ran.Refused refusal)

-- these commands are given to the endpoint, one after another, and each is accepted or refused
abbrev pub Applies : {D : Type 0} → (D → Disk) → EndpointValue D → List Command → List (Option Refusal)
    → EndpointValue D → Type 0
Applies disk_of old [] outcomes new = (outcomes ≡ []) × (new ≡ old)
Applies {D} disk_of old (command ∷ more) outcomes new =
    (outcome : Option Refusal) × (rest : List (Option Refusal)) × (between : EndpointValue D)
    × (outcomes ≡ outcome ∷ rest) × IsCall disk_of old (Commands command) (Ran (answer_of outcome)) between
    × Applies disk_of between more rest new

-- a command is not refused because another is pending
abbrev pub IsNotBusyCommand : CommandFault → Type 0
IsNotBusyCommand fault = fault ≢ ran.Busy

-- the fault with which a command is neither accepted nor refused; it is never that another one is pending
abbrev pub commit_fault : DiskFault → CommandFault → Type 0
commit_fault fault ran.Stopped = fault ≡ disk.Journal journal.Stopped
commit_fault fault ran.Busy = ⊥
commit_fault fault ran.GenerationsSpent = fault ≡ disk.Journal journal.GenerationsSpent
commit_fault fault ran.Disk = fault ≡ disk.Journal journal.Disk
commit_fault fault (ran.Refused refusal) = ⊥

-- A command ends the run: either the disk fails and no line is printed, or the line cannot be written
abbrev pub EndsRun : {D : Type 0} → (D → Disk) → EndpointValue D → Command → Failure → EndpointValue D → Type 0
EndsRun disk_of old command failure new =
    ((fault : DiskFault) × (answer : CommandFault) × commit_fault fault answer × (failure ≡ failures.Disk fault)
    × IsCall disk_of old (Commands command) (Ran (Err answer)) new)
    ⊎ ((failure ≡ failures.Output)
    × (outcome : Option Refusal) × IsCall disk_of old (Commands command) (Ran (answer_of outcome)) new)

-- all of these commands are given to the endpoint, and the line of each is printed once it is answered
pub record AppliesAll {D : Type 0} (disk_of : D → Disk) (old : EndpointValue D) (commands : List Command)
    (before after : Option (List ℕ)) (status : Status) (new : EndpointValue D) : Type 0 where
  pub outcomes : List (Option Refusal)
  pub applied : Applies disk_of old commands outcomes new
  pub printed : Appends before after (outcome_lines 1 outcomes)
  pub status_is : status ≡ outcomes_status outcomes

-- Some of these commands are given to the endpoint, and the next one ends the run. Unless its line could not be
-- written, exactly the lines of the commands before it are printed
pub record AppliesSome {D : Type 0} (disk_of : D → Disk) (old : EndpointValue D) (commands : List Command)
    (before after : Option (List ℕ)) (failure : Failure) (new : EndpointValue D) : Type 0 where
  pub done : List Command
  pub next : Command
  pub left : List Command
  pub all : commands ≡ done ++ next ∷ left
  pub outcomes : List (Option Refusal)
  pub between : EndpointValue D
  pub applied : Applies disk_of old done outcomes between
  pub ends : EndsRun disk_of between next failure new
  pub printed : failure ≢ failures.Output → Appends before after (outcome_lines 1 outcomes)
