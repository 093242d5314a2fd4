-- What `check` reports about a command file, and about its commands on a disk.
use Rattle.std.specs.Prelude.{◌≡◌, ◌⊎◌, ◌<◌, ◌≤◌, ◌==◌, ◌++◌, if◌then◌else◌, ℕ, List, [], length, codes, Option, Some}
use Rattle.std.specs.Prelude.{◌-◌, Bool, false, None, IfSome, is_none, option_and_then}
use Rattle.std.specs.Fmt.{decimal}
use Rattle.std.specs.Io.KnownBytes.{Appends}
use Rattle.std.specs.Borrow.{Bor}
use Rattle.std.specs.Str.{IsUtf8}
use Rattle.clap.specs.Words.{Text}
use Rattle.toml.specs.Data.{Members, as_table, at as item_at, get_member}
use Rattle.toml.specs.Parse.{parse_document}
use Rattle.macs_config.specs.declared.command.Command.{Command}
use Rattle.macs_commands.specs.Ends.{HasFileFault}
use Rattle.macs_commands.specs.Lines.{extra_key}
use Rattle.macs_commands.specs.declared.files.config_fault.ConfigFault.{ConfigFault}
use Rattle.macs_commands.specs.declared.files.config_fault.ConfigFault.TheVariants as config
use Rattle.macs_commands.specs.declared.files.config_fault.KeyName.{KeyName}
use Rattle.macs_commands.specs.declared.files.config_fault.KeyName.TheVariants as name
use Rattle.macs_commands.specs.declared.files.ends.CommandFileFault.{CommandFileFault}
use Rattle.macs_commands.specs.declared.files.ends.CommandFileFault.TheVariants as told
use Rattle.macs_disk.specs.Files.{FileState}
use Rattle.macs_texts.specs.Lines.{line}
use Rattle.macs_offline.specs.Applying.{SaidByFile, SaysCommands, longest_file}
use Rattle.macs_cli.specs.FileModes.{mode_warning}
use Rattle.macs_cli.specs.Reasons.{Complains, IsUnread}
use Rattle.macs_offline.specs.ShownKeys.{shown_key}
use Rattle.macs_offline.specs.TomlPlaces.{SaysNotToml}
use Rattle.macs_cli.specs.declared.failure.Failure.{Failure}
use Rattle.macs_cli.specs.declared.failure.Failure.TheVariants as failures
use Rattle.macs_cli.specs.declared.status.Status.{Status}
use Rattle.macs_cli.specs.declared.status.Status.TheVariants as ends
use Rattle.macs_offline.specs.Trying.{PrintsTrial, TrialStops}

-- ---- texts

-- how many commands there are
abbrev pub count_line : ℕ → List ℕ
count_line count = line (decimal count ++ (if count == 1 then codes " command" else codes " commands"))

-- a key of a command, as it is spelled
abbrev pub key_word : KeyName → List ℕ
key_word name.Mode = codes "mode"
key_word name.On = codes "on"
key_word name.Window = codes "window"
key_word name.An = codes "an"
key_word name.Key = codes "key"
key_word name.Start = codes "start"
key_word name.Confidential = codes "confidential"
key_word name.Offset = codes "offset"
key_word name.Sci = codes "sci"

-- what its value should be and is not
abbrev pub key_reason : KeyName → List ℕ
key_reason name.Mode = codes "not a mode of this command"
key_reason name.On = codes "not true or false"
key_reason name.Window = codes "not 0 to 4294967295"
key_reason name.An = codes "not 0 to 3"
key_reason name.Key = codes "not 32 or 64 hex digits"
key_reason name.Start = codes "not 0 to 4294967295"
key_reason name.Confidential = codes "not true or false"
key_reason name.Offset = codes "not 0 to 255"
key_reason name.Sci = codes "not 16 hex digits"

-- the table of command `at` of a file, counting from 1
abbrev pub command_at : Members → ℕ → Option Members
command_at file at =
    option_and_then as_table
    (option_and_then (λ commands. item_at (at - 1) commands) (get_member (codes "command") file))

-- the command lacks this key
abbrev pub lacks : Members → ℕ → KeyName → Bool
lacks file at name = elim (command_at file at) [
  | None ↦ false
  | Some command ↦ is_none (get_member (key_word name) command)
]

-- what is wrong with a key of command `at` of a file: it is missing, or its value is wrong
abbrev pub key_fault : Members → ℕ → KeyName → List ℕ
key_fault file at name = if lacks file at name then codes "missing" else key_reason name

-- the first unknown key of command `at` of a file
abbrev pub extra_key_at : Members → ℕ → List ℕ
extra_key_at file at = elim (option_and_then extra_key (command_at file at)) [ None ↦ [] | Some key ↦ key ]

-- the text for the first fault of the commands of a file: its place, key and reason
abbrev pub fault_text : Members → ConfigFault → List ℕ
fault_text file config.Shape = codes "command file: not sci and tables [[command]] alone"
fault_text file (config.Word at) = codes "command " ++ (decimal at ++ codes " do: not a command")
fault_text file (config.Key at name) =
    codes "command " ++ (decimal at ++ (codes " " ++ (key_word name ++ (codes ": " ++ key_fault file at name))))
fault_text file (config.Extra at) = codes "command " ++ (decimal at ++ (codes " "
    ++ (shown_key (extra_key_at file at) ++ codes ": not a key of this command")))
fault_text file config.Memory = codes "memory"

-- the text for the first fault of a file: that of its end, or of its commands
abbrev pub file_fault_text : Members → CommandFileFault → List ℕ
file_fault_text file told.Sci = codes "command file sci: not 16 hex digits"
file_fault_text file (told.Commands cause) = fault_text file cause

-- ---- of the octets of a file

-- a text is a command file whose first fault has this text
abbrev pub HasFault : List ℕ → List ℕ → Type 0
HasFault text said =
    (members : Members) × (parse_document text ≡ Some members)
    × (fault : CommandFileFault) × HasFileFault members fault × (said ≡ file_fault_text members fault)

-- the report on a text: it is not TOML, or its end or its commands have a fault
abbrev pub IsSaidOfText : List ℕ → List ℕ → Type 0
IsSaidOfText text said =
    ((parse_document text ≡ None) × SaysNotToml (codes "command file") text said) ⊎ HasFault text said

-- the report on octets: there are too many, they are not UTF-8, or the report on their text
abbrev pub IsSaidOfFile : List ℕ → List ℕ → Type 0
IsSaidOfFile octets said =
    ((longest_file < length octets) × (said ≡ codes "command file: more than 1048576 octets"))
    ⊎ ((length octets ≤ longest_file) × (¬ IsUtf8 octets) × (said ≡ codes "command file: not UTF-8"))
    ⊎ ((length octets ≤ longest_file) × IsUtf8 octets × IsSaidOfText octets said)

-- ---- of a file, whose unread octets `left_in` gives, where known

-- the number of commands in the file is printed, and a warning about its mode
abbrev pub PrintsCount : {F : Type 0} → (F → Option (List ℕ)) → Option (List ℕ) → Option (List ℕ) → Type 0
PrintsCount left_in before after =
    (octets : List ℕ) × (end : Option (List ℕ)) × (commands : List Command) × SaysCommands octets end commands
    × SaidByFile left_in end commands
    × (mode : Option ℕ) × Appends before after (count_line (length commands) ++ mode_warning mode)

-- a failure reports a fault of the octets of some file
abbrev pub ComplainsOfFile : {F : Type 0} → (List ℕ → List ℕ → Type 0) → (F → Option (List ℕ)) → Failure → Type 0
ComplainsOfFile {F} IsSaid left_in failure =
    (file : F) × IfSome (left_in file) (λ octets. Complains (IsSaid octets) failure)

-- the file with this name is not read; or a fault of its octets is reported, or memory runs out; or the output cannot
-- be written
abbrev pub CheckFails : {F : Type 0} → (F → Option (List ℕ)) → List ℕ → Failure → Type 0
CheckFails left_in name failure = IsUnread name failure ⊎ (failure ≡ failures.Output)
    ⊎ ((octets : List ℕ) × Complains (IsSaidOfFile octets) failure
    × ((failure ≡ failures.Memory) ⊎ ComplainsOfFile IsSaidOfFile left_in failure))

-- ---- with a disk, where `state_of` gives the state of files, and without one

-- the number of commands is printed, or the answer that each would get on the disk
abbrev pub Checks : {F : Type 0} → (F → FileState) → (F → Option (List ℕ)) → Option (Bor Text) → Option (List ℕ)
    → Option (List ℕ) → Status → Type 0
Checks state_of left_in None before after status = PrintsCount left_in before after × (status ≡ ends.Done)
Checks state_of left_in (Some disk) before after status = PrintsTrial state_of left_in before after status

-- the command file is not read, or has a fault; or its commands cannot be tried on the disk
abbrev pub CheckEnds : {F : Type 0} → (F → FileState) → (F → Option (List ℕ)) → List ℕ → Option (Bor Text) → Failure
    → Type 0
CheckEnds state_of left_in name None failure = CheckFails left_in name failure
CheckEnds state_of left_in name (Some disk) failure =
    CheckFails left_in name failure ⊎ TrialStops state_of left_in disk.now failure
