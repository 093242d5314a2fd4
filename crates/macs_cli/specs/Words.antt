-- The words that the program knows, the action that they name, and those that ask for help.
use Rattle.std.specs.Prelude.{◌≡◌, ◌≢◌, ◌↔◌, ◌⊎◌, ◌<◌, ◌-◌, ◌^◌, ℕ, ⊤, map, Bool, true, false, List, [], ◌∷◌}
use Rattle.std.specs.Prelude.{Option, Some, None, codes, if◌then◌else◌, IfSome, option_and_then, option_map}
use Rattle.std.specs.Prelude.{string_bytes}
use Rattle.std.specs.Str.{bytes_eq}
use Rattle.std.specs.Str.Parse.{IsNumeral, digits_value, without_leading_plus}
use Rattle.std.specs.Borrow.{Bor}
use Rattle.clap.specs.Simple.{new_shape, on_top}
use Rattle.clap.specs.Words.{App, Row, Rule, Shape, Text, app_of, first_of, kind_of, new_app, new_rule, subcommand_of}
use Rattle.clap.specs.Words.{takes, with_rule, with_subcommand}
use Rattle.clap.specs.declared.builder.action.ArgAction.TheVariants.{Set, SetTrue}
use Rattle.clap.specs.declared.builder.value_parser.ValueParser.TheVariants as vp
use Rattle.clap.specs.declared.builder.command.Command.{Command}
use Rattle.clap.specs.declared.builder.command.Command.TheViews.{out-Command as fields_of}
use Rattle.clap.specs.declared.error.Error.{Error}
use Rattle.clap.specs.declared.error.kind.ErrorKind.TheVariants.{OutOfMemory}
use Rattle.macs_cli.specs.Controls.{IsPrintable}
use Rattle.macs_cli.specs.Waits.{IsRoom, IsWaitLimit}
use Rattle.macs_cli.specs.declared.words.action.UsageFault.{UsageFault}
use Rattle.macs_cli.specs.declared.words.action.UsageFault.TheVariants.{Usage, Memory}
use Rattle.macs_cli.specs.declared.words.action.Action.{Action}
use Rattle.macs_cli.specs.declared.words.action.Action.TheVariants.{Open, OnDisk, OnFrames, Tool}
use Rattle.macs_cli.specs.declared.words.action.DiskAction.{DiskAction}
use Rattle.macs_cli.specs.declared.words.action.DiskAction.TheVariants.{Format, Apply, Show, Keep}
use Rattle.macs_cli.specs.declared.words.action.FrameAction.{FrameAction}
use Rattle.macs_cli.specs.declared.words.action.FrameAction.TheVariants.{Protect, Validate, Relay}
use Rattle.macs_cli.specs.declared.words.action.ToolAction.{ToolAction}
use Rattle.macs_cli.specs.declared.words.action.ToolAction.TheVariants.{Ask, Key, Inspect, Check, Plan, Examine, About}
use Rattle.macs_commands.specs.declared.links.link.End.{End}
use Rattle.macs_commands.specs.declared.links.link.End.TheVariants as side
use Rattle.macs_commands.specs.declared.links.planning.Stage.{Stage}
use Rattle.macs_commands.specs.declared.links.planning.Stage.TheVariants as stage
use Rattle.macs_cli.specs.declared.words.arguments.Kind.{Kind}
use Rattle.macs_cli.specs.declared.words.arguments.Kind.TheVariants as kind
use Rattle.macs_cli.specs.declared.words.action.Question.{Question}
use Rattle.macs_cli.specs.declared.words.action.Question.TheVariants as question
use Rattle.macs_cli.specs.declared.words.pace.Pace.{Pace}
use Rattle.macs_cli.specs.declared.words.pace.Pace.TheVariants.{Sleepless, Waiting}
use Rattle.macs_cli.specs.declared.words.help.Topic.{Topic}
use Rattle.macs_cli.specs.declared.words.help.Topic.TheVariants.{Help, HelpOn, Version}
use Rattle.macs_cli.specs.declared.words.help.Subcommand.{Subcommand}
use Rattle.macs_cli.specs.declared.words.help.Subcommand.TheVariants as subcommand

-- the texts of borrowed words
abbrev pub texts : List (Bor Text) → List Text
texts = map (λ word. word.now)

-- ---- the words that are known

-- the rule for an argument of this kind; numbers are in decimal
abbrev pub rule_for : Kind → Text → Rule
rule_for kind.Value name = record (new_rule name) { action = Some Set; required = true }
rule_for kind.Number name =
    record (new_rule name) { action = Some Set; required = true; parser = Some (vp.Unsigned 0 (2 ^ 32 - 1)) }
rule_for kind.Last name = record (new_rule name) { action = Some Set }
rule_for kind.Named name = record (new_rule name) { long = Some name; action = Some Set }
rule_for kind.Count name =
    record (new_rule name) { long = Some name; action = Some Set; parser = Some (vp.Unsigned 0 (2 ^ 64 - 1)) }
rule_for kind.Wait name =
    record (new_rule name) { long = Some name; action = Some Set; parser = Some (vp.Unsigned 1 60000) }
rule_for kind.Room name =
    record (new_rule name) { long = Some name; action = Some Set; parser = Some (vp.Unsigned 1 1073741823) }
rule_for kind.Flag name = record (new_rule name) { long = Some name; action = Some SetTrue }

-- a subcommand with its arguments, in order
abbrev pub subcommand_with : Text → List Rule → Shape
subcommand_with name rules = record (new_shape name) { rules = rules }

-- the subcommands
abbrev pub known_subcommands : List Shape
known_subcommands =
    subcommand_with (codes "open") []
    ∷ subcommand_with (codes "format")
    (rule_for kind.Value (codes "DISK") ∷ rule_for kind.Value (codes "SCI") ∷ rule_for kind.Number (codes "TX")
    ∷ rule_for kind.Number (codes "RX") ∷ rule_for kind.Named (codes "block") ∷ rule_for kind.Flag (codes "over") ∷ [])
    ∷ subcommand_with (codes "apply") (rule_for kind.Value (codes "DISK") ∷ rule_for kind.Value (codes "FILE") ∷ [])
    ∷ subcommand_with (codes "show") (rule_for kind.Value (codes "DISK") ∷ [])
    ∷ subcommand_with (codes "protect")
    (rule_for kind.Value (codes "DISK") ∷ rule_for kind.Value (codes "INPUT") ∷ rule_for kind.Value (codes "OUTPUT")
    ∷ rule_for kind.Flag (codes "all") ∷ [])
    ∷ subcommand_with (codes "validate")
    (rule_for kind.Value (codes "DISK") ∷ rule_for kind.Value (codes "INPUT") ∷ rule_for kind.Value (codes "OUTPUT")
    ∷ rule_for kind.Flag (codes "all") ∷ rule_for kind.Flag (codes "each") ∷ [])
    ∷ subcommand_with (codes "relay")
    (rule_for kind.Value (codes "DISK") ∷ rule_for kind.Value (codes "OWN1") ∷ rule_for kind.Value (codes "PEER1")
    ∷ rule_for kind.Value (codes "OWN2") ∷ rule_for kind.Value (codes "PEER2") ∷ rule_for kind.Count (codes "turns")
    ∷ rule_for kind.Wait (codes "wait") ∷ rule_for kind.Room (codes "buffer") ∷ rule_for kind.Named (codes "control")
    ∷ rule_for kind.Named (codes "metrics") ∷ rule_for kind.Named (codes "keeper") ∷ [])
    ∷ subcommand_with (codes "keep") (rule_for kind.Value (codes "DISK") ∷ rule_for kind.Value (codes "SOCKET") ∷ [])
    ∷ subcommand_with (codes "ask")
    (rule_for kind.Value (codes "PATH") ∷ rule_for kind.Value (codes "WORD") ∷ rule_for kind.Last (codes "FILE")
    ∷ rule_for kind.Flag (codes "json") ∷ [])
    ∷ subcommand_with (codes "key") (rule_for kind.Flag (codes "long") ∷ [])
    ∷ subcommand_with (codes "inspect") (rule_for kind.Value (codes "INPUT") ∷ [])
    ∷ subcommand_with (codes "check") (rule_for kind.Value (codes "FILE") ∷ rule_for kind.Last (codes "DISK") ∷ [])
    ∷ subcommand_with (codes "plan")
    (rule_for kind.Value (codes "FILE") ∷ rule_for kind.Value (codes "END") ∷ rule_for kind.Value (codes "STAGE") ∷ [])
    ∷ subcommand_with (codes "examine") (rule_for kind.Value (codes "DISK") ∷ rule_for kind.Flag (codes "json") ∷ [])
    ∷ subcommand_with (codes "about") []
    ∷ []

-- the words begin after the program's name, and the library's own help and version flags and its help subcommand are
-- disabled
abbrev pub bare_app : App
bare_app = on_top (λ s. record s {
  no_binary_name = true;
  disable_help_flag = true;
  disable_help_subcommand = true;
  disable_version_flag = true;
}) (new_app (codes "macsecd"))

-- the words that the program accepts
abbrev pub macsecd : App
macsecd = record { top = record bare_app.top { is_leaf = false }; subs = known_subcommands }

-- words with these arguments more
abbrev pub with_arguments : App → List (Bor Text × Kind) → App
with_arguments app [] = app
with_arguments app (first ∷ rest) = with_arguments (with_rule app (rule_for first.1 first.0.now)) rest

-- and with these subcommands more, each with its arguments
abbrev pub with_subcommands : App → List (Bor Text × Bor (List (Bor Text × Kind))) → App
with_subcommands app [] = app
with_subcommands app (first ∷ rest) =
    with_subcommands (with_subcommand app (with_arguments (new_app first.0.now) first.1.now).top) rest

-- ---- actions

-- the value with this name is this text
abbrev pub HasText : List Row → Text → Text → Type 0
HasText values name text = first_of name values ≡ Some text

-- the value with this name is this number in decimal digits, optionally with a leading plus
abbrev pub HasNumber : List Row → Text → ℕ → Type 0
HasNumber values name number =
    (text : Text) × (first_of name values ≡ Some text)
    × IsNumeral 10 (without_leading_plus text) × (number ≡ digits_value 10 (without_leading_plus text))

-- the value with this name is this text, if it is given
abbrev pub MayHaveText : List Row → Text → Option (Bor Text) → Type 0
MayHaveText values name text = option_map (λ t. t.now) text ≡ first_of name values

-- the value with this name is this number in decimal digits, if it is given
abbrev pub MayHaveNumber : List Row → Text → Option ℕ → Type 0
MayHaveNumber values name None = first_of name values ≡ None
MayHaveNumber values name (Some number) = HasNumber values name number

-- How a relay takes its turns: a number of turns is given, and no wait; or a maximum wait is given, 1 to 60,000 ms, and
-- maybe a number of turns
abbrev pub HasPace : List Row → Pace → Type 0
HasPace values (Sleepless turns) = HasNumber values (codes "turns") turns × (first_of (codes "wait") values ≡ None)
HasPace values (Waiting limit turns) =
    HasNumber values (codes "wait") limit.0 × IsWaitLimit limit.0 × MayHaveNumber values (codes "turns") turns

-- the value with this name is this many octets, 1 to 1,073,741,823, if it is given
abbrev pub MayHaveRoom : List Row → Text → Option ℕ → Type 0
MayHaveRoom values name None = first_of name values ≡ None
MayHaveRoom values name (Some octets) = HasNumber values name octets × IsRoom octets

-- the question that a word alone asks
abbrev pub plain_question : Text → Option Question
plain_question word =
    if bytes_eq word (codes "show") then Some question.Show
    else if bytes_eq word (codes "counters") then Some question.Counters
    else if bytes_eq word (codes "keys") then Some question.Keys
    else if bytes_eq word (codes "traffic") then Some question.Traffic
    else if bytes_eq word (codes "about") then Some question.About
    else if bytes_eq word (codes "stop") then Some question.Stop
    else None

-- a word asks this question, with a file after it or without one: alone, or if it is `apply` and the file follows
abbrev pub Asks : Option Text → Option Text → Question → Type 0
Asks word None asked = option_and_then plain_question word ≡ Some asked
Asks word (Some name) asked =
    (word ≡ Some (codes "apply")) × (file : Bor Text) × (file.now ≡ name) × (asked ≡ question.Apply file)

-- the words of `ask` ask this question
abbrev pub HasQuestion : List Row → Question → Type 0
HasQuestion values asked = Asks (first_of (codes "WORD") values) (first_of (codes "FILE") values) asked

-- the answer to a question is a report
abbrev pub is_report : Question → Bool
is_report question.Show = true
is_report question.Counters = true
is_report question.Keys = true
is_report question.Traffic = true
is_report question.About = true
is_report question.Stop = false
is_report (question.Apply file) = false

-- the end of a link with this name
abbrev pub end_named : Text → Option End
end_named word =
    if bytes_eq word (codes "left") then Some side.Left
    else if bytes_eq word (codes "right") then Some side.Right
    else None

-- the stage of its keys with this name
abbrev pub stage_named : Text → Option Stage
stage_named word =
    if bytes_eq word (codes "first") then Some stage.First
    else if bytes_eq word (codes "receive") then Some stage.Receive
    else if bytes_eq word (codes "send") then Some stage.Send
    else if bytes_eq word (codes "remove") then Some stage.Remove
    else None

-- the words of `plan` name this end and this stage
abbrev pub HasPlan : List Row → End → Stage → Type 0
HasPlan values end which = (option_and_then end_named (first_of (codes "END") values) ≡ Some end)
    × (option_and_then stage_named (first_of (codes "STAGE") values) ≡ Some which)

-- whether the option without a value is given
abbrev pub IsFlagged : List Row → Text → Bool → Type 0
IsFlagged values name is = (is ≡ true) ↔ HasText values name (codes "true")

-- a subcommand with its values names an action on a disk file, without frames
abbrev pub NamesOnDisk : Text × List Row → DiskAction → Type 0
NamesOnDisk found (Format disk sci tx_block rx_block block is_over) =
    (found.0 ≡ codes "format") × HasText found.1 (codes "DISK") disk.now × HasText found.1 (codes "SCI") sci.now
    × HasNumber found.1 (codes "TX") tx_block × HasNumber found.1 (codes "RX") rx_block
    × MayHaveText found.1 (codes "block") block × IsFlagged found.1 (codes "over") is_over
NamesOnDisk found (Apply disk file) =
    (found.0 ≡ codes "apply") × HasText found.1 (codes "DISK") disk.now × HasText found.1 (codes "FILE") file.now
NamesOnDisk found (Show disk) = (found.0 ≡ codes "show") × HasText found.1 (codes "DISK") disk.now
NamesOnDisk found (Keep disk socket) =
    (found.0 ≡ codes "keep") × HasText found.1 (codes "DISK") disk.now × HasText found.1 (codes "SOCKET") socket.now

-- one that gives frames to an endpoint
abbrev pub NamesOnFrames : Text × List Row → FrameAction → Type 0
NamesOnFrames found (Protect disk input output is_all) =
    (found.0 ≡ codes "protect") × HasText found.1 (codes "DISK") disk.now
    × HasText found.1 (codes "INPUT") input.now × HasText found.1 (codes "OUTPUT") output.now
    × IsFlagged found.1 (codes "all") is_all
NamesOnFrames found (Validate disk input output is_all is_each) =
    (found.0 ≡ codes "validate") × HasText found.1 (codes "DISK") disk.now
    × HasText found.1 (codes "INPUT") input.now × HasText found.1 (codes "OUTPUT") output.now
    × IsFlagged found.1 (codes "all") is_all × IsFlagged found.1 (codes "each") is_each
NamesOnFrames found (Relay disk controlled common running) =
    (found.0 ≡ codes "relay") × HasText found.1 (codes "DISK") disk.now
    × HasText found.1 (codes "OWN1") controlled.own.now × HasText found.1 (codes "PEER1") controlled.peer.now
    × HasText found.1 (codes "OWN2") common.own.now × HasText found.1 (codes "PEER2") common.peer.now
    × HasPace found.1 running.pace × MayHaveRoom found.1 (codes "buffer") running.buffer
    × MayHaveText found.1 (codes "control") running.control × MayHaveText found.1 (codes "metrics") running.metrics
    × MayHaveText found.1 (codes "keeper") running.keeper

-- one that changes no disk
abbrev pub NamesTool : Text × List Row → ToolAction → Type 0
NamesTool found (Ask path asked is_json) = (found.0 ≡ codes "ask") × HasText found.1 (codes "PATH") path.now
    × HasQuestion found.1 asked × IsFlagged found.1 (codes "json") is_json × (is_json ≡ true → is_report asked ≡ true)
NamesTool found (Key is_long) = (found.0 ≡ codes "key") × IsFlagged found.1 (codes "long") is_long
NamesTool found (Inspect input) = (found.0 ≡ codes "inspect") × HasText found.1 (codes "INPUT") input.now
NamesTool found (Check file disk) =
    (found.0 ≡ codes "check") × HasText found.1 (codes "FILE") file.now × MayHaveText found.1 (codes "DISK") disk
NamesTool found (Plan file end which) =
    (found.0 ≡ codes "plan") × HasText found.1 (codes "FILE") file.now × HasPlan found.1 end which
NamesTool found (Examine disk is_json) = (found.0 ≡ codes "examine") × HasText found.1 (codes "DISK") disk.now
    × IsFlagged found.1 (codes "json") is_json
NamesTool found About = found.0 ≡ codes "about"

-- the subcommand with its values names the action; no subcommand is `open`
abbrev pub Names : Option (Text × List Row) → Action → Type 0
Names None action = action ≡ Open
Names (Some found) Open = found.0 ≡ codes "open"
Names (Some found) (OnDisk action) = NamesOnDisk found action
Names (Some found) (OnFrames action) = NamesOnFrames found action
Names (Some found) (Tool action) = NamesTool found action

-- a relay with neither turns nor a wait: it names no action
abbrev pub LacksPace : Option (Text × List Row) → Type 0
LacksPace None = ⊥
LacksPace (Some found) =
    (found.0 ≡ codes "relay") × (first_of (codes "turns") found.1 ≡ None) × (first_of (codes "wait") found.1 ≡ None)

-- an `ask` whose words are not a question for a relay: it names no action
abbrev pub LacksQuestion : Option (Text × List Row) → Type 0
LacksQuestion None = ⊥
LacksQuestion (Some found) = (found.0 ≡ codes "ask") × ((asked : Question) → ¬ HasQuestion found.1 asked)

-- an `ask` for JSON whose question is not answered with a report: it names no action
abbrev pub LacksReport : Option (Text × List Row) → Type 0
LacksReport None = ⊥
LacksReport (Some found) = (found.0 ≡ codes "ask") × HasText found.1 (codes "json") (codes "true")
    × ((asked : Question) → HasQuestion found.1 asked → is_report asked ≡ false)

-- a `plan` whose words name no end or no stage: it names no action
abbrev pub LacksPlan : Option (Text × List Row) → Type 0
LacksPlan None = ⊥
LacksPlan (Some found) =
    (found.0 ≡ codes "plan") × ((end : End) (which : Stage) → ¬ HasPlan found.1 end which)

-- words that clap accepts and that name no action
abbrev pub NamesNothing : Option (Text × List Row) → Type 0
NamesNothing found = LacksPace found ⊎ LacksQuestion found ⊎ LacksReport found ⊎ LacksPlan found

-- the words are not accepted: clap refuses them, or they name no action
abbrev pub AreRefused : List Text → Type 0
AreRefused words = (takes macsecd words ≢ true) ⊎ NamesNothing (subcommand_of macsecd words)

-- the number of turns fits in 64 bits
abbrev pub FitsPace : Pace → Type 0
FitsPace (Sleepless turns) = turns < 2 ^ 64
FitsPace (Waiting limit turns) = IfSome turns (λ count. count < 2 ^ 64)

-- the numbers of an action on a disk, if it has any, fit in their types
abbrev pub FitsOnDisk : DiskAction → Type 0
FitsOnDisk (Format disk sci tx_block rx_block block is_over) = (tx_block < 2 ^ 32) × (rx_block < 2 ^ 32)
FitsOnDisk action = ⊤

-- those of an action on frames
abbrev pub FitsOnFrames : FrameAction → Type 0
FitsOnFrames (Relay disk controlled common running) = FitsPace running.pace
FitsOnFrames action = ⊤

-- those of any action
abbrev pub FitsNumbers : Action → Type 0
FitsNumbers (OnDisk action) = FitsOnDisk action
FitsNumbers (OnFrames action) = FitsOnFrames action
FitsNumbers action = ⊤

-- no action is named whose numbers fit in their types
abbrev pub NamesNoAction : Option (Text × List Row) → Type 0
NamesNoAction found = (action : Action) → Names found action → ¬ FitsNumbers action

-- the command is this one, and has no global argument
pub record IsClapCommand (command : Command) (app : App) : Type 0 where
  pub app_is : app_of command ≡ app
  pub local : (fields_of command).has_globals ≡ false

-- out of memory is one fault, and every other refusal is wrong usage
abbrev pub IsFaultOf : Error → UsageFault → Type 0
IsFaultOf error Memory = kind_of error ≡ OutOfMemory
IsFaultOf error (Usage cause) = kind_of error ≢ OutOfMemory

-- the cause, if the fault has one, has no control characters
abbrev pub HasPrintableCause : UsageFault → Type 0
HasPrintableCause (Usage cause) = IsPrintable (string_bytes cause)
HasPrintableCause Memory = ⊤

-- ---- help

-- the word that asks for help, long or short
abbrev pub IsHelpFlag : Text → Type 0
IsHelpFlag word = (word ≡ codes "--help") ⊎ (word ≡ codes "-h")

-- the word that asks for the version
abbrev pub IsVersionFlag : Text → Type 0
IsVersionFlag word = word ≡ codes "--version"

-- the name of a subcommand
abbrev pub name_of : Subcommand → Text
name_of subcommand.Open = codes "open"
name_of subcommand.Format = codes "format"
name_of subcommand.Apply = codes "apply"
name_of subcommand.Show = codes "show"
name_of subcommand.Protect = codes "protect"
name_of subcommand.Validate = codes "validate"
name_of subcommand.Relay = codes "relay"
name_of subcommand.Keep = codes "keep"
name_of subcommand.Ask = codes "ask"
name_of subcommand.Key = codes "key"
name_of subcommand.Inspect = codes "inspect"
name_of subcommand.Check = codes "check"
name_of subcommand.Plan = codes "plan"
name_of subcommand.Examine = codes "examine"
name_of subcommand.About = codes "about"

-- The words ask for the topic: only a help flag, the name of a subcommand followed by a help flag, or only the version
-- flag
abbrev pub AsksFor : List Text → Topic → Type 0
AsksFor (word ∷ []) Help = IsHelpFlag word
AsksFor (name ∷ word ∷ []) (HelpOn which) = (name ≡ name_of which) × IsHelpFlag word
AsksFor (word ∷ []) Version = IsVersionFlag word
AsksFor words topic = ⊥

-- the words ask for no help
abbrev pub AsksForNothing : List Text → Type 0
AsksForNothing words = (topic : Topic) → ¬ AsksFor words topic
