-- How a run of the program ends.
use Rattle.std.specs.Prelude.{◌≡◌, ◌≢◌, ◌⊎◌, ◌++◌, Bool, true, false, ℕ, List, take, Option, option_map, IfErr, IfOk}
use Rattle.std.specs.Prelude.{IfSome, Result, codes}
use Rattle.std.specs.Io.KnownBytes.{Appends}
use Rattle.clap.specs.Words.{Text, subcommand_of, takes}
use Rattle.macs_config.specs.Identity.{Identity}
use Rattle.macs_config.specs.declared.refusal.Refusal.{Refusal}
use Rattle.macs_disk.specs.Files.{FileState}
use Rattle.macs_disk.specs.declared.layout.Layout.{Layout}
use Rattle.macs_edge.specs.declared.capture_runs.Summary.{Summary}
use Rattle.macs_rxsc.specs.declared.verdict.Verdict.{Verdict}
use Rattle.macs_edge.specs.declared.relaying.RelaySummary.{RelaySummary}
use Rattle.macs_edge.specs.declared.settling.Side.TheVariants.{Common, Controlled}
use Rattle.macs_program.specs.About.{about_text}
use Rattle.macs_cli.specs.Addresses.{AddressFaultHolds, SpellsBoth, address_faults}
use Rattle.macs_offline.specs.Opened.{Answers, answer_status, answer_text}
use Rattle.macs_program.specs.Asking.{AskFails, PrintsAnswer, PrintsFront}
use Rattle.macs_offline.specs.Applying.{outcome_lines}
use Rattle.macs_offline.specs.Checking.{CheckEnds, Checks}
use Rattle.macs_fields.specs.First.{IsFirst}
use Rattle.macs_program.specs.Endpoints.{AppliesIn, BreaksOffIn, PassEndsIn, PassesIn, ShowsIn}
use Rattle.macs_offline.specs.Openings.{OpeningFails}
use Rattle.macs_offline.specs.Examining.{ExamineFails, PrintsExamined}
use Rattle.macs_cli.specs.Failing.{failure_of_words, failure_status, failure_text}
use Rattle.macs_offline.specs.Inspecting.{InspectFails, Inspects, PrintsFrames}
use Rattle.macs_program.specs.Judging.{JudgesIn, JudgingEndsIn, PrintsVerdicts, verdict_lines}
use Rattle.macs_offline.specs.Keys.{GivesKey, IsOfKey}
use Rattle.macs_offline.specs.Plans.{PlanFails, PrintsPlan}
use Rattle.macs_cli.specs.Help.{topic_text}
use Rattle.macs_program.specs.Inputs.{InputRead, read_of}
use Rattle.macs_program.specs.Keeping.{FailsToKeep, KeepsIn}
use Rattle.macs_program.specs.NewDisks.{FormatFails, Formats}
use Rattle.macs_program.specs.KeptRelays.{ComesToBy, RelayFailsBy}
use Rattle.macs_program.specs.Relaying.{course_of}
use Rattle.macs_cli.specs.OpenInput.{InputFaultHolds, input_faults}
use Rattle.macs_texts.specs.Lines.{line}
use Rattle.macs_program.specs.Summing.{pass_status, relay_line, summary_line}
use Rattle.macs_cli.specs.Values.{SpellsIdentity, SpellsLayout, ValueFaultHolds, value_faults}
use Rattle.macs_cli.specs.Words.{AreRefused, AsksFor, AsksForNothing, Names, macsecd}
use Rattle.macs_cli.specs.declared.words.action.Action.{Action}
use Rattle.macs_cli.specs.declared.words.action.Action.TheVariants.{Open, OnDisk, OnFrames, Tool}
use Rattle.macs_cli.specs.declared.words.action.DiskAction.TheVariants.{Format, Apply, Show, Keep}
use Rattle.macs_cli.specs.declared.words.action.FrameAction.TheVariants.{Protect, Validate, Relay}
use Rattle.macs_cli.specs.declared.words.action.ToolAction.TheVariants.{Ask, Key, Inspect, Check, Plan, Examine, About}
use Rattle.macs_cli.specs.declared.addresses.AddressFault.{AddressFault}
use Rattle.macs_offline.specs.declared.opened.Opened.{Opened}
use Rattle.macs_cli.specs.declared.failure.Failure.{Failure}
use Rattle.macs_cli.specs.declared.failure.Failure.TheVariants.{Address, Input, Memory, Output, Value}
use Rattle.macs_cli.specs.declared.open_input.InputFault.{InputFault}
use Rattle.macs_cli.specs.declared.open_input.InputFault.TheVariants as request_faults
use Rattle.macs_cli.specs.declared.words.action.UsageFault.{UsageFault}
use Rattle.macs_cli.specs.declared.words.help.Topic.{Topic}
use Rattle.macs_cli.specs.declared.status.Status.{Status}
use Rattle.macs_cli.specs.declared.status.Status.TheVariants as ends
use Rattle.macs_cli.specs.declared.values.ValueFault.{ValueFault}

-- `open`: the answer for the input is printed as one line, and the run ends with its status
abbrev pub Prints : List ℕ → Option (List ℕ) → Option (List ℕ) → Status → Type 0
Prints input before after status =
    (answer : Opened) × Answers input answer × Appends before after (line (answer_text answer))
    × (status ≡ answer_status answer)

-- What a run prints that succeeds, where `state_of` gives the state of files, and `left_in` their unread octets. Which
-- file has a name is not known here: the lines are those of what is done with some endpoint that was opened on a disk
-- in a file, and of the commands of some file; that of a relay is the result for some endpoint
abbrev pub Does : {F : Type 0} → Type 0 → (F → FileState) → (F → Option (List ℕ)) → Action → InputRead → Option (List ℕ)
    → Option (List ℕ) → Status → Type 0
Does T state_of left_in Open input before after status =
    IfSome input.octets (λ octets. Prints octets before after status)
Does T state_of left_in (OnDisk (Format disk sci tx_block rx_block block is_over)) input before after status =
    (identity : Identity) × SpellsIdentity sci.now tx_block rx_block identity
    × (layout : Layout) × SpellsLayout (option_map (λ text. text.now) block) layout
    × Formats state_of is_over layout identity
    × Appends before after (line (codes "formatted")) × (status ≡ ends.Done)
Does T state_of left_in (OnDisk (Apply disk file)) input before after status =
    AppliesIn state_of left_in before after status
Does T state_of left_in (OnDisk (Show disk)) input before after status = ShowsIn state_of before after
    × (status ≡ ends.Done)
Does T state_of left_in (OnDisk (Keep disk socket)) input before after status =
    KeepsIn state_of status × (after ≡ before)
Does T state_of left_in (OnFrames (Protect disk from to is_all)) input before after status =
    (summary : Summary) × PassesIn state_of Controlled summary
    × Appends before after (summary_line Controlled summary) × (status ≡ pass_status is_all summary)
Does T state_of left_in (OnFrames (Validate disk from to is_all false)) input before after status =
    (summary : Summary) × PassesIn state_of Common summary
    × Appends before after (summary_line Common summary) × (status ≡ pass_status is_all summary)
Does T state_of left_in (OnFrames (Validate disk from to is_all true)) input before after status =
    (summary : Summary) × (verdicts : List Verdict) × JudgesIn state_of summary verdicts
    × Appends before after (verdict_lines 1 verdicts ++ summary_line Common summary)
    × (status ≡ pass_status is_all summary)
Does T state_of left_in (OnFrames (Relay disk controlled common running)) input before after status =
    (summary : RelaySummary) × ComesToBy state_of running.keeper (course_of T disk.now running) summary
    × SpellsBoth controlled common
    × Appends before after (relay_line summary) × (status ≡ ends.Done)
Does T state_of left_in (Tool (Ask path asked is_json)) input before after status =
    PrintsAnswer asked is_json before after status
Does T state_of left_in (Tool (Key is_long)) input before after status = GivesKey is_long before after
    × (status ≡ ends.Done)
Does T state_of left_in (Tool (Inspect from)) input before after status = Inspects before after × (status ≡ ends.Done)
Does T state_of left_in (Tool (Check file disk)) input before after status =
    Checks state_of left_in disk before after status
Does T state_of left_in (Tool (Plan file end stage)) input before after status =
    PrintsPlan left_in end stage before after × (status ≡ ends.Done)
Does T state_of left_in (Tool (Examine disk is_json)) input before after status =
    PrintsExamined state_of is_json before after status
Does T state_of left_in (Tool About) input before after status = Appends before after about_text × (status ≡ ends.Done)

-- a run that does not fail prints help on request, or its words are accepted and name an action, which it carries out
abbrev pub Replies : {F : Type 0} → Type 0 → (F → FileState) → (F → Option (List ℕ)) → List Text → InputRead
    → Option (List ℕ) → Option (List ℕ) → Status → Type 0
Replies T state_of left_in words input before after status =
    ((topic : Topic) × AsksFor words topic × Appends before after (topic_text topic) × (status ≡ ends.Done))
    ⊎ ((takes macsecd words ≡ true)
    × (action : Action) × Names (subcommand_of macsecd words) action
    × Does T state_of left_in action input before after status)

-- What was printed before a failure: for `apply` and `ask PATH apply` the lines of the commands before it, for
-- `inspect` those of the frames before it, for `validate --each` those of the verdicts before it, else nothing
abbrev pub HasPrinted : Action → Option (List ℕ) → Option (List ℕ) → Type 0
HasPrinted (OnDisk (Apply disk file)) before after = (outcomes : List (Option Refusal))
    × Appends before after (outcome_lines 1 outcomes)
HasPrinted (OnFrames (Validate disk from to is_all true)) before after = PrintsVerdicts before after
HasPrinted (Tool (Ask path asked is_json)) before after = PrintsFront asked before after
HasPrinted (Tool (Inspect from)) before after = PrintsFrames before after
HasPrinted action before after = after ≡ before

-- a value of the action is not accepted
abbrev pub WrongValues : Action → Type 0
WrongValues (OnDisk (Format disk sci tx_block rx_block block is_over)) =
    (fault : ValueFault) × ValueFaultHolds sci.now tx_block rx_block (option_map (λ text. text.now) block) fault
WrongValues (OnFrames (Relay disk controlled common running)) = (fault : AddressFault)
    × AddressFaultHolds controlled common fault
WrongValues action = ⊥

-- How `open` fails: a read failed, or the input, of which at most 20,001 octets are read, has this first fault; or
-- memory runs out; or a print failed
abbrev pub OpenFails : InputRead → Failure → Type 0
OpenFails input failure =
    ((failure ≡ Input request_faults.Input) × (input.has_failed ≡ true))
    ⊎ ((fault : InputFault) × (failure ≡ Input fault)
    × IfSome input.octets (λ all. IsFirst (InputFaultHolds (take 20001 all)) input_faults fault))
    ⊎ (failure ≡ Memory) ⊎ (failure ≡ Output)

-- How an action fails, where `state_of` gives the state of files, and `left_in` their unread octets: at the first value
-- of the words that is not accepted, when opening the endpoint, or as what is done with it ends
abbrev pub FailsAs : {F : Type 0} → Type 0 → (F → FileState) → (F → Option (List ℕ)) → Action → InputRead
    → Option (List ℕ)
    → Option (List ℕ) → Failure → Type 0
FailsAs T state_of left_in Open input before after failure = OpenFails input failure
FailsAs T state_of left_in (OnDisk (Format disk sci tx_block rx_block block is_over)) octets before after failure =
    ((fault : ValueFault) × (failure ≡ Value fault)
    × IsFirst (ValueFaultHolds sci.now tx_block rx_block (option_map (λ text. text.now) block)) value_faults fault)
    ⊎ ((identity : Identity) × SpellsIdentity sci.now tx_block rx_block identity
    × FormatFails state_of is_over identity failure)
    ⊎ (failure ≡ Output)
FailsAs T state_of left_in (OnDisk (Apply disk file)) octets before after failure = OpeningFails state_of failure
    ⊎ BreaksOffIn state_of left_in before after failure
FailsAs T state_of left_in (OnDisk (Show disk)) octets before after failure = OpeningFails state_of failure
    ⊎ (failure ≡ Memory)
    ⊎ (failure ≡ Output)
FailsAs T state_of left_in (OnDisk (Keep disk socket)) octets before after failure = FailsToKeep state_of failure
FailsAs T state_of left_in (OnFrames (Protect disk from to is_all)) octets before after failure =
    OpeningFails state_of failure
    ⊎ PassEndsIn state_of Controlled failure
FailsAs T state_of left_in (OnFrames (Validate disk from to is_all false)) octets before after failure =
    OpeningFails state_of failure
    ⊎ PassEndsIn state_of Common failure
FailsAs T state_of left_in (OnFrames (Validate disk from to is_all true)) octets before after failure =
    OpeningFails state_of failure
    ⊎ JudgingEndsIn state_of failure
FailsAs T state_of left_in (OnFrames (Relay disk controlled common running)) octets before after failure =
    ((fault : AddressFault) × (failure ≡ Address fault)
    × IsFirst (AddressFaultHolds controlled common) address_faults fault)
    ⊎ RelayFailsBy state_of running.keeper (course_of T disk.now running) failure
FailsAs T state_of left_in (Tool (Ask path asked is_json)) octets before after failure = AskFails path.now asked failure
FailsAs T state_of left_in (Tool (Key is_long)) octets before after failure = IsOfKey failure
FailsAs T state_of left_in (Tool (Inspect from)) octets before after failure =
    InspectFails from.now before after failure
FailsAs T state_of left_in (Tool (Check file disk)) octets before after failure =
    CheckEnds state_of left_in file.now disk failure
FailsAs T state_of left_in (Tool (Plan file end stage)) octets before after failure =
    PlanFails left_in file.now end stage failure
FailsAs T state_of left_in (Tool (Examine disk is_json)) octets before after failure =
    ExamineFails state_of disk.now failure
FailsAs T state_of left_in (Tool About) octets before after failure = (failure ≡ Memory) ⊎ (failure ≡ Output)

-- An action is carried out, with one of these two statuses, or fails. A usage failure is that of a wrong value, and
-- nothing was printed; a disk failure is that of another action than `open`; and an output failure is that of a print
-- that failed
pub record Performs {F W : Type 0} (T : Type 0) (state_of : F → FileState) (left_in : F → Option (List ℕ))
    (contents : W → Option (List ℕ)) (failed : W → Bool) (action : Action)
    (input : InputRead) (old : W) (result : Result Status Failure) (new : W) : Type 0 where
  pub does : IfOk result (Does T state_of left_in action input (contents old) (contents new))
  pub status : IfOk result (λ end. (end ≡ ends.Done) ⊎ (end ≡ ends.Refused))
  pub usage : IfErr result (λ failure. failure_status failure ≡ ends.Usage → WrongValues action × (new ≡ old))
  pub disk : IfErr result (λ failure. failure_status failure ≡ ends.Disk
      → (action ≢ Open) × HasPrinted action (contents old) (contents new))
  pub before : IfErr result (λ failure. failure ≢ Output → HasPrinted action (contents old) (contents new))
  pub fails : IfErr result (FailsAs T state_of left_in action input (contents old) (contents new))
  pub broken : IfErr result (λ failure. failure ≡ Output → failed new ≡ true)

-- how a run fails: its words are refused, or help cannot be printed, or the words are accepted and name an action that
-- fails with this failure
abbrev pub FailsFor : {F : Type 0} → Type 0 → (F → FileState) → (F → Option (List ℕ)) → List Text → InputRead
    → Option (List ℕ) → Option (List ℕ) → Failure → Type 0
FailsFor T state_of left_in words octets before after failure =
    ((fault : UsageFault) × (failure ≡ failure_of_words fault))
    ⊎ ((topic : Topic) × AsksFor words topic × (failure ≡ Output))
    ⊎ ((takes macsecd words ≡ true)
    × (action : Action) × Names (subcommand_of macsecd words) action
    × FailsAs T state_of left_in action octets before after failure)

-- what was printed before a failure: nothing, or the lines of the commands, frames or verdicts before it
abbrev pub PrintedBefore : List Text → Option (List ℕ) → Option (List ℕ) → Type 0
PrintedBefore words before after =
    (after ≡ before) ⊎ ((action : Action) × Names (subcommand_of macsecd words) action × HasPrinted action before after)

-- the words name an action with a wrong value
abbrev pub HasWrongValues : List Text → Type 0
HasWrongValues words =
    (action : Action) × Names (subcommand_of macsecd words) action × WrongValues action

-- What a run does apart from the line of a failure: it replies, with one of these two statuses, or fails. A usage
-- failure is that of words that do not ask for help, and nothing was printed; a disk failure is that of an action in
-- the words, other than `open`; and an output failure is that of a print that failed. The input is left unread unless
-- the words name `open`
pub record Acts {F R W : Type 0} (T : Type 0) (state_of : F → FileState) (left_in : F → Option (List ℕ))
    (remaining : R → Option (List ℕ)) (read_failed : R → Bool) (contents : W → Option (List ℕ)) (failed : W → Bool)
    (words : List Text) (input : R) (old : W) (result : Result Status Failure) (left : R) (new : W) : Type 0 where
  pub replied : IfOk result
      (Replies T state_of left_in words (read_of remaining read_failed input left) (contents old) (contents new))
  pub status : IfOk result (λ end. (end ≡ ends.Done) ⊎ (end ≡ ends.Refused))
  pub usage : IfErr result (λ failure. failure_status failure ≡ ends.Usage
      → (AreRefused words ⊎ HasWrongValues words) × (new ≡ old))
  pub help : IfErr result (λ failure. failure_status failure ≡ ends.Usage → AsksForNothing words)
  pub disk : IfErr result (λ failure. failure_status failure ≡ ends.Disk → (takes macsecd words ≡ true)
      × (action : Action) × Names (subcommand_of macsecd words) action × (action ≢ Open)
      × HasPrinted action (contents old) (contents new))
  pub before : IfErr result (λ failure. failure ≢ Output → PrintedBefore words (contents old) (contents new))
  pub fails : IfErr result
      (FailsFor T state_of left_in words (read_of remaining read_failed input left) (contents old) (contents new))
  pub broken : IfErr result (λ failure. failure ≡ Output → failed new ≡ true)
  pub unread : ((takes macsecd words ≡ true) × Names (subcommand_of macsecd words) Open → ⊥) → left ≡ input

-- the line of a failure on standard error
abbrev pub complaint : Failure → List ℕ
complaint failure = line (codes "macsecd: " ++ failure_text failure)

-- a text was printed on a stream, or the stream failed
abbrev pub PrintsUnlessFailed : Option (List ℕ) → Option (List ℕ) → Bool → List ℕ → Type 0
PrintsUnlessFailed before after failed text = Appends before after text ⊎ (failed ≡ true)
