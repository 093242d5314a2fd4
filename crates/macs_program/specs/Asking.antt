-- What `ask` says to a relay, what it prints, and how it fails.
use Rattle.std.specs.Prelude.{◌≡◌, ◌≢◌, ◌==◌, if◌then◌else◌, ⊤, ℕ, Bool, true, false, List, Option, Result, IfErr, IfOk}
use Rattle.std.specs.Prelude.{◌⊎◌, ◌↔◌, ◌++◌, ◌&&◌, codes, Some, None, Ok, Err}
use Rattle.std.specs.Prelude.{◌∷◌, [], nat_eq, string_bytes}
use Rattle.std.specs.Io.KnownBytes.{Appends}
use Rattle.std.specs.List.{starts_with}
use Rattle.std.specs.Str.{IsUtf8}
use Rattle.hex.specs.Hex.{encode_lower}
use Rattle.macs_config.specs.declared.command.Command.{Command}
use Rattle.macs_config.specs.declared.refusal.Refusal.{Refusal}
use Rattle.macs_commands.specs.Requests.{request_line}
use Rattle.macs_commands.specs.declared.requests.request.Request.{Request}
use Rattle.macs_commands.specs.declared.requests.request.Request.TheVariants as request
use Rattle.macs_control.specs.Asking.{Conversation, Outlives, OutlivesNot, ReadsAnswer, ReadsNoEnd, ReadsSome, Sends}
use Rattle.macs_control.specs.Asking.{SendsSome}
use Rattle.macs_cli.specs.Objects.{in_form}
use Rattle.macs_record.specs.Sectors.{Begins}
use Rattle.macs_cli.specs.Words.{is_report}
use Rattle.macs_cli.specs.declared.words.action.Question.{Question}
use Rattle.macs_cli.specs.declared.words.action.Question.TheVariants as question
use Rattle.macs_cli.specs.declared.words.action.Question.TheVariants.{Apply}
use Rattle.macs_offline.specs.Applying.{SaidByFile, outcome_lines, outcomes_status}
use Rattle.macs_offline.specs.Checking.{IsSaidOfFile}
use Rattle.macs_cli.specs.Reasons.{Complains, IsUnread, Tells, TellsOfFile}
use Rattle.macs_program.specs.Sockets.{socket_text}
use Rattle.macs_program.specs.declared.socket_reason.SocketReason.{SocketReason}
use Rattle.macs_program.specs.declared.socket_reason.SocketReason.TheVariants as reason
use Rattle.macs_cli.specs.declared.failure.DiskFault.TheVariants as disk
use Rattle.macs_cli.specs.declared.failure.Failure.{Failure}
use Rattle.macs_cli.specs.declared.failure.Failure.TheVariants as failures
use Rattle.macs_cli.specs.declared.status.Status.{Status}
use Rattle.macs_cli.specs.declared.status.Status.TheVariants as ends
use Rattle.macs_journal.specs.declared.fault.JournalFault.TheVariants as journal
use Rattle.macs_texts.specs.Lines.{line}
use Rattle.macs_texts.specs.Refusals.{refusal_name}

-- ---- what `ask` prints, and how it fails

-- a line for each command, with its number, and the status of them all; or the text of the answer, a report as JSON if
-- requested
abbrev pub PrintsAnswer : Question → Bool → Option (List ℕ) → Option (List ℕ) → Status → Type 0
PrintsAnswer (Apply file) is_json before after status =
    (outcomes : List (Option Refusal)) × Appends before after (outcome_lines 1 outcomes)
    × (status ≡ outcomes_status outcomes)
PrintsAnswer asked is_json before after status = (text : List ℕ)
    × Appends before after (in_form (is_report asked && is_json) text) × (status ≡ ends.Done)

-- what was printed before a failure: the lines of the commands before it; for other questions nothing
abbrev pub PrintsFront : Question → Option (List ℕ) → Option (List ℕ) → Type 0
PrintsFront (Apply file) before after = (outcomes : List (Option Refusal))
    × Appends before after (outcome_lines 1 outcomes)
PrintsFront asked before after = after ≡ before

-- the message about the socket with this name: why it cannot be asked, or that no answer came
abbrev pub SaysOfSocket : List ℕ → List ℕ → Type 0
SaysOfSocket name said = (why : SocketReason) × Tells (codes "control") name (socket_text why) said

-- the message about the command file with this name: why it is not read, its first fault, or that it is for another end
abbrev pub SaysOfCommands : List ℕ → List ℕ → Type 0
SaysOfCommands name said = TellsOfFile (codes "commands") name said
    ⊎ ((octets : List ℕ) × IsSaidOfFile octets said)
    ⊎ Tells (codes "commands") name (codes "for another end") said

-- the message if this question is put over the socket with this name
abbrev pub SaysOfAsking : List ℕ → Question → List ℕ → Type 0
SaysOfAsking name (Apply file) said = SaysOfSocket name said ⊎ SaysOfCommands file.now said
SaysOfAsking name asked said = SaysOfSocket name said

-- there is no message
abbrev pub SaysNothing : List ℕ → Type 0
SaysNothing said = ⊥

-- the failures of `ask` before each names its socket or file: nobody answers, or the relay ended; the command file, or
-- a message that satisfies this predicate; memory and standard output
abbrev pub IsOfAsking : (List ℕ → Type 0) → Failure → Type 0
IsOfAsking Says (failures.Disk (disk.Journal journal.Stopped)) = ⊤
IsOfAsking Says failures.Control = ⊤
IsOfAsking Says failures.Commands = ⊤
IsOfAsking Says (failures.Said text) = Says (string_bytes text)
IsOfAsking Says failures.Memory = ⊤
IsOfAsking Says failures.Output = ⊤
IsOfAsking Says other = ⊥

-- the failures of `ask`: the relay ended; a message about the socket with this name, or about the command file; memory
-- and standard output
abbrev pub AskFails : List ℕ → Question → Failure → Type 0
AskFails name asked (failures.Disk (disk.Journal journal.Stopped)) = ⊤
AskFails name asked (failures.Said text) = SaysOfAsking name asked (string_bytes text)
AskFails name asked failures.Memory = ⊤
AskFails name asked failures.Output = ⊤
AskFails name asked other = ⊥

-- a failure reports why the socket with this name cannot be asked
abbrev pub TellsOfSocket : List ℕ → Failure → Type 0
TellsOfSocket name failure = Complains (SaysOfSocket name) failure

-- a failure reports that no answer came from it
abbrev pub IsUnanswered : List ℕ → Failure → Type 0
IsUnanswered name failure = Complains (Tells (codes "control") name (socket_text reason.NoAnswer)) failure

-- a failure reports that a command file is for another end; for a question without a command file, that no answer came
abbrev pub IsForOther : List ℕ → Question → Failure → Type 0
IsForOther name (Apply file) failure = Complains (Tells (codes "commands") file.now (codes "for another end")) failure
IsForOther name asked failure = IsUnanswered name failure

-- the first line of the text of the endpoint with this SCI
abbrev pub sci_line : List ℕ → List ℕ
sci_line sci = line (codes "sci " ++ encode_lower sci)

-- "sci ", the first characters of the text of each endpoint
abbrev pub sci_word : List ℕ
sci_word = 0x73 ∷ 0x63 ∷ 0x69 ∷ 0x20 ∷ []

-- a text is that of some endpoint
abbrev pub is_of_endpoint : List ℕ → Bool
is_of_endpoint text = starts_with nat_eq text sci_word

-- why a text is not that of the end named by a command file: it is that of another end, or of none
abbrev pub failure_of_other : List ℕ → Failure
failure_of_other text = if is_of_endpoint text then failures.Commands else failures.Control

-- what the status of an answer means if the request was not carried out: the relay ended or did not take it, there is
-- no room for the report, or the answer is invalid
abbrev pub failure_in : ℕ → Failure
failure_in status = if status == 4 then failures.Disk (disk.Journal journal.Stopped)
    else (if status == 5 then failures.Memory else failures.Control)

-- ---- a request and its answer

-- a request is sent, and its answer is read: a text and a status
abbrev pub Asks : Option Conversation → Request → List ℕ → ℕ → Option Conversation → Type 0
Asks old asked text status new = (between : Option Conversation)
    × Sends old (request_line asked ++ 10 ∷ []) between × ReadsAnswer between text status new

-- why a request has no answer: no memory, or no relay
abbrev pub IsUnheard : Failure → Type 0
IsUnheard failure = (failure ≡ failures.Memory) ⊎ (failure ≡ failures.Control)

-- no answer is read: there is no memory, after a part of it; or no relay, and what is read has no end
abbrev pub ReadsInVain : Option Conversation → Failure → Option Conversation → Type 0
ReadsInVain old failure new = ((failure ≡ failures.Memory) × ReadsSome old new)
    ⊎ ((failure ≡ failures.Control) × ReadsNoEnd old new)

-- a request has no answer: its first octets are sent, or none; or it is sent whole, and no answer is read
abbrev pub AsksInVain : Option Conversation → Request → Failure → Option Conversation → Type 0
AsksInVain old asked failure new = (IsUnheard failure × SendsSome old (request_line asked ++ 10 ∷ []) new)
    ⊎ ((between : Option Conversation) × Sends old (request_line asked ++ 10 ∷ []) between
    × ReadsInVain between failure new)

-- ---- a text that is printed

-- nothing more is said
abbrev pub SaysNoMore : Option Conversation → Option Conversation → Type 0
SaysNoMore old new = new ≡ old

-- and nothing is in the way of the text of the answer
abbrev pub FailsNowhere : Option Conversation → Failure → Option Conversation → Type 0
FailsNowhere old failure new = ⊥

-- a relay that was asked to end is not found to have ended
abbrev pub FailsToEnd : Option Conversation → Failure → Option Conversation → Type 0
FailsToEnd old failure new = OutlivesNot old new × (failure ≡ failures.Control)

-- a request is sent, its answer is read, and then this is done
abbrev pub AsksThen : (Option Conversation → Option Conversation → Type 0) → Option Conversation → Request → List ℕ → ℕ
    → Option Conversation → Type 0
AsksThen Follows old asked text status new =
    (between : Option Conversation) × Asks old asked text status between × Follows between new

-- why a text is not printed as JSON: the output fails, there is no memory, or the text is not UTF-8
abbrev pub IsNoJson : List ℕ → Failure → Type 0
IsNoJson text failure = (failure ≡ failures.Output) ⊎ (failure ≡ failures.Memory)
    ⊎ ((failure ≡ failures.Control) × (IsUtf8 text → ⊥))

-- why a text is not printed: as JSON for one of these reasons, otherwise because the output fails
abbrev pub IsUnprinted : Bool → List ℕ → Failure → Type 0
IsUnprinted true text failure = IsNoJson text failure
IsUnprinted false text failure = failure ≡ failures.Output

-- an answer means that the request was not carried out
abbrev pub IsUndone : ℕ → Failure → Type 0
IsUndone status failure = (status ≢ 0) × (failure ≡ failure_in status)

-- a request has no answer, or one that means that it was not carried out
abbrev pub LacksDone : Option Conversation → Request → Failure → Option Conversation → Type 0
LacksDone old asked failure new = AsksInVain old asked failure new
    ⊎ ((text : List ℕ) × (status : ℕ) × Asks old asked text status new × IsUndone status failure)

-- why a text that a relay was asked for is not printed: the request was not carried out; what is done next fails; or
-- that is done, and the text cannot be printed
abbrev pub LacksText : Request → (Option Conversation → Option Conversation → Type 0)
    → (Option Conversation → Failure → Option Conversation → Type 0) → Bool → Option Conversation → Failure
    → Option Conversation → Type 0
LacksText asked Follows Fails is_json old failure new = LacksDone old asked failure new
    ⊎ ((text : List ℕ) × (between : Option Conversation) × Asks old asked text 0 between × Fails between failure new)
    ⊎ ((text : List ℕ) × AsksThen Follows old asked text 0 new × IsUnprinted is_json text failure)

-- a relay is asked for a text, then this is done, and the text is printed, as JSON if requested; or that fails, and
-- nothing is printed before the output fails
pub record AsksForText {W : Type 0} (contents : W → Option (List ℕ)) (has_failed : W → Bool) (asked : Request)
    (Follows : Option Conversation → Option Conversation → Type 0)
    (Fails : Option Conversation → Failure → Option Conversation → Type 0) (is_json : Bool) (old : Option Conversation)
    (before : W) (result : Result Status Failure) (new : Option Conversation) (after : W) : Type 0 where
  pub printed : IfOk result (λ status. (text : List ℕ) × AsksThen Follows old asked text 0 new
      × Appends (contents before) (contents after) (in_form is_json text) × (status ≡ ends.Done))
  pub failed : IfErr result (λ failure. LacksText asked Follows Fails is_json old failure new)
  pub silent : IfErr result (λ failure. failure ≢ failures.Output → after ≡ before)
  pub broken : IfErr result (λ failure. failure ≡ failures.Output → has_failed after ≡ true)

-- ---- the commands of a file

-- the text of the answer to a command that is refused
abbrev pub refusal_line : Refusal → List ℕ
refusal_line refusal = line (codes "refused " ++ refusal_name refusal)

-- what an answer to a command means: it is accepted, or refused for this reason, or neither
pub record IsOutcome (status : ℕ) (text : List ℕ) (outcome : Result (Option Refusal) Failure) : Type 0 where
  pub kept : (outcome ≡ Ok None) ↔ (status ≡ 0)
  pub refused : (refusal : Refusal) → outcome ≡ Ok (Some refusal) → (status ≡ 3) × (text ≡ refusal_line refusal)
  pub failed : IfErr outcome (λ failure. (failure ≡ failure_in status)
      × (status ≡ 3 → (refusal : Refusal) → text ≢ refusal_line refusal))

-- a command is sent, and its answer means this
abbrev pub AsksOne : Option Conversation → Command → Result (Option Refusal) Failure → Option Conversation → Type 0
AsksOne old command outcome new = (text : List ℕ) × (status : ℕ)
    × Asks old (request.Apply command) text status new × IsOutcome status text outcome

-- these commands are sent, each once and after the answer to the one before, and each is accepted or refused
abbrev pub AsksEach : Option Conversation → List Command → List (Option Refusal) → Option Conversation → Type 0
AsksEach old [] [] new = new ≡ old
AsksEach old (command ∷ commands) (outcome ∷ outcomes) new =
    (between : Option Conversation) × AsksOne old command (Ok outcome) between × AsksEach between commands outcomes new
AsksEach old commands outcomes new = ⊥

-- a command is sent, and is neither accepted nor refused: it has no answer, or one that means neither
abbrev pub LacksOutcome : Option Conversation → Command → Failure → Option Conversation → Type 0
LacksOutcome old command failure new = AsksInVain old (request.Apply command) failure new
    ⊎ AsksOne old command (Err failure) new

-- a command is sent, and ends the run: it is neither accepted nor refused, or its line cannot be printed
abbrev pub EndsAsking : Option Conversation → Command → Failure → Option Conversation → Type 0
EndsAsking old command failure new = LacksOutcome old command failure new
    ⊎ ((outcome : Option Refusal) × AsksOne old command (Ok outcome) new × (failure ≡ failures.Output))

-- all of these commands are sent, and the line of each is printed once it is answered
pub record AsksAll (old : Option Conversation) (commands : List Command) (before after : Option (List ℕ))
    (status : Status) (new : Option Conversation) : Type 0 where
  pub outcomes : List (Option Refusal)
  pub asked : AsksEach old commands outcomes new
  pub printed : Appends before after (outcome_lines 1 outcomes)
  pub status_is : status ≡ outcomes_status outcomes

-- Some of these commands are sent, and the next one ends the run: none after it is sent. Unless its line could not be
-- printed, exactly the lines of the commands before it are printed
pub record AsksSome (old : Option Conversation) (commands : List Command) (before after : Option (List ℕ))
    (failure : Failure) (new : Option Conversation) : Type 0 where
  pub front : List Command
  pub command : Command
  pub rest : List Command
  pub all : front ++ command ∷ rest ≡ commands
  pub outcomes : List (Option Refusal)
  pub between : Option Conversation
  pub asked : AsksEach old front outcomes between
  pub ended : EndsAsking between command failure new
  pub printed : failure ≢ failures.Output → Appends before after (outcome_lines 1 outcomes)

-- a relay is sent commands, and a line is printed for each; or that fails, after the lines of those before
pub record AppliesEach {W : Type 0} (contents : W → Option (List ℕ)) (has_failed : W → Bool) (commands : List Command)
    (old : Option Conversation) (before : W) (result : Result Status Failure) (new : Option Conversation)
    (after : W) : Type 0 where
  pub applied : IfOk result (λ status. AsksAll old commands (contents before) (contents after) status new)
  pub ended : IfErr result (λ failure. AsksSome old commands (contents before) (contents after) failure new)
  pub broken : IfErr result (λ failure. failure ≡ failures.Output → has_failed after ≡ true)

-- a relay is asked for its text, and that is the text of the endpoint with this SCI
abbrev pub ShowsOwn : Option Conversation → List ℕ → Option Conversation → Type 0
ShowsOwn old sci new = (text : List ℕ) × Begins (sci_line sci) text × Asks old request.Show text 0 new

-- the same if a command file names an end, by its SCI; if not, it is not asked
abbrev pub ShowsEnd : Option Conversation → Option (List ℕ) → Option Conversation → Type 0
ShowsEnd old None new = new ≡ old
ShowsEnd old (Some sci) new = ShowsOwn old sci new

-- why an answer is not the text of the endpoint with this SCI; or there is no memory to compare it
abbrev pub IsOther : List ℕ → ℕ → List ℕ → Failure → Type 0
IsOther sci status text failure = IsUndone status failure
    ⊎ ((status ≡ 0) × ((failure ≡ failures.Memory)
    ⊎ ((¬ Begins (sci_line sci) text) × (failure ≡ failure_of_other text))))

-- a relay is asked for its text, and does not show that it is the endpoint with this SCI
abbrev pub LacksOwn : Option Conversation → List ℕ → Failure → Option Conversation → Type 0
LacksOwn old sci failure new = AsksInVain old request.Show failure new
    ⊎ ((text : List ℕ) × (status : ℕ) × Asks old request.Show text status new × IsOther sci status text failure)

-- the same for the end that a command file names
abbrev pub LacksEnd : Option Conversation → Option (List ℕ) → Failure → Option Conversation → Type 0
LacksEnd old None failure new = ⊥
LacksEnd old (Some sci) failure new = LacksOwn old sci failure new

-- a command file is not read, or has a fault
abbrev pub IsOfFile : List ℕ → Failure → Type 0
IsOfFile file failure = IsUnread file failure ⊎ ((octets : List ℕ) × Complains (IsSaidOfFile octets) failure)

-- The commands of a file are sent to a relay, once the relay has shown that it is the end that the file names, if it
-- names one. If it is another end, or the file is not read, no command is sent and nothing is printed
abbrev pub AppliesFile : {F W : Type 0} → (F → Option (List ℕ)) → (W → Option (List ℕ)) → (W → Bool) → List ℕ
    → Option Conversation → W → Result Status Failure → Option Conversation → W → Type 0
AppliesFile remaining contents has_failed file old before result new after =
    ((failure : Failure) × (result ≡ Err failure) × IsOfFile file failure × (new ≡ old) × (after ≡ before))
    ⊎ ((end : Option (List ℕ)) × (commands : List Command) × SaidByFile remaining end commands
    × (((failure : Failure) × (result ≡ Err failure) × LacksEnd old end failure new × (after ≡ before))
    ⊎ ((between : Option Conversation) × ShowsEnd old end between
    × AppliesEach contents has_failed commands between before result new after)))

-- ---- a question

-- a question is put to a relay over some connection, and what comes of it is printed
abbrev pub Converses : {F W : Type 0} → (F → Option (List ℕ)) → (W → Option (List ℕ)) → (W → Bool) → Question → Bool
    → Option Conversation → W → Result Status Failure → Option Conversation → W → Type 0
Converses remaining contents has_failed question.Show is_json old before result new after =
    AsksForText contents has_failed request.Show SaysNoMore FailsNowhere is_json old before result new after
Converses remaining contents has_failed question.Counters is_json old before result new after =
    AsksForText contents has_failed request.Counters SaysNoMore FailsNowhere is_json old before result new after
Converses remaining contents has_failed question.Keys is_json old before result new after =
    AsksForText contents has_failed request.Keys SaysNoMore FailsNowhere is_json old before result new after
Converses remaining contents has_failed question.Traffic is_json old before result new after =
    AsksForText contents has_failed request.Traffic SaysNoMore FailsNowhere is_json old before result new after
Converses remaining contents has_failed question.About is_json old before result new after =
    AsksForText contents has_failed request.About SaysNoMore FailsNowhere is_json old before result new after
Converses remaining contents has_failed question.Stop is_json old before result new after =
    AsksForText contents has_failed request.Stop Outlives FailsToEnd false old before result new after
Converses remaining contents has_failed (Apply file) is_json old before result new after =
    AppliesFile remaining contents has_failed file.now old before result new after
