-- What a relay was asked, and what comes of it.
use Rattle.std.proofs.Common.{◌≡◌, ◌≢◌, ◌⊎◌, ◌∙◌, inl, inr, ℕ, ◌==◌, Bool, true, false, if◌then◌else◌, List, []}
use Rattle.std.proofs.Common.{◌++◌, IfErr, IfOk, Some, None, ◌↔◌, IsTrue, drop, length, Option, Result, Ok, Err, ap}
use Rattle.std.proofs.Common.{Bor, codes, refl, string_bytes, subst, sym}
use Rattle.std.specs.Io.KnownBytes.{Appends}
use Rattle.std.proofs.KnownBytes.{Appends-nil}
use Rattle.macs_config.specs.declared.command.Command.{Command}
use Rattle.macs_commands.specs.declared.requests.request.Request.{Request}
use Rattle.macs_commands.specs.declared.requests.request.Request.TheVariants as request
use Rattle.macs_control.specs.Asking.{Conversation, Outlives}
use Rattle.macs_program.specs.Asking.{AppliesEach, AppliesFile, AskFails, AsksForText, AsksInVain, Converses}
use Rattle.macs_program.specs.Asking.{EndsAsking, FailsNowhere, FailsToEnd, IsForOther, IsOfAsking, IsOther}
use Rattle.macs_program.specs.Asking.{IsUnanswered}
use Rattle.macs_program.specs.Asking.{IsUnheard, IsUnprinted, LacksDone, LacksEnd, LacksOutcome, LacksText}
use Rattle.macs_program.specs.Asking.{PrintsAnswer, PrintsFront, SaysNoMore, SaysNothing, SaysOfAsking}
use Rattle.macs_program.specs.Asking.{SaysOfCommands, SaysOfSocket, TellsOfSocket, failure_in, is_of_endpoint}
use Rattle.macs_offline.specs.Checking.{IsSaidOfFile}
use Rattle.macs_cli.specs.Objects.{in_form}
use Rattle.macs_cli.specs.Reasons.{Complains, IsUnread, Tells, TellsOfFile}
use Rattle.macs_program.specs.Sockets.{socket_text}
use Rattle.macs_program.specs.declared.socket_reason.SocketReason.{SocketReason}
use Rattle.macs_program.specs.declared.socket_reason.SocketReason.TheVariants as reason
use Rattle.macs_cli.specs.declared.words.action.Question.{Question}
use Rattle.macs_cli.specs.declared.words.action.Question.TheVariants as question
use Rattle.macs_journal.specs.declared.fault.JournalFault.TheVariants as journal
use Rattle.macs_cli.specs.declared.failure.DiskFault.TheVariants as disk
use Rattle.macs_cli.specs.declared.failure.Failure.TheVariants as failures
use Rattle.macs_cli.specs.declared.failure.Failure.{Failure}
use Rattle.macs_cli.specs.declared.failure.Failure.TheVariants.{Commands, Control, Memory, Output}
use Rattle.macs_cli.specs.declared.status.Status.{Status}
use Rattle.macs_cli.specs.declared.status.Status.TheVariants as ends
use Rattle.macs_record.specs.Sectors.{Begins}

-- a text begins with a line
pub shown-by : (line text front octets : List ℕ) (is : Bool) → front ≡ line → octets ≡ text
    → (is ≡ true → octets ≡ front ++ drop (length front) octets)
    → ((rest : List ℕ) → octets ≡ front ++ rest → is ≡ true) → IsTrue is ↔ Begins line text
shown-by line text front octets is same whole begun back = (
  λ held. (
    drop (length front) octets,
    sym whole ∙ begun held
        ∙ ap (λ (l : List ℕ). l ++ drop (length front) octets) same,
  ),
  λ begins. back begins.0 (whole ∙ begins.1 ∙ ap (λ (l : List ℕ). l ++ begins.0) (sym same)),
)

-- ---- what comes of it

-- no memory, no relay, no commands, or something that is said, for which this holds
abbrev pub IsEarly : (List ℕ → Type 0) → Failure → Type 0
IsEarly Says failure = (failure ≡ Memory) ⊎ (failure ≡ Control) ⊎ (failure ≡ Commands)
    ⊎ ((text : _) × (failure ≡ failures.Said text) × Says (string_bytes text))

module _ (Says : List ℕ → Type 0) where
  early-asking : (failure : Failure) → IsEarly Says failure → IsOfAsking Says failure
  early-asking failure (inl memory) = subst (IsOfAsking Says) (sym memory) tt
  early-asking failure (inr (inl control)) = subst (IsOfAsking Says) (sym control) tt
  early-asking failure (inr (inr (inl commands))) = subst (IsOfAsking Says) (sym commands) tt
  early-asking failure (inr (inr (inr (text, said, says)))) = subst (IsOfAsking Says) (sym said) says

  early-no-output : (failure : Failure) → IsEarly Says failure → failure ≢ Output
  early-no-output failure (inl memory) is = let e = sym memory ∙ is in cc
  early-no-output failure (inr (inl control)) is = let e = sym control ∙ is in cc
  early-no-output failure (inr (inr (inl commands))) is = let e = sym commands ∙ is in cc
  early-no-output failure (inr (inr (inr (text, said, says)))) is = let e = sym said ∙ is in cc

  -- what holds of all that is said
  pub asking-more : (Others : List ℕ → Type 0) → ((said : List ℕ) → Says said → Others said) → (failure : Failure)
      → IsOfAsking Says failure → IsOfAsking Others failure
  asking-more Others more (failures.Disk (disk.Journal journal.Stopped)) is = tt
  asking-more Others more Control is = tt
  asking-more Others more Commands is = tt
  asking-more Others more (failures.Said text) is = more (string_bytes text) is
  asking-more Others more Memory is = tt
  asking-more Others more Output is = tt
  asking-more Others more other is = absurd is

  pub early-more : (Others : List ℕ → Type 0) → ((said : List ℕ) → Says said → Others said) → (failure : Failure)
      → IsEarly Says failure → IsEarly Others failure
  early-more Others more failure (inl memory) = inl memory
  early-more Others more failure (inr (inl control)) = inr (inl control)
  early-more Others more failure (inr (inr (inl commands))) = inr (inr (inl commands))
  early-more Others more failure (inr (inr (inr (text, said, says)))) =
      inr (inr (inr (text, said, more (string_bytes text) says)))

-- before a command is sent there is no message, and nothing was printed
abbrev pub IsBeforeCommands : Failure → Type 0
IsBeforeCommands failure = IsOfAsking SaysNothing failure × (failure ≢ Output)

by_status : (a b : Bool) → IsBeforeCommands
    (if a then failures.Disk (disk.Journal journal.Stopped) else (if b then Memory else Control))
by_status true b = (tt, λ e. cc)
by_status false true = (tt, λ e. cc)
by_status false false = (tt, λ e. cc)

-- a status of an answer says none of these but for the relay, or its memory
pub not-shown : (status : ℕ) → IsBeforeCommands (failure_in status)
not-shown status = by_status (status == 4) (status == 5)

pub complained : (Holds : List ℕ → Type 0) (failure : Failure) → Complains Holds failure → IsEarly Holds failure
complained Holds failure (inl memory) = inl memory
complained Holds failure (inr (text, is, holds)) = inr (inr (inr (text, is, holds)))

pub before-unheard : (failure : Failure) → IsUnheard failure → IsBeforeCommands failure
before-unheard failure (inl memory) = subst IsBeforeCommands (sym memory) (tt, λ e. cc)
before-unheard failure (inr control) = subst IsBeforeCommands (sym control) (tt, λ e. cc)

-- a request without an answer
pub before-vain : (old new : Option Conversation) (asked : Request) (failure : Failure)
    → AsksInVain old asked failure new → IsBeforeCommands failure
before-vain old new asked failure (inl (unheard, sent)) = before-unheard failure unheard
before-vain old new asked failure (inr (between, sent, inl (memory, read))) = before-unheard failure (inl memory)
before-vain old new asked failure (inr (between, sent, inr (gone, read))) = before-unheard failure (inr gone)

pub before-status : (status : ℕ) (failure : Failure) → failure ≡ failure_in status → IsBeforeCommands failure
before-status status failure is = subst IsBeforeCommands (sym is) (not-shown status)

before_other_by : (b : Bool) → IsBeforeCommands (if b then Commands else Control)
before_other_by true = (tt, λ e. cc)
before_other_by false = (tt, λ e. cc)

before-other : (sci : List ℕ) (status : ℕ) (text : List ℕ) (failure : Failure) → IsOther sci status text failure
    → IsBeforeCommands failure
before-other sci status text failure (inl (some, is)) = before-status status failure is
before-other sci status text failure (inr (none, inl memory)) = before-unheard failure (inl memory)
before-other sci status text failure (inr (none, inr (another, is))) =
    subst IsBeforeCommands (sym is) (before_other_by (is_of_endpoint text))

-- a relay that does not show that it is the end that a file names
pub before-end : (old new : Option Conversation) (end : Option (List ℕ)) (failure : Failure)
    → LacksEnd old end failure new → IsBeforeCommands failure
before-end old new None failure lacks = absurd lacks
before-end old new (Some sci) failure (inl vain) = before-vain old new request.Show failure vain
before-end old new (Some sci) failure (inr (text, status, asked, other)) = before-other sci status text failure other

-- a command that is neither accepted nor refused
pub before-outcome : (old new : Option Conversation) (command : Command) (failure : Failure)
    → LacksOutcome old command failure new → IsBeforeCommands failure
before-outcome old new command failure (inl vain) = before-vain old new (request.Apply command) failure vain
before-outcome old new command failure (inr (text, status, asked, is)) = before-status status failure is.failed.0

ended-asking : (old new : Option Conversation) (command : Command) (failure : Failure)
    → EndsAsking old command failure new → IsOfAsking SaysNothing failure
ended-asking old new command failure (inl lacks) = (before-outcome old new command failure lacks).0
ended-asking old new command failure (inr (outcome, asked, output)) =
    subst (IsOfAsking SaysNothing) (sym output) tt

-- a text that is not printed
lacking-done : (old new : Option Conversation) (asked : Request) (failure : Failure) → LacksDone old asked failure new
    → IsOfAsking SaysNothing failure
lacking-done old new asked failure (inl vain) = (before-vain old new asked failure vain).0
lacking-done old new asked failure (inr (text, status, asks, undone)) = (before-status status failure undone.1).0

unprinted-asking : (is_json : Bool) (text : List ℕ) (failure : Failure) → IsUnprinted is_json text failure
    → IsOfAsking SaysNothing failure
unprinted-asking false text failure output = subst (IsOfAsking SaysNothing) (sym output) tt
unprinted-asking true text failure (inl output) = subst (IsOfAsking SaysNothing) (sym output) tt
unprinted-asking true text failure (inr (inl memory)) = (before-unheard failure (inl memory)).0
unprinted-asking true text failure (inr (inr (control, none))) = (before-unheard failure (inr control)).0

module _ (asked : Request) (Follows : Option Conversation → Option Conversation → Type 0)
    (Fails : Option Conversation → Failure → Option Conversation → Type 0)
    (ours : (between : Option Conversation) (failure : Failure) (new : Option Conversation) → Fails between failure new
    → IsOfAsking SaysNothing failure) where
  lacking-text : (is_json : Bool) (old new : Option Conversation) (failure : Failure)
      → LacksText asked Follows Fails is_json old failure new → IsOfAsking SaysNothing failure
  lacking-text is_json old new failure (inl lacks) = lacking-done old new asked failure lacks
  lacking-text is_json old new failure (inr (inl (text, between, asks, fails))) = ours between failure new fails
  lacking-text is_json old new failure (inr (inr (text, done, unprinted))) =
      unprinted-asking is_json text failure unprinted

nowhere-asking : (between : Option Conversation) (failure : Failure) (new : Option Conversation)
    → FailsNowhere between failure new → IsOfAsking SaysNothing failure
nowhere-asking between failure new none = absurd none

ending-asking : (between : Option Conversation) (failure : Failure) (new : Option Conversation)
    → FailsToEnd between failure new → IsOfAsking SaysNothing failure
ending-asking between failure new (lasts, is) = subst (IsOfAsking SaysNothing) (sym is) tt

pub no-commands : (name : List ℕ) (failure : Failure)
    → IsUnread name failure ⊎ ((octets : List ℕ) × Complains (IsSaidOfFile octets) failure)
    → IsEarly (SaysOfCommands name) failure
no-commands name failure (inl unread) =
    early-more (TellsOfFile (codes "commands") name) (SaysOfCommands name) (λ said is. inl is) failure
    (complained (TellsOfFile (codes "commands") name) failure unread)
no-commands name failure (inr (octets, complains)) =
    early-more (IsSaidOfFile octets) (SaysOfCommands name) (λ said is. inr (inl (octets, is))) failure
    (complained (IsSaidOfFile octets) failure complains)

complained-no-output : (Holds : List ℕ → Type 0) (failure : Failure) → Complains Holds failure → failure ≢ Output
complained-no-output Holds failure complains = early-no-output Holds failure (complained Holds failure complains)

-- nobody is asked, for this reason
pub not-connected : (name : List ℕ) (why : SocketReason) (failure : Failure)
    → Complains (Tells (codes "control") name (socket_text why)) failure → TellsOfSocket name failure
not-connected name why failure (inl memory) = inl memory
not-connected name why failure (inr (text, is, tells)) = inr (text, is, (why, tells))

module _ (name : List ℕ) (asked : Question) where
  -- a failure says of which socket or file it is
  pub record Named (failure named : Failure) : Type 0 where
    pub gone : failure ≡ Control → IsUnanswered name named
    pub other : failure ≡ Commands → IsForOther name asked named
    pub same : failure ≢ Control → failure ≢ Commands → named ≡ failure

  complained-so : (Holds : List ℕ → Type 0) → ((said : List ℕ) → Holds said → SaysOfAsking name asked said)
      → (failure : Failure) → Complains Holds failure → AskFails name asked failure
  complained-so Holds more failure (inl memory) = subst (AskFails name asked) (sym memory) tt
  complained-so Holds more failure (inr (text, is, holds)) =
      subst (AskFails name asked) (sym is) (more (string_bytes text) holds)

of-socket : (name : List ℕ) (asked : Question) (said : List ℕ) → SaysOfSocket name said → SaysOfAsking name asked said
of-socket name question.Show said is = is
of-socket name question.Counters said is = is
of-socket name question.Keys said is = is
of-socket name question.Traffic said is = is
of-socket name question.About said is = is
of-socket name question.Stop said is = is
of-socket name (question.Apply file) said is = inl is

unanswered-so : (name : List ℕ) (asked : Question) (failure : Failure) → IsUnanswered name failure
    → AskFails name asked failure
unanswered-so name asked failure complains =
    complained-so name asked (SaysOfSocket name) (of-socket name asked) failure
    (not-connected name reason.NoAnswer failure complains)

other-so : (name : List ℕ) (asked : Question) (failure : Failure) → IsForOther name asked failure
    → AskFails name asked failure
other-so name question.Show failure complains = unanswered-so name question.Show failure complains
other-so name question.Counters failure complains = unanswered-so name question.Counters failure complains
other-so name question.Keys failure complains = unanswered-so name question.Keys failure complains
other-so name question.Traffic failure complains = unanswered-so name question.Traffic failure complains
other-so name question.About failure complains = unanswered-so name question.About failure complains
other-so name question.Stop failure complains = unanswered-so name question.Stop failure complains
other-so name (question.Apply file) failure complains =
    complained-so name (question.Apply file) (Tells (codes "commands") file.now (codes "for another end"))
    (λ said is. inr (inr (inr is))) failure complains

unanswered-no-output : (name : List ℕ) (failure : Failure) → IsUnanswered name failure → failure ≢ Output
unanswered-no-output name failure complains =
    complained-no-output (Tells (codes "control") name (socket_text reason.NoAnswer)) failure complains

other-no-output : (name : List ℕ) (asked : Question) (failure : Failure) → IsForOther name asked failure
    → failure ≢ Output
other-no-output name question.Show failure complains = unanswered-no-output name failure complains
other-no-output name question.Counters failure complains = unanswered-no-output name failure complains
other-no-output name question.Keys failure complains = unanswered-no-output name failure complains
other-no-output name question.Traffic failure complains = unanswered-no-output name failure complains
other-no-output name question.About failure complains = unanswered-no-output name failure complains
other-no-output name question.Stop failure complains = unanswered-no-output name failure complains
other-no-output name (question.Apply file) failure complains =
    complained-no-output (Tells (codes "commands") file.now (codes "for another end")) failure complains

module _ (name : List ℕ) (asked : Question) where
  pub named-fails : (failure named : Failure) → IsOfAsking (SaysOfAsking name asked) failure
      → Named name asked failure named → AskFails name asked named
  named-fails Control named ours is = unanswered-so name asked named (is.gone refl)
  named-fails Commands named ours is = other-so name asked named (is.other refl)
  named-fails (failures.Disk (disk.Journal journal.Stopped)) named ours is =
      subst (AskFails name asked) (sym (is.same (λ e. cc) (λ e. cc))) tt
  named-fails (failures.Said text) named ours is =
      subst (AskFails name asked) (sym (is.same (λ e. cc) (λ e. cc))) ours
  named-fails Memory named ours is = subst (AskFails name asked) (sym (is.same (λ e. cc) (λ e. cc))) tt
  named-fails Output named ours is = subst (AskFails name asked) (sym (is.same (λ e. cc) (λ e. cc))) tt
  named-fails failure named ours is = absurd ours

  -- nobody is asked
  pub unreached-fails : (failure : Failure) → TellsOfSocket name failure → AskFails name asked failure
  unreached-fails failure complains =
      complained-so name asked (SaysOfSocket name) (of-socket name asked) failure complains

  pub unreached-unbroken : (failure : Failure) (has_failed : Bool) → TellsOfSocket name failure → failure ≡ Output
      → has_failed ≡ true
  unreached-unbroken failure has_failed complains output =
      absurd (complained-no-output (SaysOfSocket name) failure complains output)

  pub output-named : (failure named : Failure) → IsOfAsking (SaysOfAsking name asked) failure
      → Named name asked failure named → named ≡ Output → failure ≡ Output
  output-named Control named ours is e = absurd (unanswered-no-output name named (is.gone refl) e)
  output-named Commands named ours is e = absurd (other-no-output name asked named (is.other refl) e)
  output-named (failures.Disk fault) named ours is e = sym (is.same (λ e. cc) (λ e. cc)) ∙ e
  output-named (failures.Said text) named ours is e = sym (is.same (λ e. cc) (λ e. cc)) ∙ e
  output-named Memory named ours is e = sym (is.same (λ e. cc) (λ e. cc)) ∙ e
  output-named Output named ours is e = refl
  output-named failure named ours is e = absurd ours

  pub named-output : (failure named : Failure) → Named name asked failure named → named ≢ Output → failure ≢ Output
  named-output failure named is other output =
      other (is.same (λ e. let f = sym output ∙ e in cc) (λ e. let f = sym output ∙ e in cc) ∙ output)

-- ---- what is printed, and how it fails, before each failure names its socket or file

-- these hold after a question was put
pub record PutSo (Says : List ℕ → Type 0) (asked : Question) (is_json : Bool) (before after : Option (List ℕ))
    (has_failed : Bool) (result : Result Status Failure) : Type 0 where
  pub printed : IfOk result (PrintsAnswer asked is_json before after)
  pub failed : IfErr result (IsOfAsking Says)
  pub front : IfErr result (λ failure. failure ≢ Output → PrintsFront asked before after)
  pub broken : IfErr result (λ failure. failure ≡ Output → has_failed ≡ true)

-- nothing was printed
pub nothing-printed : (asked : Question) (before : Option (List ℕ)) → PrintsFront asked before before
nothing-printed question.Show before = refl
nothing-printed question.Counters before = refl
nothing-printed question.Keys before = refl
nothing-printed question.Traffic before = refl
nothing-printed question.About before = refl
nothing-printed question.Stop before = refl
nothing-printed (question.Apply file) before = ([], Appends-nil before)

module _ {W : Type 0} (contents : W → Option (List ℕ)) (has_failed : W → Bool) (name : List ℕ)
    (old : Option Conversation) (before : W) (new : Option Conversation) (after : W) where
  -- a text was printed, or nothing
  pub record TextSo (Says : List ℕ → Type 0) (is_json : Bool) (result : Result Status Failure) : Type 0 where
    pub printed : IfOk result (λ status. (text : List ℕ)
        × Appends (contents before) (contents after) (in_form is_json text) × (status ≡ ends.Done))
    pub failed : IfErr result (IsOfAsking Says)
    pub front : IfErr result (λ failure. failure ≢ Output → contents after ≡ contents before)
    pub broken : IfErr result (λ failure. failure ≡ Output → has_failed after ≡ true)

  text-so : (Says : List ℕ → Type 0) (asked : Request) (Follows : Option Conversation → Option Conversation → Type 0)
      (Fails : Option Conversation → Failure → Option Conversation → Type 0)
      → ((between : Option Conversation) (failure : Failure) (end : Option Conversation) → Fails between failure end
      → IsOfAsking SaysNothing failure)
      → (is_json : Bool) (result : Result Status Failure)
      → AsksForText contents has_failed asked Follows Fails is_json old before result new after
      → TextSo Says is_json result
  text-so Says asked Follows Fails ours is_json (Ok status) is = record {
    printed = (is.printed.0, is.printed.2, is.printed.3);
    failed = tt;
    front = tt;
    broken = tt;
  }
  text-so Says asked Follows Fails ours is_json (Err failure) is = record {
    printed = tt;
    failed = asking-more SaysNothing Says (λ said none. absurd none) failure
        (lacking-text asked Follows Fails ours is_json old new failure is.failed);
    front = λ other. ap contents (is.silent other);
    broken = is.broken;
  }

  each-so : (Says : List ℕ → Type 0) (file : Bor (List ℕ)) (is_json : Bool) (commands : List Command)
      (between : Option Conversation) (result : Result Status Failure)
      → AppliesEach contents has_failed commands between before result new after
      → PutSo Says (question.Apply file) is_json (contents before) (contents after) (has_failed after) result
  each-so Says file is_json commands between (Ok status) is = record {
    printed = (is.applied.outcomes, is.applied.printed, is.applied.status_is);
    failed = tt;
    front = tt;
    broken = tt;
  }
  each-so Says file is_json commands between (Err failure) is = record {
    printed = tt;
    failed = asking-more SaysNothing Says (λ said none. absurd none) failure
        (ended-asking is.ended.between new is.ended.command failure is.ended.ended);
    front = λ other. (is.ended.outcomes, is.ended.printed other);
    broken = is.broken;
  }

  -- nothing was printed of the commands of a file
  unsent-so : (Says : List ℕ → Type 0) (file : Bor (List ℕ)) (is_json : Bool) (failure : Failure)
      (result : Result Status Failure) → result ≡ Err failure → after ≡ before → IsOfAsking Says failure
      → failure ≢ Output
      → PutSo Says (question.Apply file) is_json (contents before) (contents after) (has_failed after) result
  unsent-so Says file is_json failure result is same ours other =
      subst (λ (r : Result Status Failure).
      PutSo Says (question.Apply file) is_json (contents before) (contents after) (has_failed after) r) (sym is)
      (record {
        printed = tt;
        failed = ours;
        front = λ more. (
          [],
          subst (λ (k : Option (List ℕ)). Appends (contents before) k [])
              (sym (ap contents same)) (Appends-nil (contents before)),
        );
        broken = λ output. absurd (other output);
      })

  file-so : {F : Type 0} (remaining : F → Option (List ℕ)) (file : Bor (List ℕ)) (is_json : Bool)
      (result : Result Status Failure)
      → AppliesFile remaining contents has_failed file.now old before result new after
      → PutSo (SaysOfAsking name (question.Apply file)) (question.Apply file) is_json (contents before) (contents after)
      (has_failed after) result
  file-so remaining file is_json result (inl (failure, is, of_file, same, unprinted)) =
      let early = no-commands file.now failure of_file in
      unsent-so (SaysOfAsking name (question.Apply file)) file is_json failure result is unprinted
      (asking-more (SaysOfCommands file.now) (SaysOfAsking name (question.Apply file)) (λ said is. inr is) failure
      (early-asking (SaysOfCommands file.now) failure early))
      (early-no-output (SaysOfCommands file.now) failure early)
  file-so remaining file is_json result (inr (end, commands, said, inl (failure, is, lacks, unprinted))) =
      let early = before-end old new end failure lacks in
      unsent-so (SaysOfAsking name (question.Apply file)) file is_json failure result is unprinted
      (asking-more SaysNothing (SaysOfAsking name (question.Apply file)) (λ said none. absurd none) failure early.0)
      early.1
  file-so remaining file is_json result (inr (end, commands, said, inr (between, shown, each))) =
      each-so (SaysOfAsking name (question.Apply file)) file is_json commands between result each

  -- what a conversation says of what is printed
  pub put-so : {F : Type 0} (remaining : F → Option (List ℕ)) (asked : Question) (is_json : Bool)
      (result : Result Status Failure)
      → Converses remaining contents has_failed asked is_json old before result new after
      → PutSo (SaysOfAsking name asked) asked is_json (contents before) (contents after) (has_failed after) result
  put-so remaining question.Show is_json result is =
      let so = text-so (SaysOfSocket name) request.Show SaysNoMore FailsNowhere nowhere-asking is_json result is in
      record { printed = so.printed; failed = so.failed; front = so.front; broken = so.broken }
  put-so remaining question.Counters is_json result is =
      let so = text-so (SaysOfSocket name) request.Counters SaysNoMore FailsNowhere nowhere-asking is_json result is in
      record { printed = so.printed; failed = so.failed; front = so.front; broken = so.broken }
  put-so remaining question.Keys is_json result is =
      let so = text-so (SaysOfSocket name) request.Keys SaysNoMore FailsNowhere nowhere-asking is_json result is in
      record { printed = so.printed; failed = so.failed; front = so.front; broken = so.broken }
  put-so remaining question.Traffic is_json result is =
      let so = text-so (SaysOfSocket name) request.Traffic SaysNoMore FailsNowhere nowhere-asking is_json result is in
      record { printed = so.printed; failed = so.failed; front = so.front; broken = so.broken }
  put-so remaining question.About is_json result is =
      let so = text-so (SaysOfSocket name) request.About SaysNoMore FailsNowhere nowhere-asking is_json result is in
      record { printed = so.printed; failed = so.failed; front = so.front; broken = so.broken }
  put-so remaining question.Stop is_json result is =
      let so = text-so (SaysOfSocket name) request.Stop Outlives FailsToEnd ending-asking false result is in
      record { printed = so.printed; failed = so.failed; front = so.front; broken = so.broken }
  put-so remaining (question.Apply file) is_json result is = file-so remaining file is_json result is
