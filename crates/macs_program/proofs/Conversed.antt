-- What was said to a relay, and its answers.
use Rattle.std.proofs.Common.{◌≡◌, ◌≢◌, ◌∙◌, inl, inr, ℕ, ◌+◌, ◌<◌, ◌≤◌, Bool, true, if◌then◌else◌, List, []}
use Rattle.std.proofs.Common.{◌∷◌, ◌++◌, length, take, drop, get_or, Option, Some, None, is_some, Result, Ok, Err}
use Rattle.std.proofs.Common.{IfErr, OnOk, ap, refl, subst, sym, arith}
use Rattle.std.specs.Io.KnownBytes.{Appends}
use Rattle.std.proofs.KnownBytes.{Appends-nil, Appends-trans}
use Rattle.std.proofs.lemmas.List.{length-take-le, take_all, take_more}
use Rattle.macs_config.specs.declared.command.Command.{Command}
use Rattle.macs_config.specs.declared.refusal.Refusal.{Refusal}
use Rattle.macs_commands.specs.Requests.{request_line}
use Rattle.macs_commands.specs.declared.requests.request.Request.{Request}
use Rattle.macs_commands.specs.declared.requests.request.Request.TheVariants as request
use Rattle.macs_control.specs.Asking.{Conversation, ReadsNoEnd, ReadsSome, Sends, SendsSome}
use Rattle.macs_control.specs.declared.asking.AskFault.{AskFault}
use Rattle.macs_control.specs.declared.asking.AskFault.TheVariants as asking
use Rattle.macs_cli.specs.Failing.{failure_of_asking}
use Rattle.macs_offline.specs.Applying.{SaidByFile, outcome_line, outcome_lines}
use Rattle.macs_offline.proofs.Applied.{lines-more, parted, status-more}
use Rattle.macs_program.specs.Asking.{AppliesEach, AppliesFile, Asks, AsksAll, AsksEach, AsksInVain, AsksOne, AsksSome}
use Rattle.macs_program.specs.Asking.{EndsAsking, IsOfFile, IsOther, IsOutcome, LacksEnd, LacksOwn, ShowsEnd, ShowsOwn}
use Rattle.macs_program.specs.Asking.{failure_in, refusal_line, sci_line}
use Rattle.macs_cli.specs.declared.failure.Failure.{Failure}
use Rattle.macs_cli.specs.declared.failure.Failure.TheVariants.{Output}
use Rattle.macs_cli.specs.declared.status.Status.{Status}
use Rattle.macs_cli.specs.declared.status.Status.TheVariants.{Done, Refused}
use Rattle.macs_record.specs.Sectors.{Begins}

-- ---- a request and its answer

module _ (old : Option Conversation) (asked : Request) where
  -- the line of it is sent
  pub line-sent : (new : Option Conversation) (line : List ℕ) → line ≡ request_line asked
      → Sends old (line ++ 10 ∷ []) new → Sends old (request_line asked ++ 10 ∷ []) new
  line-sent new line is sent = subst (λ (l : List ℕ). Sends old (l ++ 10 ∷ []) new) is sent

  -- or a part of that line
  pub line-cut : (new : Option Conversation) (line : List ℕ) → line ≡ request_line asked
      → SendsSome old (line ++ 10 ∷ []) new → SendsSome old (request_line asked ++ 10 ∷ []) new
  line-cut new line is cut = subst (λ (l : List ℕ). SendsSome old (l ++ 10 ∷ []) new) is cut

  -- it is sent, and no answer is read
  pub vain-read : (between new : Option Conversation) (fault : AskFault) (failure : Failure)
      → failure ≡ failure_of_asking fault → Sends old (request_line asked ++ 10 ∷ []) between
      → ReadsSome between new → (fault ≡ asking.Gone → ReadsNoEnd between new) → AsksInVain old asked failure new
  vain-read between new asking.Memory failure is sent read gone = inr (between, sent, inl (is, read))
  vain-read between new asking.Gone failure is sent read gone = inr (between, sent, inr (is, gone refl))

-- ---- an answer to a command

pub is-kept : (status : ℕ) (text : List ℕ) → status ≡ 0 → IsOutcome status text (Ok None)
is-kept status text is = record {
  kept = (λ same. is, λ none. refl);
  refused = λ refusal same. absurd (let wrong : Ok None ≡ Ok (Some refusal) = same in cc);
  failed = tt;
}

pub is-refused : (status : ℕ) (text : List ℕ) (refusal : Refusal) → status ≡ 3 → text ≡ refusal_line refusal
    → IsOutcome status text (Ok (Some refusal))
is-refused status text refusal is names = record {
  kept = (
    λ same. absurd (let wrong : Ok (Some refusal) ≡ Ok None = same in cc),
    λ none. absurd (omega (arith, is, none)),
  );
  refused = λ other same.
      (is, names ∙ ap refusal_line (let here : Ok (Some refusal) ≡ Ok (Some other) = same in cc));
  failed = tt;
}

pub is-neither : (status : ℕ) (text : List ℕ) (failure : Failure) → status ≢ 0 → failure ≡ failure_in status
    → (status ≡ 3 → (refusal : Refusal) → text ≢ refusal_line refusal) → IsOutcome status text (Err failure)
is-neither status text failure some why names = record {
  kept = (λ same. absurd (let wrong : Err failure ≡ Ok None = same in cc), λ none. absurd (some none));
  refused = λ refusal same. absurd (let wrong : Err failure ≡ Ok (Some refusal) = same in cc);
  failed = (why, names);
}

-- ---- commands, one after another

length-asked : (old new : Option Conversation) (commands : List Command) (outcomes : List (Option Refusal))
    → AsksEach old commands outcomes new → length outcomes ≡ length commands
length-asked old new [] [] asked = refl
length-asked old new (command ∷ commands) (outcome ∷ outcomes) (between, one, others) =
    let shorter = length-asked between new commands outcomes others in
    omega (arith, shorter)
length-asked old new [] (outcome ∷ outcomes) asked = absurd asked
length-asked old new (command ∷ commands) [] asked = absurd asked

asks-more : (old between new : Option Conversation) (commands : List Command) (outcomes : List (Option Refusal))
    (command : Command) (outcome : Option Refusal) → AsksEach old commands outcomes between
    → AsksOne between command (Ok outcome) new
    → AsksEach old (commands ++ command ∷ []) (outcomes ++ outcome ∷ []) new
asks-more old between new [] [] command outcome same one =
    (new, subst (λ (c : Option Conversation). AsksOne c command (Ok outcome) new) same one, refl)
asks-more old between new (first ∷ commands) (here ∷ outcomes) command outcome (second, one, others) last =
    (second, one, asks-more second between new commands outcomes command outcome others last)
asks-more old between new [] (here ∷ outcomes) command outcome asked one = absurd asked
asks-more old between new (first ∷ commands) [] command outcome asked one = absurd asked

-- no command was sent
pub none-asked : (old : Option Conversation) (before : Option (List ℕ)) → AsksAll old [] before before Done old
none-asked old before =
    record { outcomes = []; asked = refl; printed = Appends-nil before; status_is = refl }

-- one command more
pub one-asked : (old between new : Option Conversation) (commands : List Command) (i : ℕ) (d command : Command)
    (before known after : Option (List ℕ)) (status now : Status) (refused : Bool) (outcome : Option Refusal)
    → i < length commands → command ≡ get_or commands i d
    → now ≡ (if refused then Refused else status)
    → AsksAll old (take i commands) before known status between
    → refused ≡ is_some outcome → AsksOne between command (Ok outcome) new
    → Appends known after (outcome_line (i + 1) outcome)
    → AsksAll old (take (i + 1) commands) before after now new
one-asked old between new commands i d command before known after status now refused outcome within next after_is
    so_far is asked printed =
    subst (λ (all : List Command). AsksAll old all before after now new)
    (ap (λ (last : Command). take i commands ++ last ∷ []) next ∙ sym (take_more commands i d within))
    (record {
      outcomes = so_far.outcomes ++ outcome ∷ [];
      asked = asks-more old between new (take i commands) so_far.outcomes command outcome so_far.asked asked;
      printed = subst (λ (text : List ℕ). Appends before after text) (sym (lines-more 1 so_far.outcomes outcome))
          (Appends-trans before known after (outcome_lines 1 so_far.outcomes)
          (outcome_line (1 + length so_far.outcomes) outcome) so_far.printed
          (subst (λ (at : ℕ). Appends known after (outcome_line at outcome)) at_is printed));
      status_is = after_is ∙ ap (λ (b : Bool). if b then Refused else status) is
          ∙ ap (λ (s : Status). if is_some outcome then Refused else s) so_far.status_is
          ∙ sym (status-more so_far.outcomes outcome);
    })
  where
    at_is : i + 1 ≡ 1 + length so_far.outcomes
    at_is =
        let asked = length-asked old between (take i commands) so_far.outcomes so_far.asked in
        let taken : length (take i commands) ≡ i = length-take-le i commands (omega (arith, within)) in
        omega (arith, asked, taken)

-- the run ends
pub some-asked : (old between new : Option Conversation) (commands : List Command) (i : ℕ) (d command : Command)
    (before known after : Option (List ℕ)) (status : Status) (failure : Failure) → i < length commands
    → command ≡ get_or commands i d → AsksAll old (take i commands) before known status between
    → EndsAsking between command failure new → (failure ≢ Output → after ≡ known)
    → AsksSome old commands before after failure new
some-asked old between new commands i d command before known after status failure within next so_far ended silent =
    record {
      front = take i commands;
      command = command;
      rest = drop (i + 1) commands;
      all = sym (parted commands i d within
          ∙ ap (λ (here : Command). take i commands ++ here ∷ drop (i + 1) commands) (sym next));
      outcomes = so_far.outcomes;
      between = between;
      asked = so_far.asked;
      ended = ended;
      printed = λ other. subst (λ (k : Option (List ℕ)). Appends before k (outcome_lines 1 so_far.outcomes))
          (sym (silent other)) so_far.printed;
    }

module _ {W : Type 0} (contents : W → Option (List ℕ)) (has_failed : W → Bool) where
  pub each-cut : (old between new : Option Conversation) (commands : List Command) (i : ℕ) (d command : Command)
      (before known after : W) (status : Status) (fault failure : Failure) (result : Result Status Failure)
      → result ≡ Err failure → failure ≡ fault → i < length commands → command ≡ get_or commands i d
      → AsksAll old (take i commands) (contents before) (contents known) status between
      → EndsAsking between command fault new → (fault ≢ Output → after ≡ known)
      → (fault ≡ Output → has_failed after ≡ true)
      → AppliesEach contents has_failed commands old before result new after
  each-cut old between new commands i d command before known after status fault failure result is same within next
      so_far ended silent broken =
      subst (λ (r : Result Status Failure). AppliesEach contents has_failed commands old before r new after)
      (sym (is ∙ ap Err same)) (record {
        applied = tt;
        ended = some-asked old between new commands i d command (contents before) (contents known) (contents after)
            status fault within next so_far ended (λ other. ap contents (silent other));
        broken = broken;
      })

  pub each-done : (old new : Option Conversation) (commands : List Command) (i : ℕ) (before after : W)
      (status : Status) → length commands ≤ i
      → AsksAll old (take i commands) (contents before) (contents after) status new
      → AppliesEach contents has_failed commands old before (Ok status) new after
  each-done old new commands i before after status ended all = record {
    applied = subst (λ (cs : List Command). AsksAll old cs (contents before) (contents after) status new)
        (take_all i commands ended) all;
    ended = tt;
    broken = tt;
  }

-- ---- the end that a file names

pub own-shown : {T : Type 0} (old new : Option Conversation) (sci text : List ℕ) (status : ℕ)
    (result : Result T Failure)
    → Asks old request.Show text status new → OnOk result ((status ≡ 0) × Begins (sci_line sci) text)
    → OnOk result (ShowsOwn old sci new)
own-shown old new sci text status (Ok done) asked own =
    (text, own.1, subst (λ (s : ℕ). Asks old request.Show text s new) own.0 asked)
own-shown old new sci text status (Err failure) asked own = tt

pub other-shown : {T : Type 0} (old new : Option Conversation) (sci text : List ℕ) (status : ℕ)
    (result : Result T Failure) → Asks old request.Show text status new → IfErr result (IsOther sci status text)
    → IfErr result (λ failure. LacksOwn old sci failure new)
other-shown old new sci text status (Ok done) asked other = tt
other-shown old new sci text status (Err failure) asked other = inr (text, status, asked, other)

-- ---- the commands of a file

module _ {F W : Type 0} (remaining : F → Option (List ℕ)) (contents : W → Option (List ℕ)) (has_failed : W → Bool)
    (file : List ℕ) (old : Option Conversation) (before : W) where
  -- it is not read
  pub file-unread : (fault failure : Failure) (result : Result Status Failure) → result ≡ Err failure
      → failure ≡ fault → IsOfFile file fault
      → AppliesFile remaining contents has_failed file old before result old before
  file-unread fault failure result is same of_file = inl (fault, is ∙ ap Err same, of_file, refl, refl)

  -- the relay is not the end that it names
  pub end-unfound : (end : Option (List ℕ)) (commands : List Command) (new : Option Conversation)
      (fault failure : Failure) (result : Result Status Failure) → SaidByFile remaining end commands
      → result ≡ Err failure → failure ≡ fault → LacksEnd old end fault new
      → AppliesFile remaining contents has_failed file old before result new before
  end-unfound end commands new fault failure result said is same lacks =
      inr (end, commands, said, inl (fault, is ∙ ap Err same, lacks, refl))

  -- they are sent
  pub end-found : (end : Option (List ℕ)) (commands sent : List Command) (between new : Option Conversation)
      (result : Result Status Failure) (after : W) → SaidByFile remaining end commands → sent ≡ commands
      → ShowsEnd old end between → AppliesEach contents has_failed sent between before result new after
      → AppliesFile remaining contents has_failed file old before result new after
  end-found end commands sent between new result after said same shows each = inr (
    end,
    commands,
    said,
    inr (
      between,
      shows,
      subst (λ (cs : List Command). AppliesEach contents has_failed cs between before result new after) same each,
    ),
  )
