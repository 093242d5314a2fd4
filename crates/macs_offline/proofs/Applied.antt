-- Commands that were given to an endpoint, one after another.
use Rattle.std.proofs.Common.{◌≡◌, ◌≢◌, ℕ, suc, ◌+◌, ◌<◌, Bool, true, if◌then◌else◌, List, [], ◌∷◌, ◌++◌, length, take}
use Rattle.std.proofs.Common.{drop, get_or, Option, Some, None, is_some, append_assoc, ap, subst, sym, refl, ◌∙◌, arith}
use Rattle.std.specs.List.{list_any}
use Rattle.std.specs.Io.KnownBytes.{Appends}
use Rattle.std.proofs.lemmas.List.{append-nil, length-take-le, take-append-drop, take_more}
use Rattle.std.proofs.Math.Seq.{drop-cons}
use Rattle.std.proofs.KnownBytes.{Appends-trans}
use Rattle.macs_config.specs.declared.command.Command.{Command}
use Rattle.macs_config.specs.declared.refusal.Refusal.{Refusal}
use Rattle.macs_disk.specs.Disk.{Disk}
use Rattle.macs_endpoint.specs.Calls.{IsCall}
use Rattle.macs_endpoint.specs.State.{Commands, Ran}
use Rattle.macs_endpoint.specs.Value.{EndpointValue}
use Rattle.macs_offline.specs.Applying.{Applies, AppliesAll, AppliesSome, EndsRun, answer_of, outcome_line}
use Rattle.macs_offline.specs.Applying.{outcome_lines, outcomes_status}
use Rattle.macs_cli.specs.declared.failure.Failure.{Failure}
use Rattle.macs_cli.specs.declared.failure.Failure.TheVariants.{Output}
use Rattle.macs_cli.specs.declared.status.Status.{Status}
use Rattle.macs_cli.specs.declared.status.Status.TheVariants.{Refused, Done}

-- ---- lists

pub parted : {X : Type 0} (xs : List X) (i : ℕ) (d : X) → i < length xs
    → xs ≡ take i xs ++ get_or xs i d ∷ drop (i + 1) xs
parted xs i d within =
    let next : suc i ≡ i + 1 = omega arith in
    sym (take-append-drop i xs)
    ∙ ap (λ ys. take i xs ++ ys) (drop-cons xs i d within ∙ ap (λ (k : ℕ). get_or xs i d ∷ drop k xs) next)

-- ---- one outcome more

pub lines-more : (at : ℕ) (outcomes : List (Option Refusal)) (outcome : Option Refusal)
    → outcome_lines at (outcomes ++ outcome ∷ [])
    ≡ outcome_lines at outcomes ++ outcome_line (at + length outcomes) outcome
lines-more at [] outcome =
    let place : at ≡ at + 0 = omega arith in
    append-nil (outcome_line at outcome) ∙ ap (λ (k : ℕ). outcome_line k outcome) place
lines-more at (first ∷ rest) outcome =
    let place : (at + 1) + length rest ≡ at + length (first ∷ rest) = omega arith in
    ap (λ (text : List ℕ). outcome_line at first ++ text) (lines-more (at + 1) rest outcome)
    ∙ sym (append_assoc (outcome_line at first) (outcome_lines (at + 1) rest)
    (outcome_line (at + 1 + length rest) outcome))
    ∙ ap (λ (k : ℕ). outcome_line at first ++ outcome_lines (at + 1) rest ++ outcome_line k outcome) place

any-more : (outcomes : List (Option Refusal)) (outcome : Option Refusal)
    → list_any is_some (outcomes ++ outcome ∷ []) ≡ (if is_some outcome then true else list_any is_some outcomes)
any-more [] None = refl
any-more [] (Some refusal) = refl
any-more (None ∷ rest) outcome = any-more rest outcome
any-more (Some refusal ∷ rest) None = refl
any-more (Some refusal ∷ rest) (Some other) = refl

pub status-more : (outcomes : List (Option Refusal)) (outcome : Option Refusal)
    → outcomes_status (outcomes ++ outcome ∷ []) ≡ (if is_some outcome then Refused else outcomes_status outcomes)
status-more outcomes None = ap (λ (b : Bool). if b then Refused else Done) (any-more outcomes None)
status-more outcomes (Some refusal) = ap (λ (b : Bool). if b then Refused else Done) (any-more outcomes (Some refusal))

-- ---- one command more

length-applied : {D : Type 0} (disk_of : D → Disk) (old new : EndpointValue D) (commands : List Command)
    (outcomes : List (Option Refusal))
    → Applies disk_of old commands outcomes new → length outcomes ≡ length commands
length-applied disk_of old new [] outcomes applied = ap (λ (os : List (Option Refusal)). length os) applied.0
length-applied disk_of old new (command ∷ more) outcomes (outcome, rest, between, are, call, behind) =
    let shorter = length-applied disk_of between new more rest behind in
    let count = ap (λ (os : List (Option Refusal)). length os) are in
    omega (arith, shorter, count)

pub applies-more : {D : Type 0} (disk_of : D → Disk) (old between new : EndpointValue D) (commands : List Command)
    (outcomes : List (Option Refusal))
    (command : Command) (outcome : Option Refusal) → Applies disk_of old commands outcomes between
    → IsCall disk_of between (Commands command) (Ran (answer_of outcome)) new
    → Applies disk_of old (commands ++ command ∷ []) (outcomes ++ outcome ∷ []) new
applies-more {D} disk_of old between new [] outcomes command outcome (none, same) call = (
  outcome,
  [],
  new,
  ap (λ (os : List (Option Refusal)). os ++ outcome ∷ []) none,
  subst (λ (e : EndpointValue D). IsCall disk_of e (Commands command) (Ran (answer_of outcome)) new) same call,
  (refl, refl),
)
applies-more disk_of old between new (first ∷ more) outcomes command outcome
    (one, rest, second, are, made, behind) call = (
      one,
      rest ++ outcome ∷ [],
      second,
      ap (λ (os : List (Option Refusal)). os ++ outcome ∷ []) are,
      made,
      applies-more disk_of second between new more rest command outcome behind call,
    )

-- ---- all so far

pub one-applied : {D : Type 0} (disk_of : D → Disk) (old between new : EndpointValue D) (commands : List Command)
    (i : ℕ) (d command : Command)
    (before known after : Option (List ℕ)) (status now : Status) (refused : Bool) (outcome : Option Refusal)
    → i < length commands → command ≡ get_or commands i d
    → now ≡ (if refused then Refused else status)
    → AppliesAll disk_of old (take i commands) before known status between
    → refused ≡ is_some outcome → IsCall disk_of between (Commands command) (Ran (answer_of outcome)) new
    → Appends known after (outcome_line (i + 1) outcome)
    → AppliesAll disk_of old (take (i + 1) commands) before after now new
one-applied disk_of old between new commands i d command before known after status now refused outcome within next
    after_is so_far is call printed =
    subst (λ (all : List Command). AppliesAll disk_of old all before after now new)
    (ap (λ (last : Command). take i commands ++ last ∷ []) next ∙ sym (take_more commands i d within))
    (record {
      outcomes = so_far.outcomes ++ outcome ∷ [];
      applied =
          applies-more disk_of old between new (take i commands) so_far.outcomes command outcome so_far.applied call;
      printed = subst (λ (text : List ℕ). Appends before after text) (sym (lines-more 1 so_far.outcomes outcome))
          (Appends-trans before known after (outcome_lines 1 so_far.outcomes)
          (outcome_line (1 + length so_far.outcomes) outcome) so_far.printed
          (subst (λ (at : ℕ). Appends known after (outcome_line at outcome)) at_is printed));
      status_is = after_is ∙ ap (λ (b : Bool). if b then Refused else status) is
          ∙ ap (λ (s : Status). if is_some outcome then Refused else s) so_far.status_is
          ∙ sym (status-more so_far.outcomes outcome);
    })
  where
    at_is : i + 1 ≡ 1 + length so_far.outcomes
    at_is =
        let applied = length-applied disk_of old between (take i commands) so_far.outcomes so_far.applied in
        let taken : length (take i commands) ≡ i = length-take-le i commands (omega (arith, within)) in
        omega (arith, applied, taken)

-- ---- the run ends

pub some-applied : {D : Type 0} (disk_of : D → Disk) (old between new : EndpointValue D) (commands : List Command)
    (i : ℕ) (d command : Command)
    (before known after : Option (List ℕ)) (status : Status) (failure : Failure) → i < length commands
    → command ≡ get_or commands i d
    → AppliesAll disk_of old (take i commands) before known status between → EndsRun disk_of between command failure new
    → (failure ≢ Output → after ≡ known)
    → AppliesSome disk_of old commands before after failure new
some-applied disk_of old between new commands i d command before known after status failure within next so_far ended
    silent = record {
      done = take i commands;
      next = command;
      left = drop (i + 1) commands;
      all = parted commands i d within
          ∙ ap (λ (here : Command). take i commands ++ here ∷ drop (i + 1) commands) (sym next);
      outcomes = so_far.outcomes;
      between = between;
      applied = so_far.applied;
      ends = ended;
      printed = λ other. subst (λ (k : Option (List ℕ)). Appends before k (outcome_lines 1 so_far.outcomes))
          (sym (silent other)) so_far.printed;
    }
