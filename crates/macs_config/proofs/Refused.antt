-- What is refused by exactly the first refusal.
use Rattle.std.proofs.Common.{◌≡◌, ◌∙◌, ◌↔◌, Option, Some, None, Result, Ok, Err, IfOk, OnOk, refl, ap, subst, sym}
use Rattle.macs_config.specs.Apply.{Named, Reason, answer_or_refusal, with_reason}
use Rattle.macs_config.specs.Config.{Config}
use Rattle.macs_config.specs.declared.refusal.Refusal.{Refusal}

unless_refused : {X : Type 0} (first : Option Reason) (answer : X) (reason : Reason)
    → (first ≡ Some reason) ↔ (answer_or_refusal first answer ≡ Err reason)
unless_refused None answer reason = (λ e. cc, λ e. cc)
unless_refused (Some first) answer reason = (λ e. cc, λ e. cc)

-- where nothing is refused, there is the answer
pub taken_by : {X : Type 0} (first : Option Reason) (answer : X) → first ≡ None
    → answer_or_refusal first answer ≡ Ok answer
taken_by None answer is = refl
taken_by (Some reason) answer is = cc

-- what a check answers, case by case
refused_by : {X : Type 0} (first : Option Reason) (answer : X) (result : Result X Refusal)
    → with_reason result ≡ answer_or_refusal first answer
    → (refusal : Refusal) → (result ≡ Err refusal) ↔ (first ≡ Some (Named refusal))
refused_by None answer (Ok x) is refusal = (λ e. cc, λ e. cc)
refused_by None answer (Err was) is refusal = absurd cc
refused_by (Some reason) answer (Ok x) is refusal = absurd cc
refused_by (Some reason) answer (Err was) is refusal =
    let same : Named was ≡ reason = cc in (
      λ e. let one : was ≡ refusal = cc in
          ap Some (sym same ∙ ap Named one),
      λ e. let one : was ≡ refusal = cc in ap Err one,
    )

none_by : {X : Type 0} (first : Option Reason) (answer : X) (result : Result X Refusal)
    → with_reason result ≡ answer_or_refusal first answer
    → OnOk result (first ≡ None)
none_by None answer (Ok x) is = refl
none_by (Some reason) answer (Ok x) is = cc
none_by first answer (Err was) is = tt

answered_by : {X : Type 0} (first : Option Reason) (answer : X) (result : Result X Refusal)
    → with_reason result ≡ answer_or_refusal first answer
    → IfOk result (λ x. x ≡ answer)
answered_by None answer (Ok x) is = let same : x ≡ answer = cc in same
answered_by (Some reason) answer (Ok x) is = cc
answered_by first answer (Err was) is = tt

module _ {X : Type 0} (first : Option Reason) (answer : X) (result : Result X Refusal)
    (is : with_reason result ≡ answer_or_refusal first answer) where
  -- an error is the first reason
  pub refused_unless : (refusal : Refusal) → (result ≡ Err refusal) ↔ (first ≡ Some (Named refusal))
  refused_unless = refused_by first answer result is

  -- and otherwise there is none
  pub none_unless : OnOk result (first ≡ None)
  none_unless = none_by first answer result is

  -- and the answer
  pub answered_unless : IfOk result (λ x. x ≡ answer)
  answered_unless = answered_by first answer result is

-- the refusal of a check, handed on
pub handed_on : {X : Type 0} (first : Option Reason) (made : Config) (result : Result X Refusal) (was : Refusal)
    → first ≡ Some (Named was) → result ≡ Err was → (refusal : Refusal)
    → (result ≡ Err refusal) ↔ (answer_or_refusal first made ≡ Err (Named refusal))
handed_on first made result was by_check risen refusal =
    let by_made = unless_refused first made (Named refusal) in (
      λ e. let same : was ≡ refusal = cc in by_made.0 (by_check ∙ ap (λ (r : Refusal). Some (Named r)) same),
      λ e. let found = by_made.1 e in let same : was ≡ refusal = cc in risen ∙ ap Err same,
    )

module _ {X : Type 0} (first : Option Reason) (made : Config) (result : Result X Refusal) where
  -- the refusals of a command are those of its check
  pub refused_exactly : ((refusal : Refusal) → (result ≡ Err refusal) ↔ (first ≡ Some (Named refusal)))
      → (refusal : Refusal) → (result ≡ Err refusal) ↔ (answer_or_refusal first made ≡ Err (Named refusal))
  refused_exactly exact refusal =
      let by_first = exact refusal in
      let by_made = unless_refused first made (Named refusal) in
      (λ e. by_made.0 (by_first.0 e), λ e. by_first.1 (by_made.1 e))

  -- a command that its check takes is applied
  pub applied : {answer : X} → OnOk result (first ≡ None) → result ≡ Ok answer → answer_or_refusal first made ≡ Ok made
  applied {answer} fits ok = taken_by first made (subst (λ (r : Result X Refusal). OnOk r (first ≡ None)) ok fits)
