use Rattle.std.proofs.Common.{◌∙◌, ap, inl, inr}
use Rattle.std.proofs.lemmas.Result.{err_from_is_err_and}
use Rattle.macs_offline.proofs.Tried.{both-printed, of-trial, spent-no-output, trial-no-output}
use Rattle.macs_offline.specs.Applying.{outcomes_status}
use Rattle.macs_offline.specs.Trying.{trial_report}
use Rattle.macs_offline.proofs.check.print_trial.Goals as goal

pub returns-in_err-outcomes-clause-ended : goal.returns-in_err-outcomes-clause-ended
returns-in_err-outcomes-clause-ended g c =
    let p = err_from_is_err_and c.from_residual.result c.from_residual.ensures.1 in
    rw (p.1, p.2) (inr (inr (inl c.in_err-outcomes.ensures.ended)))

pub returns-in_err-outcomes-clause-broken : goal.returns-in_err-outcomes-clause-broken
returns-in_err-outcomes-clause-broken g c =
    let p = err_from_is_err_and c.from_residual.result c.from_residual.ensures.1 in
    rw (p.1, p.2) (λ output. absurd (trial-no-output _ (of-trial _ _ _ _ _ c.in_err-outcomes.ensures.ended) output))

pub returns-in_err-refuse_spent-clause-ended : goal.returns-in_err-refuse_spent-clause-ended
returns-in_err-refuse_spent-clause-ended g c =
    let p =
    err_from_is_err_and c.from_residual-in_err-refuse_spent.result c.from_residual-in_err-refuse_spent.ensures.1 in
    rw (p.1, p.2) (inr (inr (inr c.in_err-refuse_spent.ensures)))

pub returns-in_err-refuse_spent-clause-broken : goal.returns-in_err-refuse_spent-clause-broken
returns-in_err-refuse_spent-clause-broken g c =
    let p =
    err_from_is_err_and c.from_residual-in_err-refuse_spent.result c.from_residual-in_err-refuse_spent.ensures.1 in
    rw (p.1, p.2) (λ output. absurd (spent-no-output _ _ c.in_err-refuse_spent.ensures output))

pub returns-clause-printed : goal.returns-clause-printed
returns-clause-printed g c = (
  c.in_ok-outcomes.outcomes.items,
  c.in_ok-outcomes.ensures.tried,
  both-printed _ _ _ (trial_report c.in_ok-outcomes.outcomes.items) c.as_str.result.now _
      (c.as_str.ensures.value ∙ c.in_ok-text.ensures ∙ ap trial_report c.as_slice.ensures.value)
      c.in_ok-print.ensures.printed c.in_ok-print_mode.ensures.printed,
  c.outcomes_status.ensures ∙ ap outcomes_status c.as_slice-2.ensures.value,
)
