use Rattle.std.proofs.Common.{inr}
use Rattle.std.proofs.lemmas.Result.{IfErr-weaker, IfOk-weaker, err_from_is_err_and}
use Rattle.macs_offline.proofs.Examined.{of-examination, printed-so, unprinted-so}
use Rattle.macs_offline.proofs.Failures.{copy-no-output}
use Rattle.macs_offline.proofs.examine.examine.Goals as goal

pub returns-clause-printed : goal.returns-clause-printed
returns-clause-printed g c = IfOk-weaker c.print_said.result _ _
    (λ status all. printed-so _ c.args.is_json _ _ _ _ status c.in_ok-said.ensures.reported all)
    c.print_said.ensures.printed

pub returns-clause-ended : goal.returns-clause-ended
returns-clause-ended g c = IfErr-weaker c.print_said.result _ _
    (λ failure ends. unprinted-so _ _ _ _ failure c.in_ok-said.ensures.reported ends) c.print_said.ensures.ended

pub returns-in_err-said-clause-ended : goal.returns-in_err-said-clause-ended
returns-in_err-said-clause-ended g c =
    let p = err_from_is_err_and c.from_residual.result c.from_residual.ensures.1 in
    rw (p.1, p.2) (inr c.in_err-said.ensures.ended)

pub returns-in_err-said-clause-broken : goal.returns-in_err-said-clause-broken
returns-in_err-said-clause-broken g c =
    let p = err_from_is_err_and c.from_residual.result c.from_residual.ensures.1 in
    rw (p.1, p.2) (λ output. absurd (copy-no-output _ (of-examination _ _ _ c.in_err-said.ensures.ended) output))
