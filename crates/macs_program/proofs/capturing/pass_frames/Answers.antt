use Rattle.std.proofs.lemmas.Result.{err_from_is_err_and}
use Rattle.macs_program.proofs.Failed.{run-no-output, run-status}
use Rattle.macs_program.proofs.capturing.pass_frames.Goals as goal

pub returns-in_err-summary-clause-failed : goal.returns-in_err-summary-clause-failed
returns-in_err-summary-clause-failed g c =
    let p = err_from_is_err_and c.from_residual.result c.from_residual.ensures.1 in
    rw (p.1, p.2) (run-status c.in_err-summary.field-0.0 c.in_err-summary.ensures.failed)

pub returns-in_err-summary-clause-broken : goal.returns-in_err-summary-clause-broken
returns-in_err-summary-clause-broken g c =
    let p = err_from_is_err_and c.from_residual.result c.from_residual.ensures.1 in
    rw (p.1, p.2) (λ output. absurd (run-no-output c.in_err-summary.field-0.0 c.in_err-summary.ensures.failed output))
