use Rattle.std.proofs.Common.{◌∙◌, Result, inl, refl, subst, sym}
use Rattle.std.proofs.lemmas.Result.{err_from_is_err_and}
use Rattle.macs_edge.specs.declared.capture_runs.RunFault.{RunFault}
use Rattle.macs_edge.specs.declared.capture_runs.Summary.{Summary}
use Rattle.macs_program.specs.Capturing.{EndsWith}
use Rattle.macs_cli.specs.declared.failure.Failure.TheVariants as failures
use Rattle.macs_program.proofs.Captured.{flushed-or-not}
use Rattle.macs_program.proofs.capturing.flush_after.Goals as goal

pub returns-in_err-summary-clause-ended : goal.returns-in_err-summary-clause-ended
returns-in_err-summary-clause-ended g c =
    let p = err_from_is_err_and c.from_residual.result c.from_residual.ensures.1 in
    let (fault, was, is) = c.in_err-summary.ensures.failed in
    let e = c.flush-flushed.ensures in
    rw p.1
    (subst (λ (a : Result Summary RunFault).
    EndsWith a p.0 (g.W.Sink.state c.args.sink.now) (g.W.Sink.state c.flush-flushed.new.self))
    (sym was) (p.2 ∙ is, flushed-or-not _ _ c.flush-flushed.result e.octets e.flushed e.done e.failed))

pub returns-in_err-summary-clause-failed : goal.returns-in_err-summary-clause-failed
returns-in_err-summary-clause-failed g c =
    let p = err_from_is_err_and c.from_residual.result c.from_residual.ensures.1 in
    let (fault, was, is) = c.in_err-summary.ensures.failed in
    rw p.1 (inl (fault, p.2 ∙ is))

pub returns-in-Ok-clause-ended : goal.returns-in-Ok-clause-ended
returns-in-Ok-clause-ended g c =
    let e = c.in-Ok.ensures in
    (c.in_ok-summary.ensures.done, record { held = e.octets; writes = e.done; flushed = e.flushed })

pub returns-in-Err-clause-ended : goal.returns-in-Err-clause-ended
returns-in-Err-clause-ended g c =
    let e = c.in-Err.ensures in
    subst (λ (a : Result Summary RunFault).
    EndsWith a failures.Capture (g.W.Sink.state c.args.sink.now) (g.W.Sink.state c.flush-flushed.new.self))
    (sym c.in_ok-summary.ensures.done) (refl, record { held = e.octets; fails = e.failed })
