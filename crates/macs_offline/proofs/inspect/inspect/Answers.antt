use Rattle.std.proofs.Common.{inl, inr, refl}
use Rattle.std.proofs.lemmas.Result.{err_from_is_err_and}
use Rattle.macs_offline.proofs.Inspected.{of-stop, stop-front, stop-output}
use Rattle.macs_offline.proofs.inspect.inspect.Goals as goal

pub returns-in-Ok-clause-printed : goal.returns-in-Ok-clause-printed
returns-in-Ok-clause-printed g c =
    let all = c.in-Ok.ensures.runs.done in
    ((_, _, all.0), all.1)

pub returns-clause-ended : goal.returns-clause-ended
returns-clause-ended g c =
    inr (_, _, c.in-Err.stop, c.in-Err.ensures.runs.stopped, c.failure_of_stop.ensures)

pub returns-clause-failed : goal.returns-clause-failed
returns-clause-failed g c =
    of-stop c.args.input.now c.in-Err.stop c.failure_of_stop.result c.failure_of_stop.ensures

pub returns-clause-front : goal.returns-clause-front
returns-clause-front g c = stop-front c.args.input.now _ _ _ _ c.in-Err.stop c.failure_of_stop.result
    c.in-Err.ensures.runs.stopped c.failure_of_stop.ensures

pub returns-clause-broken : goal.returns-clause-broken
returns-clause-broken g c = λ is. c.in-Err.ensures.broken
    (stop-output c.args.input.now c.in-Err.stop c.failure_of_stop.result c.failure_of_stop.ensures is)

pub returns-in_err-source-clause-ended : goal.returns-in_err-source-clause-ended
returns-in_err-source-clause-ended g c =
    let p = err_from_is_err_and c.from_residual.result c.from_residual.ensures.1 in
    rw (p.1, p.2) (inl (c.in_err-source.ensures, refl))
