use Rattle.std.proofs.lemmas.Result.{err_from_is_err_and}
use Rattle.macs_offline.proofs.Planned.{not-planned}
use Rattle.macs_offline.proofs.plan.plan.Goals as goal

pub returns-in_err-planned_file-clause-ended : goal.returns-in_err-planned_file-clause-ended
returns-in_err-planned_file-clause-ended g c =
    let p = err_from_is_err_and c.from_residual.result c.from_residual.ensures.1 in
    rw (p.1, p.2) (not-planned c.args.end c.args.stage _ c.args.path.now _ c.in_err-planned_file.ensures.ended)
