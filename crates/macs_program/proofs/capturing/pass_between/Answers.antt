use Rattle.std.proofs.lemmas.Result.{err_from_is_err_and}
use Rattle.macs_program.proofs.AskedFor.{both, not-both}
use Rattle.macs_program.proofs.InFiles.{frames-passed, no-capture}
use Rattle.macs_program.proofs.capturing.pass_between.Goals as goal

pub returns-in_err-source-clause-asks : goal.returns-in_err-source-clause-asks
returns-in_err-source-clause-asks g c =
    let p = err_from_is_err_and c.from_residual.result c.from_residual.ensures.1 in
    not-both _ _ _ _ p.0 c.from_residual.result p.1 c.in_err-source.ensures.front

pub returns-in_err-source-clause-passes : goal.returns-in_err-source-clause-passes
returns-in_err-source-clause-passes g c =
    let p = err_from_is_err_and c.from_residual.result c.from_residual.ensures.1 in
    no-capture _ _ _ _ _ _ _ c.in_err-source.field-0.0 p.0 c.from_residual.result p.1 p.2 c.in_err-source.ensures.failed

pub returns-clause-asks : goal.returns-clause-asks
returns-clause-asks g c = both _ _ _ _ c.pass_frames.result c.in_ok-source.ensures.order

pub returns-clause-passes : goal.returns-clause-passes
returns-clause-passes g c =
    let said = c.pass_frames.ensures in
    frames-passed _ _ _ c.args.side c.args.is_all _ _ _ _ _ _ _ _ c.pass_frames.result said.printed said.ended
    said.failed said.silent said.broken
