use Rattle.std.proofs.lemmas.Result.{err_from_is_err_and}
use Rattle.macs_program.proofs.AskedFor.{both, not-both}
use Rattle.macs_program.proofs.JudgedFiles.{frames-judged, none-judged}
use Rattle.macs_program.proofs.judging.judge_between.Goals as goal

pub returns-in_err-input-clause-asks : goal.returns-in_err-input-clause-asks
returns-in_err-input-clause-asks g c =
    let p = err_from_is_err_and c.from_residual.result c.from_residual.ensures.1 in
    not-both _ _ _ _ p.0 c.from_residual.result p.1 c.in_err-input.ensures.front

pub returns-in_err-input-clause-judges : goal.returns-in_err-input-clause-judges
returns-in_err-input-clause-judges g c =
    let p = err_from_is_err_and c.from_residual.result c.from_residual.ensures.1 in
    none-judged _ _ _ _ _ _ c.in_err-input.field-0.0 p.0 c.from_residual.result p.1 p.2 c.in_err-input.ensures.failed

pub returns-clause-asks : goal.returns-clause-asks
returns-clause-asks g c = both _ _ _ _ c.judge_frames.result c.in_ok-input.ensures.order

pub returns-clause-judges : goal.returns-clause-judges
returns-clause-judges g c =
    frames-judged _ _ _ c.args.is_all _ _ _ _ _ _ _ _ c.judge_frames.result c.judge_frames.ensures
