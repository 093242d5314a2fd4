use Rattle.macs_program.proofs.JudgedFiles.{judged-in}
use Rattle.macs_program.proofs.judging.judge.Goals as goal

pub returns : goal.returns
returns g c =
    let all = judged-in _ _ _ c.args.is_all _ _ c.with_file.result c.with_file.ensures in
    record { printed = all.printed; ended = all.ended; failed = all.failed; front = all.front; broken = all.broken }
