use Rattle.macs_program.proofs.InFiles.{applied-in}
use Rattle.macs_program.proofs.apply.apply.Goals as goal

pub returns : goal.returns
returns g c =
    let all = applied-in _ _ _ _ _ _ c.with_file.result c.with_file.ensures in
    record { printed = all.printed; ended = all.ended; failed = all.failed; lines = all.lines; broken = all.broken }
