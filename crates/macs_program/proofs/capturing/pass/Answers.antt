use Rattle.macs_program.proofs.InFiles.{passed-in}
use Rattle.macs_program.proofs.capturing.pass.Goals as goal

pub returns : goal.returns
returns g c =
    let all = passed-in _ _ _ c.args.side c.args.is_all _ _ c.with_file.result c.with_file.ensures in
    record { printed = all.printed; ended = all.ended; failed = all.failed; silent = all.silent; broken = all.broken }
