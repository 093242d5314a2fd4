use Rattle.macs_program.proofs.InFiles.{shown-in}
use Rattle.macs_program.proofs.show.show.Goals as goal

pub returns : goal.returns
returns g c =
    let all = shown-in _ _ _ _ _ c.with_file.result c.with_file.ensures in
    record { printed = all.printed; ended = all.ended; failed = all.failed; silent = all.silent; broken = all.broken }
