use Rattle.std.proofs.lemmas.Result.{err_from_is_err_and}
use Rattle.macs_program.proofs.InFiles.{no-disk, run-in}
use Rattle.macs_program.proofs.task.with_file.Goals as goal

pub returns-in_err-disk : goal.returns-in_err-disk
returns-in_err-disk g c =
    let p = err_from_is_err_and c.from_residual.result c.from_residual.ensures.1 in
    no-disk _ _ _ c.in_err-disk.field-0.0 p.0 c.from_residual.result p.1 p.2 c.in_err-disk.ensures.file

pub returns : goal.returns
returns g c = run-in _ _ _ _ _ c.with_disk.result c.in_ok-disk.ensures.disk c.with_disk.ensures
