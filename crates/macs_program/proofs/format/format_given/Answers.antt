use Rattle.std.proofs.lemmas.Result.{err_from_is_err_and}
use Rattle.macs_program.proofs.Made.{made-told, not-made, not-told}
use Rattle.macs_program.proofs.format.format_given.Goals as goal

pub returns-in_err-format_disk : goal.returns-in_err-format_disk
returns-in_err-format_disk g c =
    let p = err_from_is_err_and c.from_residual.result c.from_residual.ensures.1 in
    not-made _ _ _ _ _ _ _ c.in_err-format_disk.field-0.0 p.0 c.from_residual.result p.1 p.2
    c.in_err-format_disk.ensures.refused
    c.in_err-format_disk.ensures.failed

pub returns-in_err-print : goal.returns-in_err-print
returns-in_err-print g c =
    let p = err_from_is_err_and c.from_residual-in_err-print.result c.from_residual-in_err-print.ensures.1 in
    not-told _ _ _ _ _ _ _ _ c.in_err-print.field-0.0 p.0 c.from_residual-in_err-print.result p.1 p.2
    c.in_err-print.ensures.failed
    c.in_err-print.ensures.broken

pub returns : goal.returns
returns g c = made-told _ _ _ _ _ _ _ _ c.in_ok-format_disk.ensures.formats c.in_ok-print.ensures.printed
