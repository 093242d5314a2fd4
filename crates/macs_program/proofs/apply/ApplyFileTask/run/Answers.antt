use Rattle.std.proofs.lemmas.Result.{err_from_is_err_and}
use Rattle.std.proofs.Common.{◌∙◌, sym}
use Rattle.macs_program.proofs.InFiles.{file-applied, none-applied, other-applied}
use Rattle.macs_program.proofs.apply.ApplyFileTask.run.Goals as goal

pub returns-in_err-told : goal.returns-in_err-told
returns-in_err-told g c =
    let p = err_from_is_err_and c.from_residual.result c.from_residual.ensures.1 in
    none-applied _ _ _ _ _ _ c.in_err-told.field-0.0 p.0 c.from_residual.result p.1 p.2
    c.in_err-told.ensures.failed

pub returns-then-not-is_own : goal.returns-then-not-is_own
returns-then-not-is_own g c = other-applied _ _ _ _ _ _

pub returns-in_err-note_keys : goal.returns-in_err-note_keys
returns-in_err-note_keys g c =
    let p = err_from_is_err_and c.from_residual-in_err-note_keys.result
    c.from_residual-in_err-note_keys.ensures.1 in
    none-applied _ _ _ _ _ _ c.in_err-note_keys.field-0.0 p.0 c.from_residual-in_err-note_keys.result p.1 p.2
    c.in_err-note_keys.ensures

pub returns : goal.returns
returns g c =
    let said = c.apply_commands.ensures in
    file-applied _ _ _ _ _ _ _ _ c.in_ok-told.told.end c.in_ok-told.told.commands.items c.as_slice-commands.result.now
    c.apply_commands.result c.in_ok-told.ensures.spelled c.in_ok-told.ensures.said
    (sym c.is_own.ensures ∙ c.if-not-is_own.false)
    c.as_slice-commands.ensures.value said.applied said.ended said.broken
