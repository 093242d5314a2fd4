use Rattle.std.proofs.Common.{◌∙◌}
use Rattle.std.proofs.lemmas.Result.{err_from_is_err_and}
use Rattle.macs_program.proofs.Acted.{asks_nothing, help-fails, helps, obeys, refuses}
use Rattle.macs_program.proofs.Failed.{not-taken}
use Rattle.macs_cli.proofs.Printing.{prints-text}
use Rattle.macs_cli.proofs.Subcommands.{taken_without_fault}
use Rattle.macs_cli.specs.Words.{texts}
use Rattle.macs_program.proofs.run.act.Goals as goal

pub returns-in_err-print : goal.returns-in_err-print
returns-in_err-print g c =
    let p = err_from_is_err_and c.from_residual.result c.from_residual.ensures.1 in
    let asked = (c.topic_of.ensures c.in-Some.topic).0 c.in-Some.is in
    help-fails _ _ _ _ _ _ _ _ _ c.in-Some.topic p.0 _ _ asked p.1 (p.2 ∙ c.in_err-print.ensures.failed)
    c.in_err-print.ensures.broken

pub returns-in-Some : goal.returns-in-Some
returns-in-Some g c =
    let asked = (c.topic_of.ensures c.in-Some.topic).0 c.in-Some.is in
    helps _ _ _ _ _ _ _ _ _ c.in-Some.topic _ asked (prints-text _ _ _ _ c.text.ensures c.in_ok-print.ensures.printed)

pub returns-in_err-action : goal.returns-in_err-action
returns-in_err-action g c =
    let p = err_from_is_err_and c.from_residual-in_err-action.result c.from_residual-in_err-action.ensures.1 in
    let fault = c.in_err-action.field-0.0 in
    refuses _ _ _ _ _ _ _ _ _ fault p.0 _ p.1 p.2
    (λ usage. not-taken c.action_of.result fault _ _ c.in_err-action.was c.action_of.ensures.taken usage)
    (asks_nothing (texts c.args.words.now) c.topic_of.result c.in_default.is c.topic_of.ensures)

pub returns : goal.returns
returns g c =
    let known = taken_without_fault (texts c.args.words.now) c.in_ok-action.ensures.refused in
    obeys _ _ _ _ _ _ _ _ _ c.in_ok-action.action _ _ _ known c.in_ok-action.ensures.read
    (asks_nothing (texts c.args.words.now) c.topic_of.result c.in_default.is c.topic_of.ensures)
    c.perform.ensures.performs c.perform.ensures.unread
