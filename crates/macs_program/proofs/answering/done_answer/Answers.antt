use Rattle.std.proofs.lemmas.Result.{err_from_is_err_and}
use Rattle.macs_control.specs.Asking.{conversation_of}
use Rattle.macs_program.proofs.TextsAsked.{unheard-lacks}
use Rattle.macs_program.proofs.answering.done_answer.Goals as goal

pub returns-in_err-answer-clause-lacks : goal.returns-in_err-answer-clause-lacks
returns-in_err-answer-clause-lacks g c =
    let p = err_from_is_err_and c.from_residual.result c.from_residual.ensures.1 in
    unheard-lacks (conversation_of g.S.Connection.link c.args.asker.now)
    (conversation_of g.S.Connection.link c.answer_to.new.asker) c.args.request.now c.in_err-answer.field-0.0 p.0
    c.from_residual.result p.1 p.2 c.in_err-answer.ensures.vain
