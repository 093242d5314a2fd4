use Rattle.std.proofs.Common.{◌∙◌, ap, Err, IfErr, inl, subst, sym}
use Rattle.std.proofs.lemmas.Result.{err_from_is_err_and}
use Rattle.macs_control.specs.Asking.{conversation_of}
use Rattle.macs_program.specs.Asking.{AsksInVain}
use Rattle.macs_program.proofs.Conversed.{vain-read}
use Rattle.macs_program.proofs.answering.answer_to.Goals as goal

pub returns-in_err-send_request-clause-vain : goal.returns-in_err-send_request-clause-vain
returns-in_err-send_request-clause-vain g c =
    let p = err_from_is_err_and c.from_residual.result c.from_residual.ensures.1 in
    subst (λ r. IfErr r (λ failure. AsksInVain (conversation_of g.S.Connection.link c.args.asker.now) c.args.request.now
    failure (conversation_of g.S.Connection.link c.send_request.new.asker))) (sym (p.1 ∙ ap Err p.2))
    (inl (c.in_err-send_request.ensures.failed, c.in_err-send_request.ensures.cut))

pub returns-in_err-answer-clause-vain : goal.returns-in_err-answer-clause-vain
returns-in_err-answer-clause-vain g c =
    let p = err_from_is_err_and c.from_residual-in_err-answer.result c.from_residual-in_err-answer.ensures.1 in
    subst (λ r. IfErr r (λ failure. AsksInVain (conversation_of g.S.Connection.link c.args.asker.now) c.args.request.now
    failure (conversation_of g.S.Connection.link c.answer.new.self))) (sym p.1)
    (vain-read (conversation_of g.S.Connection.link c.args.asker.now) c.args.request.now
    (conversation_of g.S.Connection.link c.send_request.new.asker) _ c.in_err-answer.field-0.0 _ p.2
    c.in_ok-send_request.ensures.sent c.in_err-answer.ensures.cut c.in_err-answer.ensures.gone)

pub returns-clause-asked : goal.returns-clause-asked
returns-clause-asked g c = (
  conversation_of g.S.Connection.link c.send_request.new.asker,
  c.in_ok-send_request.ensures.sent,
  c.in_ok-answer.ensures.answer,
)
