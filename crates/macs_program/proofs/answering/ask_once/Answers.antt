use Rattle.std.proofs.Common.{inl, refl}
use Rattle.std.proofs.lemmas.Result.{err_from_is_err_and}
use Rattle.macs_control.specs.Asking.{conversation_of}
use Rattle.macs_program.specs.Asking.{FailsNowhere, SaysNoMore}
use Rattle.macs_program.proofs.TextsAsked.{lacks-no-output, text-lacking, text-printed, text-unprinted}
use Rattle.macs_program.proofs.answering.ask_once.Goals as goal

pub returns-in_err-answer : goal.returns-in_err-answer
returns-in_err-answer g c =
    let p = err_from_is_err_and c.from_residual.result c.from_residual.ensures.1 in
    text-lacking g.W.Stream.contents g.W.Stream.failed c.args.request SaysNoMore FailsNowhere c.args.is_json
    (conversation_of g.S.Connection.link c.args.asker.now) c.args.out.now
    (conversation_of g.S.Connection.link c.done_answer.new.asker) c.in_err-answer.field-0.0 p.0 c.from_residual.result
    p.1 p.2 (inl c.in_err-answer.ensures.lacks) (lacks-no-output _ _ c.args.request _ c.in_err-answer.ensures.lacks)

pub returns-in_err-print_text : goal.returns-in_err-print_text
returns-in_err-print_text g c =
    let p = err_from_is_err_and c.from_residual-in_err-print_text.result
    c.from_residual-in_err-print_text.ensures.1 in
    text-unprinted g.W.Stream.contents g.W.Stream.failed c.args.request SaysNoMore FailsNowhere c.args.is_json
    (conversation_of g.S.Connection.link c.args.asker.now) c.args.out.now
    (conversation_of g.S.Connection.link c.done_answer.new.asker)
    (conversation_of g.S.Connection.link c.done_answer.new.asker) c.in_ok-answer.answer.text.items c.as_slice.result.now
    c.print_text.new.out c.in_err-print_text.field-0.0 p.0 c.from_residual-in_err-print_text.result p.1 p.2
    c.in_ok-answer.ensures.asked refl c.as_slice.ensures.value c.in_err-print_text.ensures.failed
    c.in_err-print_text.ensures.silent
    c.in_err-print_text.ensures.broken

pub returns : goal.returns
returns g c =
    text-printed g.W.Stream.contents g.W.Stream.failed c.args.request SaysNoMore FailsNowhere c.args.is_json
    (conversation_of g.S.Connection.link c.args.asker.now) c.args.out.now
    (conversation_of g.S.Connection.link c.done_answer.new.asker)
    (conversation_of g.S.Connection.link c.done_answer.new.asker) c.in_ok-answer.answer.text.items
    c.as_slice.result.now c.print_text.new.out c.in_ok-answer.ensures.asked refl c.as_slice.ensures.value
    c.in_ok-print_text.ensures.printed
