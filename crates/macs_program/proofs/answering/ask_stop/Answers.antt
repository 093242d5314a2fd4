use Rattle.std.proofs.Common.{◌∙◌, ap, false, inl, inr, refl}
use Rattle.std.proofs.lemmas.Result.{err_from_is_err_and}
use Rattle.macs_commands.specs.declared.requests.request.Request.TheVariants as request
use Rattle.macs_control.specs.Asking.{Outlives, conversation_of}
use Rattle.macs_cli.specs.Failing.{failure_of_asking}
use Rattle.macs_cli.specs.declared.failure.Failure.TheVariants.{Control}
use Rattle.macs_program.specs.Asking.{FailsToEnd}
use Rattle.macs_program.proofs.TextsAsked.{lacks-no-output, text-lacking, text-printed, text-unprinted}
use Rattle.macs_program.proofs.answering.ask_stop.Goals as goal

pub returns-in_err-answer : goal.returns-in_err-answer
returns-in_err-answer g c =
    let p = err_from_is_err_and c.from_residual.result c.from_residual.ensures.1 in
    text-lacking g.W.Stream.contents g.W.Stream.failed request.Stop Outlives FailsToEnd false
    (conversation_of g.S.Connection.link c.args.asker.now) c.args.out.now
    (conversation_of g.S.Connection.link c.done_answer.new.asker) c.in_err-answer.field-0.0 p.0 c.from_residual.result
    p.1 p.2 (inl c.in_err-answer.ensures.lacks) (lacks-no-output _ _ request.Stop _ c.in_err-answer.ensures.lacks)

pub returns-in_err-outlast : goal.returns-in_err-outlast
returns-in_err-outlast g c =
    let p = err_from_is_err_and c.from_residual-in_err-outlast.result c.from_residual-in_err-outlast.ensures.1 in
    text-lacking g.W.Stream.contents g.W.Stream.failed request.Stop Outlives FailsToEnd false
    (conversation_of g.S.Connection.link c.args.asker.now) c.args.out.now
    (conversation_of g.S.Connection.link c.outlast.new.self) Control p.0 c.from_residual-in_err-outlast.result p.1
    (p.2 ∙ ap failure_of_asking c.in_err-outlast.ensures.gone.0)
    (inr (inl (
      c.in_ok-answer.answer.text.items,
      conversation_of g.S.Connection.link c.done_answer.new.asker,
      c.in_ok-answer.ensures.asked,
      (c.in_err-outlast.ensures.gone.1, refl),
    ))) (λ output. cc)

pub returns-in_err-print_text : goal.returns-in_err-print_text
returns-in_err-print_text g c =
    let p = err_from_is_err_and c.from_residual-in_err-print_text.result
    c.from_residual-in_err-print_text.ensures.1 in
    text-unprinted g.W.Stream.contents g.W.Stream.failed request.Stop Outlives FailsToEnd false
    (conversation_of g.S.Connection.link c.args.asker.now) c.args.out.now
    (conversation_of g.S.Connection.link c.done_answer.new.asker)
    (conversation_of g.S.Connection.link c.outlast.new.self) c.in_ok-answer.answer.text.items c.as_slice.result.now
    c.print_text.new.out c.in_err-print_text.field-0.0 p.0 c.from_residual-in_err-print_text.result p.1 p.2
    c.in_ok-answer.ensures.asked c.in_ok-outlast.ensures.over c.as_slice.ensures.value
    c.in_err-print_text.ensures.failed
    c.in_err-print_text.ensures.silent c.in_err-print_text.ensures.broken

pub returns : goal.returns
returns g c =
    text-printed g.W.Stream.contents g.W.Stream.failed request.Stop Outlives FailsToEnd false
    (conversation_of g.S.Connection.link c.args.asker.now) c.args.out.now
    (conversation_of g.S.Connection.link c.done_answer.new.asker)
    (conversation_of g.S.Connection.link c.outlast.new.self) c.in_ok-answer.answer.text.items c.as_slice.result.now
    c.print_text.new.out c.in_ok-answer.ensures.asked c.in_ok-outlast.ensures.over c.as_slice.ensures.value
    c.in_ok-print_text.ensures.printed
