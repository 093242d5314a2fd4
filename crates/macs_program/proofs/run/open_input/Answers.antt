use Rattle.std.proofs.Common.{◌∙◌, inl, inr}
use Rattle.std.proofs.lemmas.Result.{err_from_is_err_and}
use Rattle.macs_offline.specs.Opened.{Answers}
use Rattle.macs_program.proofs.Printing.{answered, prints, refused-first}
use Rattle.macs_program.proofs.run.open_input.Goals as goal

pub returns-clause-printed : goal.returns-clause-printed
returns-clause-printed g c =
    let answers : Answers c.in_ok-text.text.items c.in_ok-answer.answer =
    rw c.as_slice.ensures.value at c.in_ok-answer.ensures.answer in
    prints (g.R.Input.remaining c.args.input.now) (g.W.Stream.contents c.args.out.now)
    (g.W.Stream.contents c.print.new.out) c.in_ok-text.text.items c.as_str.result.now c.in_ok-answer.answer
    c.status.result c.in_ok-text.ensures.read answers
    (c.as_str.ensures.value ∙ c.in_ok-line_of.ensures) c.in_ok-print.ensures.printed c.status.ensures

pub returns-clause-status : goal.returns-clause-status
returns-clause-status g c = answered c.in_ok-answer.answer c.status.result c.status.ensures

pub returns-in_err-text-clause-ended : goal.returns-in_err-text-clause-ended
returns-in_err-text-clause-ended g c =
    let p = err_from_is_err_and c.from_residual.result c.from_residual.ensures.1 in
    rw (p.1, p.2) (inl (c.in_err-text.ensures.failed, c.in_err-text.ensures.broken))

pub returns-in_err-answer-clause-ended : goal.returns-in_err-answer-clause-ended
returns-in_err-answer-clause-ended g c =
    let p = err_from_is_err_and c.from_residual-in_err-answer.result c.from_residual-in_err-answer.ensures.1 in
    let fault = c.in_err-answer.field-0.0 in
    let first = (c.answer_of-answer.ensures.fault fault).0 c.in_err-answer.was in
    rw p.1 (inr (inl (
      fault,
      p.2,
      refused-first (g.R.Input.remaining c.args.input.now) c.in_ok-text.text.items c.as_slice.result.now fault
          c.in_ok-text.ensures.read c.as_slice.ensures.value first,
    )))
