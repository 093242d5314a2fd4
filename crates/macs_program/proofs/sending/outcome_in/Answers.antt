use Rattle.std.proofs.Common.{◌∙◌, arith, refl, sym}
use Rattle.macs_cli.specs.declared.failure.Failure.TheVariants.{Control}
use Rattle.macs_program.proofs.Conversed.{is-kept, is-neither, is-refused}
use Rattle.macs_program.proofs.sending.outcome_in.Goals as goal

pub returns-in-0 : goal.returns-in-0
returns-in-0 c = is-kept c.args.answer.now.status c.args.answer.now.text.items c.in-0.is

pub returns-in-Some : goal.returns-in-Some
returns-in-Some c =
    is-refused c.args.answer.now.status c.args.answer.now.text.items c.in-Some.refusal c.in-3.is
    (sym c.as_slice.ensures.value ∙ c.in-Some.ensures.found)

pub returns-in-None : goal.returns-in-None
returns-in-None c =
    is-neither c.args.answer.now.status c.args.answer.now.text.items Control (λ none. omega arith) (rw c.in-3.is)
    (λ refused refusal same. c.in-None.ensures.none refl refusal (c.as_slice.ensures.value ∙ same))

pub returns-in_default : goal.returns-in_default
returns-in_default c =
    is-neither c.args.answer.now.status c.args.answer.now.text.items c.failure_in.result (λ none. omega arith)
    c.failure_in.ensures (λ refused. absurd (omega arith))
