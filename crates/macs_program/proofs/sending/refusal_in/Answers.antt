use Rattle.macs_program.proofs.Refused.{no-refusal}
use Rattle.macs_program.proofs.sending.refusal_in.Goals as goal

pub returns-clause-none : goal.returns-clause-none
returns-clause-none c = λ none refusal.
    no-refusal c.args.text.now c.in_ok-name.name.now refusal c.in_ok-name.ensures
    (c.refusal_named.ensures.none none refusal)
