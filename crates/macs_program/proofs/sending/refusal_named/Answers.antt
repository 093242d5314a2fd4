use Rattle.std.proofs.Common.{◌≡◌, ◌∙◌, arith, subst}
use Rattle.macs_program.proofs.Refused.{AreOthers, none-named, others-more}
use Rattle.macs_program.proofs.sending.refusal_named.Goals as goal

pub loop-refusal-preserved : goal.loop-refusal-preserved
loop-refusal-preserved c =
    let name = c.args.name.now in
    others-more name c.as_bytes.result.now c.loop-refusal.refusal-index _ c.eq.result c.loop-refusal-test.true
    (c.as_bytes.ensures.value ∙ c.refusal_name.ensures.name) c.eq.ensures c.if-eq.false c.loop-refusal.invariant

pub returns-clause-none : goal.returns-clause-none
returns-clause-none c = λ none refusal.
    none-named c.args.name.now refusal
    (subst (AreOthers c.args.name.now)
    (let all : c.loop-refusal.refusal-index ≡ 12 = omega arith in all) c.loop-refusal.invariant)
