use Rattle.std.proofs.Common.{inl, inr, refl}
use Rattle.std.proofs.lemmas.Result.{IfErr-weaker}
use Rattle.macs_program.specs.Asking.{IsNoJson}
use Rattle.macs_program.proofs.answering.print_as_json.Goals as goal

pub returns-clause-failed : goal.returns-clause-failed
returns-clause-failed g c =
    IfErr-weaker c.print_json.result _ (IsNoJson c.args.text.now) (λ failure ended. elim ended [
      | inl memory ↦ inr (inl memory)
      | inr output ↦ inl output
    ]) c.print_json.ensures.ended

pub returns-in_default-clause-failed : goal.returns-in_default-clause-failed
returns-in_default-clause-failed g c = inr (inr (refl, c.in_default.ensures.cases.0))
