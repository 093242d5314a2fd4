use Rattle.std.proofs.lemmas.Result.{IfErr-weaker}
use Rattle.macs_program.proofs.about.about.Goals as goal

pub returns-clause-silent : goal.returns-clause-silent
returns-clause-silent g c =
    IfErr-weaker c.print_last.result _ _ (λ failure output other. absurd (other output)) c.print_last.ensures.failed
