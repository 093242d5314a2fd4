use Rattle.std.proofs.Common.{List, ℕ, codes, subst}
use Rattle.macs_cli.specs.Reasons.{Complains, Tells}
use Rattle.macs_program.proofs.asking.unanswered.Goals as goal

pub returns : goal.returns
returns c =
    subst (λ (why : List ℕ). Complains (Tells (codes "control") c.args.path.now why) c.failure_told.result)
    c.text.ensures c.failure_told.ensures
