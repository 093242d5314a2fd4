use Rattle.std.proofs.Common.{◌∙◌, List, ℕ, ap, subst}
use Rattle.macs_cli.specs.Reasons.{Complains, Tells, reason_text}
use Rattle.macs_cli.proofs.file_reason.failure_at.Goals as goal

pub returns-clause-reason : goal.returns-clause-reason
returns-clause-reason c =
    subst (λ (why : List ℕ). Complains (Tells c.args.word.now c.args.name.now why) c.failure_told.result)
    (c.reason_text.ensures ∙ ap reason_text c.kind-kind.ensures) c.failure_told.ensures
