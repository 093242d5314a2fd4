use Rattle.std.proofs.Common.{◌∙◌, List, ℕ, ap, codes, inr, refl, string_bytes, subst}
use Rattle.macs_cli.specs.Reasons.{Tells, reason_text}
use Rattle.macs_cli.proofs.file_reason.failure_at_disk.Goals as goal

pub returns-in-Ok-clause-reason : goal.returns-in-Ok-clause-reason
returns-in-Ok-clause-reason c = inr (
  c.in-Ok.text,
  refl,
  subst (λ (why : List ℕ). Tells (codes "disk file") c.args.name.now why (string_bytes c.in-Ok.text))
      (c.reason_text.ensures ∙ ap reason_text c.kind-kind.ensures) c.in-Ok.ensures,
)
