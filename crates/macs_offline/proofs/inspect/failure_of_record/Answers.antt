use Rattle.std.proofs.Common.{List, ℕ, codes, subst}
use Rattle.macs_cli.specs.Reasons.{Complains, Tells}
use Rattle.macs_offline.proofs.inspect.failure_of_record.Goals as goal

pub returns-in_default : goal.returns-in_default
returns-in_default c = (
  λ memory. absurd (c.in_default.not-Memory memory),
  subst (λ (why : List ℕ). Complains (Tells (codes "capture") c.args.name.now why) c.failure_told.result)
      c.record_text.ensures c.failure_told.ensures,
)
