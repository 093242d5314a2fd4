use Rattle.std.proofs.Common.{List, ℕ, codes, subst}
use Rattle.macs_cli.specs.Reasons.{Complains, Tells}
use Rattle.macs_offline.proofs.inspect.failure_of_header.Goals as goal

pub returns : goal.returns
returns g c = (
  c.if-eq.is_pcapng,
  subst (λ (why : List ℕ). Complains (Tells (codes "capture") c.args.name.now why) c.failure_told.result)
      c.header_text.ensures c.failure_told.ensures,
)
