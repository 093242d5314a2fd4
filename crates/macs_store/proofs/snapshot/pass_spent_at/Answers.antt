use Rattle.std.proofs.Common.{◌∙◌, sym}
use Rattle.macs_store.proofs.snapshot.pass_spent_at.Goals as goal

pub pass_over_fingerprints-requires-clause-other : goal.pass_over_fingerprints-requires-clause-other
pass_over_fingerprints-requires-clause-other c = sym c.is_here.ensures ∙ c.if-is_here.false
