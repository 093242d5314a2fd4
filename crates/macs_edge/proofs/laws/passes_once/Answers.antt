use Rattle.macs_edge.proofs.Once.{passes-once}
use Rattle.macs_edge.proofs.laws.passes_once.Goals as goal

pub returns : goal.returns
returns c = passes-once
