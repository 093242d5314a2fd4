use Rattle.macs_edge.proofs.Whole.{becomes-once}
use Rattle.macs_edge.proofs.laws.becomes_once.Goals as goal

pub returns : goal.returns
returns c = becomes-once
