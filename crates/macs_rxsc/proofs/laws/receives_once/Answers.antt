use Rattle.macs_rxsc.proofs.Steps.{receives_once}
use Rattle.macs_rxsc.proofs.laws.receives_once.Goals as goal

pub returns : goal.returns
returns c = receives_once
