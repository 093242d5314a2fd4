use Rattle.macs_rxsc.proofs.Steps.{arrives_once, settled_or_arrives}
use Rattle.macs_rxsc.proofs.laws.settled_or_arrives.Goals as goal

pub returns-clause-either : goal.returns-clause-either
returns-clause-either c = settled_or_arrives

pub returns-clause-once : goal.returns-clause-once
returns-clause-once c = arrives_once
