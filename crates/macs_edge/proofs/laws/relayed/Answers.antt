use Rattle.macs_edge.proofs.Flowing.{relay-flows}
use Rattle.macs_edge.proofs.laws.relayed.Goals as goal

pub returns : goal.returns
returns g c = relay-flows g.D.SectorDisk.disk
