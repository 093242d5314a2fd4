use Rattle.macs_edge.proofs.AttendedFlows.{attended-flows}
use Rattle.macs_edge.proofs.laws.attended.Goals as goal

pub returns : goal.returns
returns g c = attended-flows g.D.SectorDisk.disk
