use Rattle.macs_endpoint.proofs.OtherDisk.{backed-there}
use Rattle.macs_endpoint.proofs.laws.other_disks_back.Goals as goal

pub returns : goal.returns
returns g c = backed-there g.D.SectorDisk.disk g.E.SectorDisk.disk
