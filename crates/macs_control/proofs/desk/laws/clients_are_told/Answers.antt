use Rattle.macs_control.proofs.Served.{clients-told}
use Rattle.macs_control.proofs.desk.laws.clients_are_told.Goals as goal

pub returns : goal.returns
returns g c = clients-told g.D.SectorDisk.disk
