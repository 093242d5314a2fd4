use Rattle.macs_control.proofs.ServedClients.{clients-served}
use Rattle.macs_control.proofs.desk.laws.clients_are_served.Goals as goal

pub returns : goal.returns
returns g c = clients-served g.C.Clients.does g.D.SectorDisk.disk
