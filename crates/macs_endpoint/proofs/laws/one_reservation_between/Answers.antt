use Rattle.macs_endpoint.proofs.Between.{one-between}
use Rattle.macs_endpoint.proofs.laws.one_reservation_between.Goals as goal

pub returns : goal.returns
returns g c = one-between g.D.SectorDisk.disk
