use Rattle.macs_endpoint.proofs.AsBegun.{as-begun}
use Rattle.macs_endpoint.proofs.laws.reserved_as_begun.Goals as goal

pub returns : goal.returns
returns g c = as-begun g.D.SectorDisk.disk
