use Rattle.macs_endpoint.proofs.WorkThroughCalls.{begun-ends, work-ends}
use Rattle.macs_endpoint.proofs.laws.work_ends.Goals as goal

pub returns-clause-stepped : goal.returns-clause-stepped
returns-clause-stepped g c = work-ends g.D.SectorDisk.disk

pub returns-clause-begun : goal.returns-clause-begun
returns-clause-begun g c = begun-ends g.D.SectorDisk.disk
