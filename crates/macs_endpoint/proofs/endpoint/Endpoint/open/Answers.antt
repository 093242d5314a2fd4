use Rattle.macs_endpoint.proofs.OpenedDisks.{goes_on, idle_if}
use Rattle.macs_endpoint.proofs.endpoint.Endpoint.open.Goals as goal

pub returns : goal.returns
returns g c =
    let d = g.D.SectorDisk.disk in
    goes_on d c.args.disk (g.met.D.SectorDisk.sound c.args.disk) c.open.result c.begun.result c.open.ensures
    c.begun.ensures

pub begun-requires : goal.begun-requires
begun-requires g c =
    idle_if g.D.SectorDisk.disk c.args.disk (g.met.D.SectorDisk.sound c.args.disk) c.open.result c.open.ensures
