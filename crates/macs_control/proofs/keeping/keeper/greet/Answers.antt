use Rattle.macs_control.proofs.KeeperWork.{greets}
use Rattle.macs_control.proofs.keeping.keeper.greet.Goals as goal

pub returns-clause-given : goal.returns-clause-given
returns-clause-given g c =
    greets _ _ c.octets.result c.sectors.result (g.D.SectorDisk.disk c.args.disk.now).sectors c.try_send.result
    c.octets.ensures c.sectors.ensures c.try_send.ensures.given
