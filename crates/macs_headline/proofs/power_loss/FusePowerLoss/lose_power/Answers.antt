use Rattle.std.proofs.Common.{◌+◌, arith, min, subst, sym}
use Rattle.macs_disk.specs.Fuses.{FuseValue, disk_of_fuse}
use Rattle.macs_headline.specs.Endings.{LosesPower}
use Rattle.macs_headline.proofs.PlayedLosses.{fuse-loses}
use Rattle.macs_headline.proofs.power_loss.FusePowerLoss.lose_power.Goals as goal

pub returns : goal.returns
returns g c =
    let disk = g.D.SectorDisk.disk in
    let old = c.args.self in
    let left = subst (λ it. LosesPower (disk it) (disk it).clock (disk c.lose_power.result)) c.into_inner.ensures
    c.lose_power.ensures in
    subst (λ (new : FuseValue g.row.D.Denot). LosesPower (disk_of_fuse disk old) ((disk old.inner).clock + old.missed)
    (disk_of_fuse disk new)) (sym c.new.ensures)
    (fuse-loses (disk old.inner) (disk c.lose_power.result) (min (disk old.when).clock (disk old.inner).clock)
    old.missed old.added
    (min (disk c.lose_power.result).clock (disk c.lose_power.result).clock) (omega arith) (omega arith) left)
