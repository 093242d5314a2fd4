use Rattle.macs_disk.specs.MemDisks.{memory_of}
use Rattle.macs_headline.proofs.PlayedLosses.{crashed-loses}
use Rattle.macs_headline.proofs.power_loss.MemDiskPowerLoss.lose_power.Goals as goal

pub returns : goal.returns
returns g c =
    crashed-loses (memory_of c.args.self) (memory_of c.crash.new.self) c.crash.ensures.crashed c.crash.ensures.image
