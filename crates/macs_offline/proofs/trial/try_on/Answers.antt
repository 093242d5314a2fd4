use Rattle.macs_disk.specs.MemDisks.{disk_of}
use Rattle.macs_offline.proofs.NoneWaits.{opening-none}
use Rattle.macs_offline.proofs.trial.try_on.Goals as goal

pub try_opened-requires : goal.try_opened-requires
try_opened-requires c = opening-none disk_of c.args.copy c.open.result c.open.ensures
