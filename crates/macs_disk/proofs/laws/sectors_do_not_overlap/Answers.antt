use Rattle.macs_disk.proofs.FileSectors.{apart-at}
use Rattle.macs_disk.proofs.laws.sectors_do_not_overlap.Goals as goal

pub returns : goal.returns
returns c = apart-at
