use Rattle.macs_disk.proofs.FileSectors.{file-image}
use Rattle.macs_disk.proofs.laws.a_file_leaves_what_its_disk_may.Goals as goal

pub returns : goal.returns
returns c = file-image
