use Rattle.macs_disk.proofs.FileSectors.{inside-write}
use Rattle.macs_disk.proofs.laws.inside_a_write_a_file_leaves_what_its_disk_may.Goals as goal

pub returns : goal.returns
returns c = inside-write
