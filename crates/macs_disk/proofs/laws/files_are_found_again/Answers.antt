use Rattle.macs_disk.proofs.FoundAgain.{found-opened, found-copied}
use Rattle.macs_disk.proofs.laws.files_are_found_again.Goals as goal

pub returns-clause-copied : goal.returns-clause-copied
returns-clause-copied c = found-copied

pub returns-clause-opened : goal.returns-clause-opened
returns-clause-opened c = found-opened
