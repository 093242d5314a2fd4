-- Why there is no copy in memory of the disk in a file.
use Rattle.std.specs.Prelude.{◌≡◌, ◌≢◌, ◌⊎◌, ◌<◌, ◌/◌, ◌%◌}
use Rattle.macs_disk.specs.Files.{Behaves, FileState}
use Rattle.macs_disk.specs.declared.file_fault.FileFault.{FileFault}
use Rattle.macs_disk.specs.declared.file_fault.FileFault.TheVariants as file_fault
use Rattle.macs_journal.specs.Areas.{least_sectors}
use Rattle.macs_journal.specs.declared.fault.JournalFault.TheVariants as journal
use Rattle.macs_cli.specs.Failing.{failure_of_file, failure_of_journal}
use Rattle.macs_cli.specs.declared.failure.Failure.{Failure}

-- there is no copy: the file cannot be measured or read, its length is not whole sectors, or memory runs out; or it has
-- too few sectors
abbrev pub CopyFails : FileState → Failure → Type 0
CopyFails file failure =
    ((fault : FileFault) × (failure ≡ failure_of_file fault)
    × (fault ≡ file_fault.Length → Behaves file → file.size % 512 ≢ 0))
    ⊎ ((failure ≡ failure_of_journal journal.TooSmall) × (Behaves file → (file.size % 512 ≡ 0)
    × (file.size / 512 < least_sectors)))
