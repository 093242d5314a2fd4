-- The endpoint that a subcommand opens on a disk in a file.
use Rattle.std.specs.Prelude.{◌≡◌, ◌⊎◌}
use Rattle.macs_disk.specs.FileDisks.{IsFresh, IsMadeWell, IsOpened, disk_in_file, file_given, file_made, layout_of}
use Rattle.macs_disk.specs.Files.{FileState}
use Rattle.macs_disk.specs.declared.file.FileDisk.{FileDisk}
use Rattle.macs_disk.specs.declared.file_fault.FileFault.{FileFault}
use Rattle.macs_endpoint.specs.Opening.{Opens, RefusesOpening}
use Rattle.macs_endpoint.specs.Value.{EndpointValue}
use Rattle.macs_journal.specs.declared.fault.JournalFault.{JournalFault}
use Rattle.macs_cli.specs.Failing.{failure_of_file, failure_of_journal}
use Rattle.macs_cli.specs.declared.failure.Failure.{Failure}

-- a disk was opened in a copy of a file with this state, the same length, and no call of it has been made yet
pub record IsDiskIn {F : Type 0} (file : F → FileState) (disk : FileDisk F) : Type 0 where
  pub known : IsMadeWell file (file_given disk) (file_made disk)
      → IsOpened (file (file_given disk)) 0 (layout_of disk) (disk_in_file file disk)
  pub fresh : IsFresh (disk_in_file file disk)

-- an endpoint was opened on such a disk
pub record IsEndpointIn {F : Type 0} (file : F → FileState) (endpoint : EndpointValue (FileDisk F)) : Type 0 where
  pub disk : FileDisk F
  pub is_disk : IsDiskIn file disk
  pub opens : Opens (disk_in_file file) disk endpoint

-- such a disk was refused because of what is on it or because a device call failed, and this is the failure
pub record IsRefusedIn {F : Type 0} (file : F → FileState) (failure : Failure) : Type 0 where
  pub disk : FileDisk F
  pub left : FileDisk F
  pub fault : JournalFault
  pub is_disk : IsDiskIn file disk
  pub refuses : RefusesOpening (disk_in_file file) disk left fault
  pub is : failure ≡ failure_of_journal fault

-- no endpoint is opened: there is no disk in the file, or the disk is refused
abbrev pub OpeningFails : {F : Type 0} → (F → FileState) → Failure → Type 0
OpeningFails file failure = ((fault : FileFault) × (failure ≡ failure_of_file fault)) ⊎ IsRefusedIn file failure
