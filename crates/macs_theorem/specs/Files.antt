-- Disks in files, to which the theorem applies if their files behave.
use Rattle.std.specs.Prelude.{◌≡◌, true}
use Rattle.macs_disk.specs.Disk.{IsHonest}
use Rattle.macs_disk.specs.FileDisks.{IsBlank, IsFoundAgain, IsLeftAsShown, IsOpened, disk_in_file, file_left}
use Rattle.macs_disk.specs.Files.{Behaves, FileState, HasNothingNew, IsSoundFile}
use Rattle.macs_disk.specs.Layouts.{suits}
use Rattle.macs_disk.specs.declared.file.FileDisk.{FileDisk}
use Rattle.macs_disk.specs.declared.layout.Layout.{Layout}
use Rattle.macs_headline.specs.Binding.{IsNewDisk}
use Rattle.macs_theorem.specs.Events.{Ends, Happens, HoldsDisk}
use Rattle.macs_theorem.specs.Shown.{shown_by}

-- A disk in a file that was made blank is new, if its layout suits the blocks of the device.
abbrev pub BlankFilesAreNew : {F : Type 0} → (F → FileState) → Type 0
BlankFilesAreNew {F} file = (old new : FileState) (layout : Layout) (disk : FileDisk F)
    → IsBlank old new layout (disk_in_file file disk) → suits layout old.block ≡ true
    → IsNewDisk (disk_in_file file disk)

-- A program ends, and another one opens the file again, with nothing new in it since: that is an event. If the file
-- behaves, the disk is honest.
abbrev pub ReopeningsAreEnds : {F : Type 0} → (F → FileState) → Type 0
ReopeningsAreEnds {F} file = (old new : FileDisk F) (left : FileState) (again : Layout)
    → IsLeftAsShown file old → IsFoundAgain file old → Behaves (file (file_left old)) → IsHonest (disk_in_file file old)
    → HasNothingNew (file (file_left old)) left → IsSoundFile left → IsOpened left 0 again (disk_in_file file new)
    → Happens (disk_in_file file) shown_by (HoldsDisk old) Ends (HoldsDisk new)
