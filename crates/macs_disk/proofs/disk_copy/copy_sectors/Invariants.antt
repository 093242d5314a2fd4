use Rattle.std.proofs.Common.{◌≡◌, ◌<◌, ℕ}
use Rattle.macs_disk.specs.Disk.{now}
use Rattle.macs_disk.specs.FileDisks.{image_in_file}
use Rattle.macs_disk.specs.Files.{Behaves}
use Rattle.macs_disk.specs.Layouts.{spaced_sectors}
use Rattle.macs_disk.specs.MemDisks.{disk_of}
use Rattle.macs_disk.proofs.disk_copy.copy_sectors.Given as goal

-- the file is as it was, and each sector so far is copied
abbrev pub invariant-loop-at : goal.invariant-loop-at
invariant-loop-at g l =
    let file = g.F.DiskFile.file l.initial.file in
    ((g.F.DiskFile.file l.file).behaves ≡ file.behaves)
    × (Behaves file → g.F.DiskFile.file l.file ≡ file)
    × ((disk_of l.copy).sectors ≡ spaced_sectors)
    × (Behaves file → (k : ℕ) → k < l.at → (now (disk_of l.copy)).seen k ≡ image_in_file l.layout file.seen k)
