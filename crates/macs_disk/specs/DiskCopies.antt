-- A copy in memory of the disk in a file.
use Rattle.std.specs.Prelude.{◌≡◌, ◌<◌, ◌≤◌, ◌/◌, ◌%◌, ℕ, Option, Some, None}
use Rattle.macs_disk.specs.Disk.{Disk, IsHonest, now}
use Rattle.macs_disk.specs.FileDisks.{image_in_file}
use Rattle.macs_disk.specs.Files.{FileState}
use Rattle.macs_disk.specs.Layouts.{layout_in, spaced_sectors}
use Rattle.macs_disk.specs.MemDisks.{disk_of}
use Rattle.macs_disk.specs.declared.disk_copy.DiskCopy.{DiskCopy}

-- each of the first 1,028 sectors is the same as in the file, packed or spaced
pub record IsDiskCopy (file : FileState) (copy : Disk) : Type 0 where
  pub sectors : copy.sectors ≡ spaced_sectors
  pub honest : IsHonest copy
  pub seen : (at : ℕ) → at < spaced_sectors → (now copy).seen at ≡ image_in_file (layout_in file) file.seen at

-- the disk in a file of whole sectors is copied; not if there are fewer
abbrev pub IsCopied : FileState → Option DiskCopy → Type 0
IsCopied file None = (file.size % 512 ≡ 0) × (file.size / 512 < spaced_sectors)
IsCopied file (Some copy) = (file.size % 512 ≡ 0) × (spaced_sectors ≤ file.size / 512)
    × IsDiskCopy file (disk_of copy.disk) × (copy.layout ≡ layout_in file)
