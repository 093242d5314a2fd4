-- What a `FileDisk` is.
use Rattle.std.specs.Prelude.{◌≡◌, ◌≤◌, ◌<◌, ◌-◌, ◌/◌, ◌%◌, ◌^◌, ◌==◌, ◌&&◌, ◌⊎◌, ℕ, Bool, true, false, max, nat_le}
use Rattle.std.specs.Prelude.{get_or, replicate, Result, IsErr}
use Rattle.macs_disk.specs.States.{DiskState, Image, zero_sector}
use Rattle.macs_disk.specs.Disk.{Disk, IsDeviceCall, IsHonest, now}
use Rattle.macs_disk.specs.Files.{Behaves, FileState, IsCopy, IsMadeBeside, IsSure, file_after_sync, file_after_write}
use Rattle.macs_disk.specs.Files.{file_in_doubt, values_from}
use Rattle.macs_disk.specs.Layouts.{layout_in, mark, mark_place, place, sectors_in, suits}
use Rattle.macs_disk.specs.declared.disk.DeviceFault.{DeviceFault}
use Rattle.macs_disk.specs.declared.file.FileDisk.{FileDisk}
use Rattle.macs_disk.specs.declared.claimed_file.ClaimedFile.{ClaimedFile}
use Rattle.macs_disk.specs.declared.settled_file.SettledFile.{SettledFile}
use Rattle.macs_disk.specs.declared.layout.Layout.{Layout}
use Rattle.macs_disk.specs.declared.layout.Layout.TheVariants.{Packed, Spaced}

-- a file as sectors: each is the 512 octets at its place, and pending if the device block that holds them is
unfoldable pub state_in_file : Layout → FileState → DiskState
state_in_file layout file =
    record {
      seen = λ i. values_from file.seen (place layout i) 512;
      durable = λ i. values_from file.durable (place layout i) 512;
      pending = λ i. file.pending (place layout i / file.block);
    }

-- the octets of a file by its sectors
abbrev pub image_in_file : Layout → (ℕ → ℕ) → Image
image_in_file layout octets i = values_from octets (place layout i) 512

-- a file in which a disk may be kept: it behaves, shows what the next sync makes durable, and no block of the device
-- holds two sectors
abbrev pub keeps_disk : Layout → FileState → Bool
keeps_disk layout file = file.behaves && file.is_sure && suits layout file.block

-- a file is ready for the first call of a disk: nothing is pending, and a power loss leaves it at least this many
-- sectors long
abbrev pub is_ready : Layout → ℕ → FileState → Bool
is_ready layout sectors file = file.is_clean && file.is_size_durable && nat_le (place layout sectors) file.size

-- a disk in a file with this state. It is honest if the file can keep it, and was ready before its first call. It is
-- worn once its clock is full.
abbrev pub disk_in_file : {F : Type 0} → (F → FileState) → FileDisk F → Disk
disk_in_file file it =
    record {
      sectors = it.sectors;
      past = λ k. state_in_file it.layout (file (get_or it.past.items k it.shown).value);
      clock = it.clock;
      failures = it.failures;
      honest = keeps_disk it.layout (file it.shown.value)
          && is_ready it.layout it.sectors (file (get_or it.past.items 0 it.shown).value);
      worn = it.clock == 2 ^ 64 - 1;
      prompt = true;
    }

-- the file whose octets a disk started with, as it was claimed
abbrev pub file_given : {F : Type 0} → FileDisk F → F
file_given it = it.given.value

-- the file of the disk, as it was made
abbrev pub file_made : {F : Type 0} → FileDisk F → F
file_made it = it.made.value

-- its file now
abbrev pub file_left : {F : Type 0} → FileDisk F → F
file_left it = it.file

-- its file as the disk shows it: after a failed sync, as it was before
abbrev pub file_shown : {F : Type 0} → FileDisk F → F
file_shown it = it.shown.value

-- its file is left as the disk shows it, or in doubt, after a failed sync
abbrev pub IsLeftAsShown : {F : Type 0} → (F → FileState) → FileDisk F → Type 0
IsLeftAsShown file it = Behaves (file (file_left it))
    → (file (file_left it) ≡ file (file_shown it)) ⊎ (file (file_left it) ≡ file_in_doubt (file (file_shown it)))

-- a call of it failed, so that all later ones fail
abbrev pub is_stopped : {F : Type 0} → FileDisk F → Bool
is_stopped it = it.is_failed

-- a call was refused before it reached the file, because the disk is worn or an earlier call of it failed. Regardless
-- of the error, it is a call of the disk, and the state of the disk is unchanged.
pub record IsRefused {F : Type 0} (file : F → FileState) (old new : FileDisk F) : Type 0 where
  pub call : (answer : Result (Unit {0}) DeviceFault) → IsErr answer
      → IsDeviceCall (disk_in_file file old) (disk_in_file file new) answer
  pub still : now (disk_in_file file new) ≡ now (disk_in_file file old)
  pub stopped : (is_stopped new ≡ true) ⊎ ((disk_in_file file new).worn ≡ true)

-- the layout of its sectors in the file
abbrev pub layout_of : {F : Type 0} → FileDisk F → Layout
layout_of it = it.layout

-- how many sectors it has
abbrev pub sectors_of : {F : Type 0} → FileDisk F → ℕ
sectors_of it = it.sectors

-- the layout of a file is found, no matter what a power loss leaves: the octets at the place of the mark are durable,
-- and their block is not pending, if the device's blocks suit the layout. The size is durable, or the file ends before
-- that place.
pub record KeepsLayout (layout : Layout) (file : FileState) : Type 0 where
  pub found : layout_in file ≡ layout
  pub durable : values_from file.durable mark_place 512 ≡ values_from file.seen mark_place 512
  pub still : suits layout file.block ≡ true → file.pending (mark_place / file.block) ≡ false
  pub sized : (file.is_size_durable ≡ true) ⊎ (file.size ≤ mark_place)

-- a file is found as a disk with this layout and number of sectors, even after a power loss
pub record IsFoundAs (layout : Layout) (sectors : ℕ) (file : FileState) : Type 0 where
  pub whole : file.size % 512 ≡ 0
  pub count : sectors_in layout file.size ≡ sectors
  pub is_size_durable : file.is_size_durable ≡ true
  pub keeps : KeepsLayout layout file

-- the file of a disk, as it is left, is found again as a disk with its layout and its sectors. Until a call fails it
-- shows what the next sync makes durable.
abbrev pub IsFoundAgain : {F : Type 0} → (F → FileState) → FileDisk F → Type 0
IsFoundAgain file it = Behaves (file (file_left it))
    → IsFoundAs (layout_of it) (sectors_of it) (file (file_left it))
    × (is_stopped it ≡ false → IsSure (file (file_left it)))

-- the file extended to this length with zeros, durably
abbrev pub file_lengthened : FileState → ℕ → FileState
file_lengthened file size = file_after_sync (file_after_write file file.size (replicate (size - file.size) 0))

-- an empty file got the first `done` octets of another one, which behaves
pub record HasFront (from : FileState) (done : ℕ) (into : FileState) : Type 0 where
  pub behaves : Behaves into
  pub block : into.block ≡ from.block
  pub size : into.size ≡ done
  pub is_sure : IsSure into
  pub shown : (p : ℕ) → p < done → into.seen p ≡ from.seen p

-- the measured length of a claimed file in octets
abbrev pub octets_measured : {F : Type 0} → ClaimedFile F → ℕ
octets_measured it = it.octets

-- a claimed file was measured, and has whole sectors
pub record IsMeasured {F : Type 0} (file : F → FileState) (it : ClaimedFile F) : Type 0 where
  pub size : octets_measured it ≡ (file it.file).size
  pub whole : octets_measured it % 512 ≡ 0

-- the original file, as it was claimed
abbrev pub file_before : {F : Type 0} → SettledFile F → F
file_before it = it.given.value

-- the copy, as it was made
abbrev pub file_beside : {F : Type 0} → SettledFile F → F
file_beside it = it.made.value

-- how many octets it has
abbrev pub octets_of : {F : Type 0} → SettledFile F → ℕ
octets_of it = it.octets

-- a file is a copy, and has whole sectors
abbrev pub IsSettled : {F : Type 0} → (F → FileState) → SettledFile F → Type 0
IsSettled file it = IsCopy (file (file_before it)) (file it.file) × (octets_of it ≡ (file it.file).size)
    × (octets_of it % 512 ≡ 0)

-- a file is made beside the one whose octets its disk starts with, which behaves
abbrev pub IsMadeWell : {F : Type 0} → (F → FileState) → F → F → Type 0
IsMadeWell file given made = Behaves (file given) × IsMadeBeside (file given) (file made)

-- A disk that was opened over a file which behaves. The file was copied, and the copy extended if it had fewer sectors
-- than requested: the disk's sectors are those of the copy, all of them durable. It is honest if the device's blocks
-- suit the layout, which is found again.
pub record IsOpened (file : FileState) (least : ℕ) (layout : Layout) (disk : Disk) : Type 0 where
  pub whole : file.size % 512 ≡ 0
  pub copy : FileState
  pub copies : IsCopy file copy
  pub found : layout ≡ layout_in copy
  pub again : layout ≡ layout_in (file_lengthened copy (place layout least))
  pub sectors : disk.sectors ≡ max (sectors_in layout copy.size) least
  pub honest : suits layout file.block ≡ true → IsHonest disk
  pub state : now disk ≡ state_in_file layout (file_lengthened copy (place layout least))

-- a sync would not change the file, which shows what is durable
abbrev pub IsStill : FileState → Type 0
IsStill file = IsSure file × (file_after_sync file ≡ file)

-- a settled file was made ready for a disk: its layout was found, and it was extended if it had fewer sectors than
-- requested
pub record IsExtent (settled new : FileState) (least : ℕ) (layout : Layout) (sectors : ℕ) : Type 0 where
  pub found : layout ≡ layout_in settled
  pub count : sectors ≡ max (sectors_in layout settled.size) least
  pub file : new ≡ file_lengthened settled (place layout least)

-- the mark identifies a file as having this layout: a spaced one has the mark in the block after its sectors, and a
-- packed one ends before that block or begins it with zeros
abbrev pub HasMark : Layout → FileState → Type 0
HasMark Packed file = (file.size ≤ place Spaced 1028) ⊎ (values_from file.seen (place Spaced 1028) 512 ≡ zero_sector)
HasMark Spaced file = (place Spaced 1029 ≤ file.size) × (values_from file.seen (place Spaced 1028) 512 ≡ mark)

-- the length of a file that holds the mark of this layout and nothing else
abbrev pub mark_end : Layout → ℕ
mark_end Packed = 0
mark_end Spaced = place Spaced 1029

-- an empty file after the mark of this layout was written
pub record IsMarkedAs (old new : FileState) (layout : Layout) : Type 0 where
  pub block : new.block ≡ old.block
  pub size : new.size ≡ mark_end layout
  pub is_sure : IsSure new
  pub has : HasMark layout new

-- an empty file after the mark of this layout and zeros for 1,028 sectors were written, all of it durable
pub record IsCleared (old new : FileState) (layout : Layout) : Type 0 where
  pub block : new.block ≡ old.block
  pub long : place layout 1028 ≤ new.size
  pub whole : new.size % 512 ≡ 0
  pub count : sectors_in layout new.size ≡ 1028
  pub is_size_durable : new.is_size_durable ≡ true
  pub is_clean : new.is_clean ≡ true
  pub is_sure : IsSure new
  pub durable : new.durable ≡ new.seen
  pub clean : (n : ℕ) → new.pending n ≡ false
  pub zeros : (i : ℕ) → i < 1028 → values_from new.seen (place layout i) 512 ≡ zero_sector
  pub has : HasMark layout new

-- a new disk with this layout in `new`, a file that was empty as `old`: its 1,028 sectors are zeros, all of them are
-- durable, and nothing is pending. It is honest if the device's blocks suit the layout. The file has the mark of the
-- layout, which is found when it is opened again.
pub record IsBlank (old new : FileState) (layout : Layout) (disk : Disk) : Type 0 where
  pub block : new.block ≡ old.block
  pub honest : suits layout old.block ≡ true → IsHonest disk
  pub sectors : disk.sectors ≡ 1028
  pub state : now disk ≡ state_in_file layout new
  pub zeros : (i : ℕ) → i < 1028 → (now disk).seen i ≡ zero_sector
  pub durable : (i : ℕ) → (now disk).durable i ≡ (now disk).seen i
  pub clean : (i : ℕ) → (now disk).pending i ≡ false
  pub has : HasMark layout new
  pub found : layout_in new ≡ layout

-- a disk on which no call has been made yet
pub record IsFresh (disk : Disk) : Type 0 where
  pub clock : disk.clock ≡ 0
  pub failures : disk.failures ≡ 0
  pub worn : disk.worn ≡ false
