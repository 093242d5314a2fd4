-- The layout of a disk's sectors in its file, and how it is found.
use Rattle.std.specs.Prelude.{◌+◌, ◌*◌, ◌/◌, ◌==◌, ◌&&◌, ◌||◌, ◌++◌, ◌∷◌, [], ℕ, if◌then◌else◌, Bool, List, nat_eq}
use Rattle.std.specs.Prelude.{nat_le, replicate}
use Rattle.std.specs.List.{starts_with}
use Rattle.macs_disk.specs.Files.{FileState, values_from}
use Rattle.macs_disk.specs.declared.layout.Layout.{Layout}
use Rattle.macs_disk.specs.declared.layout.Layout.TheVariants.{Packed, Spaced}

-- how many octets of its file each sector takes up
abbrev pub block_of : Layout → ℕ
block_of Packed = 512
block_of Spaced = 4096

-- the octet at which a sector begins
abbrev pub place : Layout → ℕ → ℕ
place Packed at = 512 * at
place Spaced at = 4096 * at

-- how many sectors a spaced file has
abbrev pub spaced_sectors : ℕ
spaced_sectors = 1028

-- the octet at which the mark of a spaced file is
abbrev pub mark_place : ℕ
mark_place = place Spaced spaced_sectors

-- MSEC4096
abbrev pub spaced_mark : List ℕ
spaced_mark = 0x4d ∷ 0x53 ∷ 0x45 ∷ 0x43 ∷ 0x34 ∷ 0x30 ∷ 0x39 ∷ 0x36 ∷ []

-- the sector that marks a spaced file, as it is written
abbrev pub mark : List ℕ
mark = spaced_mark ++ replicate 504 0

-- a sector marks a spaced file if it begins with the mark, regardless of the rest
abbrev pub is_marked : List ℕ → Bool
is_marked octets = starts_with nat_eq octets spaced_mark

-- the layout of a file, from its contents: it is spaced if the block after the sectors of a spaced file begins with the
-- mark
unfoldable pub layout_in : FileState → Layout
layout_in file =
    if nat_le (place Spaced spaced_sectors + 512) file.size
    && is_marked (values_from file.seen (place Spaced spaced_sectors) 512)
    then Spaced else Packed

-- how many sectors a file of this many octets has
abbrev pub sectors_in : Layout → ℕ → ℕ
sectors_in Packed size = size / 512
sectors_in Spaced size = spaced_sectors

-- no block of the device has octets of two sectors
abbrev pub suits : Layout → ℕ → Bool
suits Packed block = block == 512
suits Spaced block = block == 512 || block == 4096
