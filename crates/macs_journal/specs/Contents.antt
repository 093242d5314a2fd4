-- What a file holds before it is overwritten, by its sectors of 512 octets. The sectors of a disk lie in it packed, or
-- spaced, one in each block of eight.
use Rattle.std.specs.Prelude.{◌≡◌, ◌<◌, ◌⊎◌, ◌*◌, ◌==◌, ◌||◌, if◌then◌else◌, ℕ, List, get_or}
use Rattle.macs_disk.specs.Files.{FileState, values_from}
use Rattle.macs_disk.specs.Layouts.{mark}
use Rattle.macs_disk.specs.declared.layout.Layout.{Layout}
use Rattle.macs_disk.specs.declared.layout.Layout.TheVariants.{Packed, Spaced}
use Rattle.macs_journal.specs.Areas.{IsArea, gate, head_body}
use Rattle.macs_record.specs.Gates.{closed_gate, open_gate, open_mark}
use Rattle.macs_record.specs.Heads.{Head, IsHeadOf, head_mark}
use Rattle.macs_record.specs.Layout.{sector_of}
use Rattle.macs_record.specs.Sectors.{Begins}
use Rattle.macs_record.specs.Settings.{default_settings}
use Rattle.macs_journal.specs.declared.contents.Contents.{Contents}
use Rattle.macs_journal.specs.declared.contents.Contents.TheVariants as contents

-- the sector with this number, counting from the start of the file
abbrev pub sector_in : FileState → ℕ → List ℕ
sector_in file number = values_from file.seen (512 * number) 512

-- a file of `sectors` sectors has one with this number, and it begins with `front`
abbrev pub HasFront : FileState → ℕ → ℕ → List ℕ → Type 0
HasFront file sectors number front = (number < sectors) × Begins front (sector_in file number)

-- the number of a sector of a disk, in its file
abbrev pub number_of : Layout → ℕ → ℕ
number_of Packed at = at
number_of Spaced at = 8 * at

-- in one of the two layouts this sector of a disk begins with `front`
abbrev pub HasFrontInEither : FileState → ℕ → ℕ → List ℕ → Type 0
HasFrontInEither file sectors at front = (layout : Layout) × HasFront file sectors (number_of layout at) front

-- the gate of an area's head is open
abbrev pub HasOpenGate : FileState → ℕ → Type 0
HasOpenGate file sectors = (area : ℕ) × IsArea area × HasFrontInEither file sectors (gate area 0) open_mark

-- the head of an area begins as a head does
abbrev pub HasHeadMark : FileState → ℕ → Type 0
HasHeadMark file sectors = (area : ℕ) × IsArea area × HasFrontInEither file sectors (head_body area) head_mark

-- what `format` writes outside the head, packed or spaced: the gate of the head, the first record, and the mark of a
-- spaced file
abbrev pub leftover : ℕ → List ℕ
leftover number =
    if number == 1 || number == 8 then open_gate
    else (if number == 2 || number == 16 then sector_of default_settings
    else (if number == 8224 then mark else closed_gate))

-- each octet is zero, or the one in its place in the other sector
abbrev pub IsPartOf : List ℕ → List ℕ → Type 0
IsPartOf sector whole = (i : ℕ) → i < 512 → (get_or sector i 0 ≡ 0) ⊎ (get_or sector i 0 ≡ get_or whole i 0)

-- The sector holds zeros, or what an interrupted `format` may have left there
abbrev pub IsUnused : ℕ → List ℕ → Type 0
IsUnused number sector = ((number ≡ 0) × (head : Head) × IsHeadOf head sector) ⊎ IsPartOf sector (leftover number)

-- all sectors are unused
abbrev pub IsBlankFile : FileState → ℕ → Type 0
IsBlankFile file sectors = (number : ℕ) → number < sectors → IsUnused number (sector_in file number)

-- what a file of `sectors` sectors holds: the first of these that applies
abbrev pub ContentsAre : FileState → ℕ → Contents → Type 0
ContentsAre file sectors contents.Endpoint = HasOpenGate file sectors
ContentsAre file sectors contents.Blank = (¬ HasOpenGate file sectors) × IsBlankFile file sectors
ContentsAre file sectors contents.Other = (¬ HasOpenGate file sectors) × ¬ IsBlankFile file sectors

-- the file holds an endpoint, in use or not
abbrev pub HoldsEndpoint : FileState → ℕ → Type 0
HoldsEndpoint file sectors = HasHeadMark file sectors ⊎ HasOpenGate file sectors
