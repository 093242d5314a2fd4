-- Images of a disk, given by the writes to it, one sector after another.
use Rattle.std.specs.Prelude.{ℕ, ◌+◌, List, [], ◌∷◌, ◌++◌, length}
use Rattle.macs_config.specs.Identity.{Identity}
use Rattle.macs_disk.specs.States.{Image, put_sector, zero_sector}
use Rattle.macs_record.specs.Gates.{open_gate}
use Rattle.macs_record.specs.Heads.{Head, head_sector_of}
use Rattle.macs_record.specs.Layout.{sector_of}
use Rattle.macs_record.specs.Settings.{default_settings}
use Rattle.macs_record.specs.declared.record.Record.{Record}
use Rattle.macs_journal.specs.Appending.{free_body, free_gate}
use Rattle.macs_journal.specs.Areas.{gate, head_body, other_area, slot_body}
use Rattle.macs_journal.specs.Compacting.{next_head}
use Rattle.macs_journal.specs.Formatting.{first_head}
use Rattle.macs_journal.specs.Found.{Content, content_with_record}

-- a disk of zeros
abbrev pub blank_image : Image
blank_image i = zero_sector

-- ---- an area rewritten

-- the bodies of these records, in the slots of an area from a position on
unfoldable pub image_with_bodies : Image → (area place : ℕ) → List Record → Image
image_with_bodies image area place [] = image
image_with_bodies image area place (r ∷ rs) =
    image_with_bodies (put_sector image (slot_body area place) (sector_of r)) area (place + 1) rs

-- the bodies of an area's head and of its first slots; its head gate is unchanged
unfoldable pub image_with_area : Image → (area : ℕ) → Head → List Record → Image
image_with_area image area head records =
    image_with_bodies (put_sector image (head_body area) (head_sector_of head)) area 0 records

-- the head gate of an area opened
unfoldable pub image_with_open_head : Image → (area : ℕ) → Image
image_with_open_head image area = put_sector image (gate area 0) open_gate

-- ---- a disk formatted

-- all except the head gate is written
abbrev pub image_while_formatted : Identity → Image
image_while_formatted identity = image_with_area blank_image 0 (first_head identity) (default_settings ∷ [])

-- formatting is done
abbrev pub formatted_image : Identity → Image
formatted_image identity = image_with_open_head (image_while_formatted identity) 0

-- ---- records appended

-- the body of the next record is written; its gate is unchanged
abbrev pub image_with_next_body : Image → Content → Record → Image
image_with_next_body image c r = put_sector image (free_body c) (sector_of r)

-- its gate is opened
abbrev pub image_with_record : Image → Content → Record → Image
image_with_record image c r = put_sector (image_with_next_body image c r) (free_gate c) open_gate

-- several records, one after another
unfoldable pub image_with_records : Image → Content → List Record → Image
image_with_records image c [] = image
image_with_records image c (r ∷ rs) = image_with_records (image_with_record image c r) (content_with_record c r) rs

-- the content with several more records
abbrev pub content_with_records : Content → List Record → Content
content_with_records c rs = record c { records = c.records ++ rs }

-- ---- a journal that is rewritten

-- The body of the next head and the first bodies of a snapshot of `count` records are written in the other area.
abbrev pub image_while_compacted : Image → Content → (count : ℕ) → List Record → Image
image_while_compacted image c count written = image_with_area image (other_area c.area) (next_head c.head count) written

-- all of them are written, and the head gate is opened
abbrev pub compacted_image : Image → Content → List Record → Image
compacted_image image c records =
    image_with_open_head (image_while_compacted image c (length records) records) (other_area c.area)
