-- The disks of the example at the points where its lives are interrupted: what their device calls did until then.
use Rattle.std.specs.Prelude.{◌≡◌, ◌⊎◌, ◌<◌, ℕ, zero, suc, ◌+◌, ◌-◌, true, false, List, [], ◌∷◌, take, length}
use Rattle.macs_disk.specs.Disk.{Disk, now}
use Rattle.macs_disk.specs.States.{DiskState, Image, put_sector, settled_state, state_after_sync, state_after_write}
use Rattle.macs_record.specs.Gates.{open_gate}
use Rattle.macs_record.specs.Heads.{head_sector_of}
use Rattle.macs_record.specs.Layout.{sector_of}
use Rattle.macs_record.specs.declared.record.Record.{Record}
use Rattle.macs_journal.specs.Appending.{free_body, free_gate}
use Rattle.macs_journal.specs.Areas.{head_body, other_area, slot_body}
use Rattle.macs_journal.specs.Compacting.{next_head}
use Rattle.macs_journal.specs.Found.{Content}
use Rattle.macs_journal.specs.declared.appending.AppendStage.TheVariants.{GateSync}
use Rattle.macs_journal.specs.declared.compact_stage.CompactStage.TheVariants.{Body}
use Rattle.macs_journal.specs.declared.under_way.UnderWay.{UnderWay}
use Rattle.macs_journal.specs.declared.under_way.UnderWay.TheVariants as under_way
use Rattle.macs_journal.specs.declared.place.Place.{Place}
use Rattle.macs_headline.specs.Example.{example_sectors}
use Rattle.macs_headline.specs.ExampleDisk.{checked, narrow_content, narrow_image, full_content, full_image}
use Rattle.macs_headline.specs.ExampleDisk.{full_snapshot, last_content, last_image, widened}
use Rattle.macs_headline.specs.Images.{image_with_next_body}

-- a disk of the example on which this many calls led through these states
abbrev pub disk_through : (ℕ → DiskState) → (calls : ℕ) → Disk
disk_through states calls =
    record { sectors = example_sectors; past = states; clock = calls; failures = 0; honest = true; worn = false; prompt = true }

-- the place after a content
abbrev pub place_behind : Content → Place
place_behind c = record { area = c.area; head = c.head; free = length c.records }

-- one device call leads from a state to the next: a write to a sector, or a sync
abbrev pub IsOneCall : DiskState → DiskState → Type 0
IsOneCall old new = ((at : ℕ) × (octets : List ℕ) × (new ≡ state_after_write old at octets))
    ⊎ (new ≡ state_after_sync old)

-- a disk held this image, with nothing pending, and each call since then was one device call
pub record IsRun (image : Image) (disk : Disk) : Type 0 where
  pub start : disk.past zero ≡ settled_state image
  pub calls : (k : ℕ) → k < disk.clock → IsOneCall (disk.past k) (disk.past (suc k))

-- ---- an append

-- An append to a disk that holds this image, with nothing pending: before its first device call, and after each of
-- three. The body is written; it is durable; the gate is written.
abbrev pub append_states : Image → Content → Record → ℕ → DiskState
append_states image c r zero = settled_state image
append_states image c r (suc zero) = state_after_write (settled_state image) (free_body c) (sector_of r)
append_states image c r (suc (suc zero)) = settled_state (image_with_next_body image c r)
append_states image c r (suc (suc (suc n))) =
    state_after_write (settled_state (image_with_next_body image c r)) (free_gate c) open_gate

-- what is under way then: the remaining call makes the gate durable
abbrev pub append_under_way : Record → UnderWay
append_under_way r = under_way.Append (record { sector = sector_of r; stage = GateSync })

-- power fails between two steps of `widen`
abbrev pub widening_disk : Disk
widening_disk = disk_through (append_states narrow_image narrow_content widened) 3

-- the program is killed in a step of `check_only`
abbrev pub working_disk : Disk
working_disk = disk_through (append_states last_image last_content checked) 3

-- another disk has the medium from then on, with what is pending
abbrev pub killed_disk : Disk
killed_disk = disk_through (λ k. now working_disk) 0

-- ---- a journal that is rewritten

-- a write to a sector
pub record Write : Type 0 where
  pub at : ℕ
  pub octets : List ℕ

-- the state after several of them
unfoldable pub state_after_writes : DiskState → List Write → DiskState
state_after_writes s [] = s
state_after_writes s (w ∷ ws) = state_after_writes (state_after_write s w.at w.octets) ws

-- the bodies of these records, to the slots of an area from a position on
unfoldable pub body_writes : (area place : ℕ) → List Record → List Write
body_writes area place [] = []
body_writes area place (r ∷ rs) =
    record { at = slot_body area place; octets = sector_of r } ∷ body_writes area (place + 1) rs

-- what is written in the other area before its head gate: the body of the next head, and those of the snapshot
abbrev pub compaction_writes : Content → List Record → List Write
compaction_writes c records =
    record { at = head_body (other_area c.area); octets = head_sector_of (next_head c.head (length records)) }
    ∷ body_writes (other_area c.area) 0 records

-- A compaction of a disk that holds this image, with nothing pending and no gate of the other area open: before its
-- first device call, and after `calls` of them. 257 reads of gates and a sync change nothing. Then each call writes.
abbrev pub compaction_states : Image → Content → List Record → (calls : ℕ) → DiskState
compaction_states image c records calls =
    state_after_writes (settled_state image) (take (calls - 258) (compaction_writes c records))

-- power fails in the compaction of the full area, after three bodies are written
abbrev pub compacting_disk : Disk
compacting_disk = disk_through (compaction_states full_image full_content full_snapshot) 261

-- what is under way then: the next call writes the snapshot's third body
abbrev pub compaction_under_way : UnderWay
compaction_under_way =
    under_way.Compact (record { head = next_head full_content.head (length full_snapshot); stage = Body 2 })

-- What a power loss may leave then: any 512 octets in each of the three sectors.
abbrev pub torn_image : (head first second : List ℕ) → Image
torn_image head first second =
    put_sector (put_sector (put_sector full_image (head_body 1) head) (slot_body 1 0) first) (slot_body 1 1) second
