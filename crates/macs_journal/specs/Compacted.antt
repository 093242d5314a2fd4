-- The content that a compaction makes of a journal in its other area, and which sectors that writes to.
use Rattle.std.specs.Prelude.{◌≡◌, ◌<◌, ◌≤◌, ◌⊎◌, ◌+◌, ◌-◌, ◌^◌, ℕ, zero, suc, List, length}
use Rattle.macs_disk.specs.States.{Image, IsImage}
use Rattle.macs_disk.specs.Disk as disk
use Rattle.macs_record.specs.Heads.{Head}
use Rattle.macs_record.specs.declared.format.Format.TheVariants.{Two}
use Rattle.macs_record.specs.declared.record.Record.{Record}
use Rattle.macs_journal.specs.Areas.{gate, gates, head_body, other_area, slot_body}
use Rattle.macs_journal.specs.Found.{Content, HasJournal, IsGateOpen}

-- the greatest generation, which fits in 8 octets: there is none after it
abbrev pub last_generation : ℕ
last_generation = 2 ^ 64 - 1

-- the head of the next generation, in format two regardless of the previous format, with a snapshot of this many
-- records
abbrev pub next_head : Head → ℕ → Head
next_head head count =
    record { format = Two; generation = head.generation + 1; count = count; identity = head.identity }

-- the content of a journal after a compaction with these records
abbrev pub compacted : Content → List Record → Content
compacted c records = record { area = other_area c.area; head = next_head c.head (length records); records = records }

-- `count` of the first gates of an area, those before `upto`, read open
unfoldable pub HasOpenGates : Image → (area upto count : ℕ) → Type 0
HasOpenGates seen area zero count = count ≡ 0
HasOpenGates seen area (suc k) count =
    (IsGateOpen seen area k × ((before : ℕ) × (count ≡ before + 1) × HasOpenGates seen area k before))
    ⊎ ((¬ IsGateOpen seen area k) × HasOpenGates seen area k count)

-- the sectors of an area that a compaction with this many records writes to: the bodies of the head and of the records,
-- the head gate, and the gates that read open
abbrev pub CompactWrites : Image → (area count i : ℕ) → Type 0
CompactWrites seen area count i =
    ((i ≡ head_body area) ⊎ (i ≡ gate area 0))
    ⊎ (((j : ℕ) × (j < count) × (i ≡ slot_body area j))
    ⊎ ((k : ℕ) × (k < gates) × IsGateOpen seen area k × (i ≡ gate area k)))

-- at each moment of the calls between these that is before a limit, a power loss leaves this content
abbrev pub FindsUntil : (old new : disk.Disk) (limit : ℕ) → Content → Type 0
FindsUntil old new limit c =
    (k : ℕ) → old.clock ≤ k → k ≤ new.clock → k < limit → (image : Image) → IsImage (new.past k) image
    → HasJournal image c
