-- A journal in memory: what can be read of it, and the work that it has under way.
use Rattle.std.specs.Prelude.{◌≡◌, ◌<◌, ◌≤◌, ℕ, Bool, List, Some, length}
use Rattle.macs_disk.specs.Disk.{Disk, now}
use Rattle.macs_record.specs.Decoding.{IsSectorOf}
use Rattle.macs_record.specs.declared.record.Record.{Record}
use Rattle.macs_journal.specs.Areas.{other_area, slots}
use Rattle.macs_journal.specs.Found.{Content, content_with_record}
use Rattle.macs_journal.specs.Appending.{AtAppend, IsReady, calls_left}
use Rattle.macs_journal.specs.Compacted.{compacted, next_head}
use Rattle.macs_journal.specs.Stages.{AtStage, IsCompactStage, compact_left}
use Rattle.macs_journal.specs.declared.under_way.Compacting.{Compacting}
use Rattle.macs_journal.specs.declared.under_way.UnderWay.{UnderWay}
use Rattle.macs_journal.specs.declared.under_way.UnderWay.TheVariants.{Append, Compact, Nothing}
use Rattle.macs_journal.specs.declared.place.Place.{Place}

-- what a journal keeps: its disk, where the next record goes, the work under way, and whether a device call failed
pub record JournalValue (D : Type 0) : Type 0 where
  pub disk : D
  pub place : Place
  pub under_way : UnderWay
  pub stopped : Bool

-- its device
abbrev pub device_in : {D : Type 0} → JournalValue D → D
device_in j = j.disk

-- its disk, where `disk_of` gives the disk of a device
abbrev pub disk_in : {D : Type 0} → (D → Disk) → JournalValue D → Disk
disk_in disk_of j = disk_of j.disk

-- the journal on another device
abbrev pub on_device : {D E : Type 0} → JournalValue D → E → JournalValue E
on_device j device = record { disk = device; place = j.place; under_way = j.under_way; stopped = j.stopped }

-- a device call failed: no other is made
abbrev pub is_stopped : {D : Type 0} → JournalValue D → Bool
is_stopped j = j.stopped

-- how many slots of the current area are used
abbrev pub used_slots : {D : Type 0} → JournalValue D → ℕ
used_slots j = j.place.free

-- which of the two areas is current
abbrev pub current_area : {D : Type 0} → JournalValue D → ℕ
current_area j = j.place.area

-- the generation of its current area
abbrev pub generation : {D : Type 0} → JournalValue D → ℕ
generation j = j.place.head.generation

-- no work is under way
abbrev pub IsIdle : {D : Type 0} → JournalValue D → Type 0
IsIdle j = j.under_way ≡ Nothing

-- these records, in its current area with its head
abbrev pub content_of : {D : Type 0} → JournalValue D → List Record → Content
content_of j records = record { area = j.place.area; head = j.place.head; records = records }

-- the place is the one after this content
pub record IsAt (place : Place) (c : Content) : Type 0 where
  pub area : c.area ≡ place.area
  pub head : c.head ≡ place.head
  pub free : length c.records ≡ place.free

-- Since the disk `began`, with the content `before`, a compaction with these records is under way, and its calls led to
-- this disk.
pub record IsCompacting (d : Disk) (work : Compacting) (before after : Content) : Type 0 where
  pub began : Disk
  pub records : List Record
  pub ready : IsReady (now began) before
  pub becomes : after ≡ compacted before records
  pub next : next_head before.head (length records) ≡ work.head
  pub few : length records ≤ slots
  pub fits : IsCompactStage (length records) work.stage
  pub at : AtStage began d (other_area before.area) work.head records work.stage

-- nothing is under way, or the append of a record to a free slot, or a compaction
abbrev pub HoldsUnderWay : Disk → UnderWay → Content → Content → Type 0
HoldsUnderWay d Nothing before after = IsReady (now d) before × (after ≡ before)
HoldsUnderWay d (Append work) before after =
    (r : Record) × IsSectorOf r work.sector × (after ≡ content_with_record before r)
    × AtAppend (now d) before work.sector work.stage × (length before.records < slots)
HoldsUnderWay d (Compact work) before after = IsCompacting d work before after

-- The disk has the content `before`, and `after` once the work under way is done.
pub record IsHolding (d : Disk) (place : Place) (under_way : UnderWay) (before after : Content) : Type 0 where
  pub at : IsAt place before
  pub holds : HoldsUnderWay d under_way before after

-- if a compaction is under way: there are as many records as its new head counts
abbrev pub AreLent : UnderWay → List Record → Type 0
AreLent Nothing snapshot = Unit {0}
AreLent (Append work) snapshot = Unit {0}
AreLent (Compact work) snapshot = length snapshot ≡ work.head.count

-- with these records it makes the one content from the other
abbrev pub IsMadeOf : UnderWay → List Record → Content → Content → Type 0
IsMadeOf Nothing snapshot before after = Unit {0}
IsMadeOf (Append work) snapshot before after = Unit {0}
IsMadeOf (Compact work) snapshot before after = after ≡ compacted before snapshot

-- The disk has the content `before`, and `after` once the work under way is done, with these records if it is a
-- compaction.
pub record HoldsWith (d : Disk) (place : Place) (under_way : UnderWay) (snapshot : List Record)
    (before after : Content) : Type 0 where
  pub holds : IsHolding d place under_way before after
  pub made : IsMadeOf under_way snapshot before after

-- after a device call of that work: it continues, or is done
abbrev pub ComesTo : Disk → Place → UnderWay → Content → Content → Type 0
ComesTo d place Nothing before after = IsHolding d place Nothing after after
ComesTo d place (Append work) before after = IsHolding d place (Append work) before after
ComesTo d place (Compact work) before after = IsHolding d place (Compact work) before after

-- what the work under way requires of the place, and of itself
abbrev pub FitsUnderWay : Place → UnderWay → Type 0
FitsUnderWay place Nothing = Unit {0}
FitsUnderWay place (Append work) = place.free < slots
FitsUnderWay place (Compact work) = (1 ≤ work.head.count) × (work.head.count ≤ slots)
    × IsCompactStage work.head.count work.stage

-- the maximum number of device calls left
abbrev pub left_of : UnderWay → ℕ
left_of Nothing = 0
left_of (Append work) = calls_left (Some work.stage)
left_of (Compact work) = compact_left work.head.count work.stage

-- how many device calls of an append are left
abbrev pub append_left : UnderWay → ℕ
append_left Nothing = 0
append_left (Append work) = calls_left (Some work.stage)
append_left (Compact work) = 0

-- nothing is under way, or an append
abbrev pub IsNoCompact : UnderWay → Type 0
IsNoCompact (Compact work) = ⊥
IsNoCompact under_way = Unit {0}

-- the disk has this content, and nothing is under way
abbrev pub HoldsContent : {D : Type 0} → (D → Disk) → JournalValue D → Content → Type 0
HoldsContent disk_of j content = IsHolding (disk_in disk_of j) j.place j.under_way content content
