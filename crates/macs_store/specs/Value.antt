-- A store in memory, the work that it has under way, and what is on its disk.
use Rattle.std.specs.Prelude.{◌≡◌, ◌+◌, ℕ, Bool, false, Option, Some, length, IsSome}
use Rattle.macs_config.specs.Config.{this_edition}
use Rattle.macs_disk.specs.Disk as disk
use Rattle.macs_journal.specs.Found.{Content, content_with_record}
use Rattle.macs_journal.specs.Stepping.{CompactsWith, IsAppendUnderWay}
use Rattle.macs_journal.specs.Value.{HoldsWith, JournalValue, left_of}
use Rattle.macs_journal.specs.Value as journal
use Rattle.macs_record.specs.declared.format.Format.TheVariants.{Two}
use Rattle.macs_store.specs.UnderWay.{Appending, UnderWay, Nothing, Compacting}
use Rattle.macs_store.specs.Replay.{meaning_of, standing_after_record}
use Rattle.macs_store.specs.Snapshot.{snapshot}
use Rattle.macs_store.specs.Standing.{Standing}
use Rattle.macs_store.specs.Table.{StandingValue, standing_of}

-- what a store keeps
pub record StoreValue (D : Type 0) : Type 0 where
  pub journal : JournalValue D
  pub held : StandingValue
  pub under_way : UnderWay

-- what is in memory
abbrev pub standing_in : {D : Type 0} → StoreValue D → Standing
standing_in s = standing_of s.held

-- its device
abbrev pub device_in : {D : Type 0} → StoreValue D → D
device_in s = journal.device_in s.journal

-- its disk, where `disk_of` gives the disk of a device
abbrev pub disk_in : {D : Type 0} → (D → disk.Disk) → StoreValue D → disk.Disk
disk_in disk_of s = journal.disk_in disk_of s.journal

-- the store on another device
abbrev pub on_device : {D E : Type 0} → StoreValue D → E → StoreValue E
on_device s device =
    record { journal = journal.on_device s.journal device; held = s.held; under_way = s.under_way }

-- a device call failed: no other is made
abbrev pub is_stopped : {D : Type 0} → StoreValue D → Bool
is_stopped s = journal.is_stopped s.journal

-- how many slots of the journal's current area are used
abbrev pub used_slots : {D : Type 0} → StoreValue D → ℕ
used_slots s = journal.used_slots s.journal

-- the generation of that area
abbrev pub generation : {D : Type 0} → StoreValue D → ℕ
generation s = journal.generation s.journal

-- how many records a snapshot of the standing has
abbrev pub snapshot_length : {D : Type 0} → StoreValue D → ℕ
snapshot_length s = length (snapshot (standing_in s))

-- ---- the work under way

-- no work is under way
abbrev pub IsIdle : {D : Type 0} → StoreValue D → Type 0
IsIdle s = s.under_way ≡ Nothing

-- the standing once the work under way is done
abbrev pub standing_with : Standing → UnderWay → Option Standing
standing_with standing Nothing = Some standing
standing_with standing (Compacting r) = standing_after_record standing r
standing_with standing (Appending r) = standing_after_record standing r

-- the same for the work that a store has under way
abbrev pub standing_then : {D : Type 0} → StoreValue D → Option Standing
standing_then s = standing_with (standing_in s) s.under_way

-- how many slots are used once the work under way is done
abbrev pub slots_with : {D : Type 0} → StoreValue D → UnderWay → ℕ
slots_with s Nothing = used_slots s
slots_with s (Compacting r) = snapshot_length s + 1
slots_with s (Appending r) = used_slots s + 1

-- the same for the work that a store has under way
abbrev pub slots_then : {D : Type 0} → StoreValue D → ℕ
slots_then s = slots_with s s.under_way

-- the generation once the work under way is done
abbrev pub generation_with : {D : Type 0} → StoreValue D → UnderWay → ℕ
generation_with s Nothing = generation s
generation_with s (Compacting r) = generation s + 1
generation_with s (Appending r) = generation s

-- the same for the work that a store has under way
abbrev pub generation_then : {D : Type 0} → StoreValue D → ℕ
generation_then s = generation_with s s.under_way

-- the maximum number of device calls left
abbrev pub calls_with : {D : Type 0} → StoreValue D → UnderWay → ℕ
calls_with s Nothing = 0
calls_with s (Compacting r) = left_of s.journal.under_way + 4
calls_with s (Appending r) = left_of s.journal.under_way

-- the same for the work that a store has under way
abbrev pub calls_left : {D : Type 0} → StoreValue D → ℕ
calls_left s = calls_with s s.under_way

-- the record under way follows from the standing, and the journal is working on it
abbrev pub FitsUnderWay : {D : Type 0} → JournalValue D → Standing → UnderWay → Type 0
FitsUnderWay j standing Nothing = journal.IsIdle j
FitsUnderWay j standing (Compacting r) =
    (journal.is_stopped j ≡ false) × IsSome (standing_after_record standing r)
    × CompactsWith j.place j.under_way (snapshot standing)
FitsUnderWay j standing (Appending r) = (journal.is_stopped j ≡ false) × IsSome (standing_after_record standing r)
    × IsAppendUnderWay j.under_way

-- ---- on its disk

-- the standing that the journal's content represents once its own work is done: an append adds its record, a compaction
-- changes nothing
abbrev pub standing_next : Standing → UnderWay → Option Standing
standing_next standing Nothing = Some standing
standing_next standing (Compacting r) = Some standing
standing_next standing (Appending r) = standing_after_record standing r

-- that content: the same, one after a compaction, or one with the record
abbrev pub LeadsTo : UnderWay → Content → Content → Type 0
LeadsTo Nothing before after = after ≡ before
LeadsTo (Compacting r) before after = Unit {0}
LeadsTo (Appending r) before after = after ≡ content_with_record before r

-- The disk holds what is in memory, with the work under way: in format two, before that work and after it.
pub record IsStored {D : Type 0} (disk_of : D → disk.Disk) (s : StoreValue D) : Type 0 where
  pub content : Content
  pub next : Content
  pub holding : HoldsWith (disk_in disk_of s) s.journal.place s.journal.under_way (snapshot (standing_in s))
      content next
  pub stands : meaning_of this_edition content ≡ Some (standing_in s)
  pub becomes : meaning_of this_edition next ≡ standing_next (standing_in s) s.under_way
  pub leads : LeadsTo s.under_way content next
  pub form : content.head.format ≡ Two
  pub form_next : next.head.format ≡ Two
