-- A task under way: it stays the same while it goes on, and with which records it is under way.
use Rattle.std.proofs.Common.{◌∙◌, refl, List}
use Rattle.macs_disk.specs.Disk.{Disk}
use Rattle.macs_record.specs.declared.record.Record.{Record}
use Rattle.macs_journal.specs.Found.{Content}
use Rattle.macs_journal.specs.Compacted.{compacted}
use Rattle.macs_journal.specs.Stepping.{IsAppendUnderWay, IsSameTask}
use Rattle.macs_journal.specs.Value.{HoldsWith, IsHolding, IsMadeOf}
use Rattle.macs_journal.specs.declared.under_way.UnderWay.{UnderWay}
use Rattle.macs_journal.specs.declared.under_way.UnderWay.TheVariants.{Append, Compact, Nothing}
use Rattle.macs_journal.specs.declared.place.Place.{Place}

-- an append goes on as one
pub still-appends : (old new : UnderWay) → IsSameTask old new → IsAppendUnderWay old → IsAppendUnderWay new
still-appends (Append work) (Append later) same is = tt
still-appends (Append work) Nothing same is = absurd same
still-appends (Append work) (Compact later) same is = absurd same
still-appends (Compact work) new same is = absurd is
still-appends Nothing new same is = absurd is

-- with any records an append makes the one content of the other
append-made : (under_way : UnderWay) (records : List Record) (before after : Content) → IsAppendUnderWay under_way
    → IsMadeOf under_way records before after
append-made Nothing records before after is = tt
append-made (Append work) records before after is = tt
append-made (Compact work) records before after is = absurd is

pub append-with : (d : Disk) (place : Place) (under_way : UnderWay) (records : List Record) (before after : Content)
    → IsAppendUnderWay under_way
    → IsHolding d place under_way before after → HoldsWith d place under_way records before after
append-with d place under_way records before after is holding =
    record { holds = holding; made = append-made under_way records before after is }

-- a compaction is under way with the records that it began with
compaction-made : (under_way : UnderWay) (records : List Record) (before : Content)
    → IsMadeOf under_way records before (compacted before records)
compaction-made Nothing records before = tt
compaction-made (Append work) records before = tt
compaction-made (Compact work) records before = refl

pub compaction-with : (d : Disk) (place : Place) (under_way : UnderWay) (records : List Record) (before : Content)
    → IsHolding d place under_way before (compacted before records)
    → HoldsWith d place under_way records before (compacted before records)
compaction-with d place under_way records before holding =
    record { holds = holding; made = compaction-made under_way records before }
