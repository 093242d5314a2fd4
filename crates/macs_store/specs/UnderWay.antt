-- What a store has under way, and the record of it.
use Rattle.macs_record.specs.Commands.{record_of_accepted}
use Rattle.macs_record.specs.declared.record.Record.{Record}
use Rattle.macs_record.specs.declared.record.Record.TheVariants as record_
use Rattle.macs_store.specs.declared.under_way.Kept.{Kept}
use Rattle.macs_store.specs.declared.under_way.Kept.TheVariants as kept
use Rattle.macs_store.specs.declared.under_way.UnderWay as declared
use Rattle.macs_store.specs.declared.under_way.UnderWay.TheVariants as variant

-- the record that keeps it
abbrev pub record_kept : Kept → Record
record_kept (kept.Command command) = record_of_accepted command
record_kept (kept.TxCeiling an ceiling) = record_.TxCeiling an ceiling
record_kept (kept.RxCeiling sci an ceiling) = record_.RxCeiling sci an ceiling

-- nothing, a record that waits until the journal is compacted with a snapshot, or one that the journal takes
pub data UnderWay : Type 0 where
  Nothing : UnderWay
  Compacting : Record → UnderWay
  Appending : Record → UnderWay

-- what the program has under way, with its record
abbrev pub under_way_of : declared.UnderWay → UnderWay
under_way_of variant.Nothing = Nothing
under_way_of (variant.Compacting k) = Compacting (record_kept k)
under_way_of (variant.Appending k) = Appending (record_kept k)
