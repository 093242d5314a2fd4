-- What the journal of a store with work under way is lent, and what it makes of a call.
use Rattle.std.proofs.Common.{◌≡◌, ◌∙◌, false, sym, ap, subst, List, length}
use Rattle.macs_record.specs.Heads.{Head}
use Rattle.macs_record.specs.declared.record.Record.{Record}
use Rattle.macs_journal.specs.Stepping.{CompactsWith, IsAppendUnderWay, IsSameTask, place_then}
use Rattle.macs_journal.specs.Value.{AreLent, JournalValue, is_stopped}
use Rattle.macs_journal.specs.Value as journal
use Rattle.macs_journal.specs.declared.under_way.UnderWay as declared
use Rattle.macs_journal.specs.declared.under_way.UnderWay.TheVariants as under_way
use Rattle.macs_journal.specs.declared.place.Place.{Place}
use Rattle.macs_journal.proofs.Tasks.{still-appends}
use Rattle.macs_store.specs.Snapshot.{snapshot}
use Rattle.macs_store.specs.Standing.{Standing}
use Rattle.macs_store.specs.UnderWay.{Appending, Compacting, Nothing, UnderWay}
use Rattle.macs_store.specs.Value.{FitsUnderWay}

append-lent : (h : declared.UnderWay) → IsAppendUnderWay h → (records : List Record) → AreLent h records
append-lent under_way.Nothing is records = absurd is
append-lent (under_way.Append work) is records = tt
append-lent (under_way.Compact work) is records = absurd is

compaction-lent : (place : Place) (h : declared.UnderWay) (records : List Record) → CompactsWith place h records
    → AreLent h records
compaction-lent place under_way.Nothing records is = absurd is
compaction-lent place (under_way.Append work) records is = absurd is
compaction-lent place (under_way.Compact work) records is = ap (λ (h : Head). h.count) is

-- as many slots are used after a compaction as there are records
pub compaction-slots : (place : Place) (h : declared.UnderWay) (records : List Record) → CompactsWith place h records
    → (place_then place h).free ≡ length records
compaction-slots place under_way.Nothing records is = absurd is
compaction-slots place (under_way.Append work) records is = absurd is
compaction-slots place (under_way.Compact work) records is = ap (λ (h : Head). h.count) (sym is)

same-compaction : (place : Place) (h later : declared.UnderWay) (records : List Record) → IsSameTask h later
    → CompactsWith place h records → CompactsWith place later records
same-compaction place (under_way.Compact work) (under_way.Compact other) records same is = is ∙ sym same
same-compaction place (under_way.Compact work) under_way.Nothing records same is = absurd same
same-compaction place (under_way.Compact work) (under_way.Append other) records same is = absurd same
same-compaction place under_way.Nothing later records same is = absurd is
same-compaction place (under_way.Append work) later records same is = absurd is

module _ {D : Type 0} (j : JournalValue D) (standing : Standing) where
  -- the records of the snapshot may be lent to it
  pub lent : (u : UnderWay) → FitsUnderWay j standing u → AreLent j.under_way (snapshot standing)
  lent Nothing fits = subst (λ (h : declared.UnderWay). AreLent h (snapshot standing)) (sym fits) tt
  lent (Compacting r) fits = compaction-lent j.place j.under_way (snapshot standing) fits.2
  lent (Appending r) fits = append-lent j.under_way fits.2 (snapshot standing)

  append-busy : IsAppendUnderWay j.under_way → ¬ (journal.IsIdle j)
  append-busy is idle = subst IsAppendUnderWay idle is

  compaction-busy : CompactsWith j.place j.under_way (snapshot standing) → ¬ (journal.IsIdle j)
  compaction-busy is idle = subst (λ (h : declared.UnderWay). CompactsWith j.place h (snapshot standing)) idle is

  -- the journal is at work if and only if the store is
  pub at-work : (u : UnderWay) → FitsUnderWay j standing u → ¬ (u ≡ Nothing) → ¬ (journal.IsIdle j)
  at-work Nothing fits busy = absurd (busy (λ i. Nothing))
  at-work (Compacting r) fits busy = compaction-busy fits.2
  at-work (Appending r) fits busy = append-busy fits.2

  pub runs : (u : UnderWay) → FitsUnderWay j standing u → ¬ (u ≡ Nothing) → is_stopped j ≡ false
  runs Nothing fits busy = absurd (busy (λ i. Nothing))
  runs (Compacting r) fits busy = fits.0
  runs (Appending r) fits busy = fits.0

  pub both-idle : (u : UnderWay) → FitsUnderWay j standing u → journal.IsIdle j → u ≡ Nothing
  both-idle Nothing fits idle = λ i. Nothing
  both-idle (Compacting r) fits idle = absurd (compaction-busy fits.2 idle)
  both-idle (Appending r) fits idle = absurd (append-busy fits.2 idle)

  pub idle-both : (u : UnderWay) → FitsUnderWay j standing u → u ≡ Nothing → journal.IsIdle j
  idle-both u fits is = subst (λ (h : UnderWay). FitsUnderWay j standing h) is fits

  -- as many slots are used after a compaction as a snapshot has records
  pub free-then : (place : Place) (r : Record) (u : UnderWay) → u ≡ Compacting r → FitsUnderWay j standing u
      → place ≡ place_then j.place j.under_way → place.free ≡ length (snapshot standing)
  free-then place r u u_is fits is =
      let its : FitsUnderWay j standing (Compacting r) =
      subst (λ (h : UnderWay). FitsUnderWay j standing h) u_is fits in
      ap (λ (p : Place). p.free) is ∙ compaction-slots j.place j.under_way (snapshot standing) its.2

-- the same work continues, in the journal and so in the store
pub still-fits : {D : Type 0} (j later : JournalValue D) (standing : Standing) (u : UnderWay) → ¬ (u ≡ Nothing)
    → FitsUnderWay j standing u → is_stopped later ≡ false → IsSameTask j.under_way later.under_way
    → later.place ≡ j.place → FitsUnderWay later standing u
still-fits j later standing Nothing busy fits runs same place = absurd (busy (λ i. Nothing))
still-fits j later standing (Appending r) busy fits runs same place =
    (runs, fits.1, still-appends j.under_way later.under_way same fits.2)
still-fits j later standing (Compacting r) busy fits runs same place = (
  runs,
  fits.1,
  subst (λ (p : Place). CompactsWith p later.under_way (snapshot standing)) (sym place)
      (same-compaction j.place j.under_way later.under_way (snapshot standing) same fits.2),
)
