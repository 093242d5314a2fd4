-- One device call of a compaction under way, and what a journal with one comes to.
use Rattle.std.proofs.Common.{◌≡◌, ◌≤◌, ℕ, refl, sym, ◌∙◌, ap, subst, arith, List, length, Option, Some, None}
use Rattle.macs_disk.specs.Disk.{Disk, Works}
use Rattle.macs_disk.specs.Runs.{Leaves}
use Rattle.macs_disk.proofs.Moments.{Left-earlier}
use Rattle.macs_record.specs.Heads.{Head}
use Rattle.macs_record.specs.declared.record.Record.{Record}
use Rattle.macs_journal.specs.Appending.{HasEitherJournal}
use Rattle.macs_journal.specs.Areas.{other_area, slots}
use Rattle.macs_journal.specs.Found.{Content}
use Rattle.macs_journal.specs.Compacted.{compacted, next_head}
use Rattle.macs_journal.specs.Stages.{AtNextStage, AtStage, IsCompactNext, IsCompactStage, IsUnderWay}
use Rattle.macs_journal.specs.Value.{HoldsUnderWay, HoldsWith, IsCompacting, IsHolding, IsMadeOf}
use Rattle.macs_journal.specs.declared.compact_stage.CompactStage.{CompactStage}
use Rattle.macs_journal.specs.declared.compact_stage.CompactStage.TheVariants.{ReadGate}
use Rattle.macs_journal.specs.declared.under_way.Compacting.{Compacting}
use Rattle.macs_journal.specs.declared.under_way.UnderWay.{UnderWay}
use Rattle.macs_journal.specs.declared.under_way.UnderWay.TheVariants.{Compact, Nothing}
use Rattle.macs_journal.specs.declared.place.Place.{Place}
use Rattle.macs_journal.proofs.GateCalls.{none-closed}
use Rattle.macs_journal.proofs.Holding.{idle-ready}
use Rattle.macs_journal.proofs.UnderWay.{at-under_way, way-leaves, way-ready}

-- the place where the journal goes on then
abbrev pub new_place : ℕ → Compacting → Place
new_place area work = record { area = area; head = work.head; free = work.head.count }

-- records with which the same content becomes the same
same-records : (before after : Content) (records others : List Record) → after ≡ compacted before records
    → after ≡ compacted before others → records ≡ others
same-records before after records others is other_is = ap (λ (c : Content). c.records) (sym is ∙ other_is)

-- a compaction under way, with the records that are lent
compacting : (old : Disk) (place : Place) (under_way : UnderWay) (work : Compacting) (records : List Record)
    (before after : Content) → under_way ≡ Compact work
    → HoldsWith old place under_way records before after → IsCompacting old work before after
compacting old place under_way work records before after under_way_is holding =
    subst (λ (h : UnderWay). HoldsUnderWay old h before after) under_way_is holding.holds.holds

made-of : (old : Disk) (place : Place) (under_way : UnderWay) (work : Compacting) (records : List Record)
    (before after : Content) → under_way ≡ Compact work
    → HoldsWith old place under_way records before after → after ≡ compacted before records
made-of old place under_way work records before after under_way_is holding =
    subst (λ (h : UnderWay). IsMadeOf h records before after) under_way_is holding.made

module _ (old : Disk) (place : Place) (under_way : UnderWay) (work : Compacting) (records : List Record)
    (before after : Content)
    (under_way_is : under_way ≡ Compact work)
    (holding : HoldsWith old place under_way records before after) (area : ℕ)
    (area_is : area ≡ other_area place.area) where
  the-area : other_area before.area ≡ area
  the-area = ap other_area holding.holds.at.area ∙ sym area_is

  -- what was begun, with the records that are lent
  begun : IsCompacting old work before after
  begun = compacting old place under_way work records before after under_way_is holding

  the-records : begun.records ≡ records
  the-records = same-records before after begun.records records begun.becomes
      (made-of old place under_way work records before after under_way_is holding)

  at-call : AtStage begun.began old area work.head records work.stage
  at-call =
      subst (λ (rs : List Record). AtStage begun.began old area work.head rs work.stage) the-records
      (subst (λ (a : ℕ). AtStage begun.began old a work.head begun.records work.stage) the-area begun.at)

  few-records : length records ≤ slots
  few-records = subst (λ (rs : List Record). length rs ≤ slots) the-records begun.few

  head-next : next_head before.head (length records) ≡ work.head
  head-next = subst (λ (rs : List Record). next_head before.head (length rs) ≡ work.head) the-records begun.next

  stage-fits : IsCompactStage (length records) work.stage
  stage-fits = subst (λ (rs : List Record). IsCompactStage (length rs) work.stage) the-records begun.fits

  becomes : after ≡ compacted before records
  becomes = made-of old place under_way work records before after under_way_is holding

  -- whatever it answered
  pub compaction-leaves : (new : Disk) → Works old new
      → ((began : Disk) → AtStage began old area work.head records work.stage
      → IsUnderWay began new area work.head records)
      → Leaves old new (HasEitherJournal before after)
  compaction-leaves new works promised =
      let was = way-leaves begun.began old area work.head records few-records before begun.ready the-area head-next
      (at-under_way begun.began old area work.head records work.stage stage-fits at-call) in
      let is = way-leaves begun.began new area work.head records few-records before begun.ready the-area head-next
      (promised begun.began at-call) in
      record {
        works = works;
        each = λ image left. subst (λ (c : Content). HasEitherJournal before c image) (sym becomes)
            (is.each image (Left-earlier new begun.began.clock old.clock image was.works.later left));
      }

  module _ (new : Disk) (next : Option CompactStage)
      (promised : (began : Disk) → AtStage began old area work.head records work.stage
      → AtNextStage began new area work.head records next) where
    comes : (is : Option CompactStage) → next ≡ is → AtNextStage begun.began new area work.head records is
    comes is next_is = subst (λ (n : Option CompactStage). AtNextStage begun.began new area work.head records n) next_is
        (promised begun.began at-call)

    -- it goes on
    pub compaction-next : (later : CompactStage) → next ≡ Some later → IsCompactNext (length records) next
        → IsHolding new place (Compact (record work { stage = later })) before after
    compaction-next later next_is room = record {
      at = holding.holds.at;
      holds = record {
        began = begun.began;
        records = records;
        ready = begun.ready;
        becomes = becomes;
        next = head-next;
        few = few-records;
        fits = subst (λ (n : Option CompactStage). IsCompactNext (length records) n) next_is room;
        at = subst (λ (a : ℕ). AtStage begun.began new a work.head records later) (sym the-area)
            (comes (Some later) next_is);
      };
    }

    -- it is done
    pub compaction-done : next ≡ None → IsHolding new (new_place area work) Nothing after after
    compaction-done next_is =
        let ready = way-ready begun.began new area work.head records few-records before begun.ready the-area head-next
        (comes None next_is) in
        subst (λ (c : Content). IsHolding new (new_place area work) Nothing c c) (sym becomes)
        (record {
          at = record { area = the-area; head = head-next; free = ap (λ (h : Head). h.count) head-next };
          holds = (ready, refl);
        })

-- records come into hand
pub compaction-under_way : (d : Disk) (place : Place) (under_way : UnderWay) (work : Compacting) (c : Content)
    (records : List Record)
    → work.head ≡ next_head place.head (length records) → work.stage ≡ ReadGate 0 → length records ≤ slots
    → IsHolding d place under_way c c
    → IsHolding d place (Compact work) c (compacted c records)
compaction-under_way d place under_way work c records head_is stage few holding = record {
  at = holding.at;
  holds = record {
    began = d;
    records = records;
    ready = idle-ready d place under_way c holding;
    becomes = refl;
    next = ap (λ (h : Head). next_head h (length records)) holding.at.head ∙ sym head_is;
    few = few;
    fits = subst (λ (s : CompactStage). IsCompactStage (length records) s) (sym stage) (omega arith);
    at = subst (λ (s : CompactStage). AtStage d d (other_area c.area) work.head records s) (sym stage)
        (none-closed d (other_area c.area));
  };
}
