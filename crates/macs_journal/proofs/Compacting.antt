-- A compaction of a journal: what it is where that was not begun, and what its device calls come to.
use Rattle.std.proofs.Common.{◌≡◌, ◌≤◌, ◌⊎◌, ◌↔◌, ◌+◌, ◌∙◌, ℕ, true, false, inl, inr, sym, ap, refl, subst, arith, List}
use Rattle.std.proofs.Common.{length, Result, Ok, Err, IsErrOf}
use Rattle.macs_disk.specs.Disk.{now}
use Rattle.macs_disk.specs.Disk as disk
use Rattle.macs_disk.specs.Runs.{Leaves}
use Rattle.macs_disk.proofs.Moments.{FailsOnce-before, Leaves-start, Leaves-weaker, Works-start}
use Rattle.macs_record.specs.Heads.{Head}
use Rattle.macs_record.specs.declared.record.Record.{Record}
use Rattle.macs_journal.specs.Appending.{HasEitherJournal}
use Rattle.macs_journal.specs.Areas.{gates, other_area, slots}
use Rattle.macs_journal.specs.Compacting.{Compacts, FindsUntil, HasOpenGates, IsBegun, compacted, compacted_place}
use Rattle.macs_journal.specs.Compacting.{last_generation, next_head, with_nothing}
use Rattle.macs_journal.specs.Found.{Content, HasJournal}
use Rattle.macs_journal.specs.Stages.{AreGatesClosed, AtStage, IsCompacted, IsUnderWay, compact_left}
use Rattle.macs_journal.specs.Stepping.{AtNextCall, IsCompactionUnderWay, IsSameTask, IsTaskUnderWay, Compaction}
use Rattle.macs_journal.specs.Stepping.{Starts, calls_of}
use Rattle.macs_journal.specs.Stepping.{place_then}
use Rattle.macs_journal.specs.Value.{AreLent, HoldsContent, IsHolding, IsIdle, JournalValue, disk_in, generation}
use Rattle.macs_journal.specs.Value.{is_stopped, left_of}
use Rattle.macs_journal.specs.Work.{FailsAs, IsWorkOf}
use Rattle.macs_journal.specs.declared.compact_stage.CompactStage.{CompactStage}
use Rattle.macs_journal.specs.declared.compact_stage.CompactStage.TheVariants.{ReadGate, CloseGate, GatesSync, HeadBody}
use Rattle.macs_journal.specs.declared.compact_stage.CompactStage.TheVariants.{Body, BodiesSync, HeadGate, HeadSync}
use Rattle.macs_journal.specs.declared.fault.JournalFault.{JournalFault}
use Rattle.macs_journal.specs.declared.fault.JournalFault.TheVariants.{Disk, GenerationsSpent, Stopped}
use Rattle.macs_journal.specs.declared.under_way.UnderWay.{UnderWay}
use Rattle.macs_journal.specs.declared.under_way.UnderWay.TheVariants.{Append, Compact, Nothing}
use Rattle.macs_journal.specs.declared.place.Place.{Place}
use Rattle.macs_journal.proofs.GateCalls.{none-closed}
use Rattle.macs_journal.proofs.Holding.{idle-ready, kept-image}
use Rattle.macs_journal.proofs.Spared.{Spared-start}
use Rattle.macs_journal.proofs.Stages.{some-left}
use Rattle.macs_journal.proofs.UnderWay.{compacted-way, way-calls, way-gates, way-leaves, way-ready, way-spares}
use Rattle.macs_journal.proofs.UnderWay.{way-until}

-- no call was made
module _ {D : Type 0} (disk_of : D → disk.Disk) (j : JournalValue D) (before : Content)
    (holds : HoldsContent disk_of j before) where
  still : Leaves (disk_in disk_of j) (disk_in disk_of j) (λ image. HasJournal image before)
  still = Leaves-start (disk_in disk_of j) (λ image. HasJournal image before)
      (kept-image (disk_in disk_of j) j.place j.under_way before holds)

  still-until : (limit : ℕ) → FindsUntil (disk_in disk_of j) (disk_in disk_of j) limit before
  still-until limit k from until lt image left = still.each image (k, from, until, left)

  still-leaves : (after : Content) → Leaves (disk_in disk_of j) (disk_in disk_of j) (HasEitherJournal before after)
  still-leaves after = Leaves-weaker _ _ (λ image. HasJournal image before) (HasEitherJournal before after)
      (λ image finds. inl finds) still

-- what is answered
abbrev refused : JournalFault → Result (Unit {0}) JournalFault
refused fault = Err fault

abbrev done : Result (Unit {0}) JournalFault
done = Ok tt

-- it was refused before the first call
module _ {D : Type 0} (disk_of : D → disk.Disk) (j : JournalValue D) (records : List Record) (fault : JournalFault)
    (starts : Starts disk_of j (Compaction records) (refused fault) j) where
  no-device-fault : ¬ IsErrOf (refused fault) Disk
  no-device-fault is = elim starts.names [
    | inl stopped ↦ cc
    | inr spent ↦ cc
  ]

  no-call : FailsAs (disk_in disk_of j) (disk_in disk_of j) (refused fault)
  no-call = elim starts.names [
    | inl stopped ↦ subst (λ (r : Result (Unit {0}) JournalFault). FailsAs (disk_in disk_of j) (disk_in disk_of j) r)
        (sym stopped) refl
    | inr spent ↦ subst (λ (r : Result (Unit {0}) JournalFault). FailsAs (disk_in disk_of j) (disk_in disk_of j) r)
        (sym spent) refl
  ]

  names : IsErrOf (refused fault) Stopped ⊎ (IsErrOf (refused fault) GenerationsSpent ⊎ IsErrOf (refused fault) Disk)
  names = elim starts.names [
    | inl stopped ↦ inl stopped
    | inr spent ↦ inr (inl spent)
  ]

  still-compacts : Compacts disk_of j records (refused fault) j
  still-compacts = record {
    stopped = starts.stopped;
    spent = starts.spent;
    names = names;
    same = inr refl;
    halted = λ is. absurd (no-device-fault is);
    at_fault = refl;
    running = tt;
    place = tt;
    work = record { works = Works-start (disk_in disk_of j); fails = no-call };
    most = omega arith;
    calls = tt;
    until = λ honest before holds opened has. still-until disk_of j before holds _;
    any_moment = λ honest before holds. still-leaves disk_of j before holds (compacted before records);
    done = tt;
    kept = tt;
    gates = tt;
    others = λ honest i apart. Spared-start (disk_in disk_of j) i;
  }

pub unbegun-compacts : {D : Type 0} (disk_of : D → disk.Disk) (old new : JournalValue D) (records : List Record)
    (fault : JournalFault)
    → Starts disk_of old (Compaction records) (refused fault) new → Compacts disk_of old records (refused fault) new
unbegun-compacts disk_of old new records fault starts =
    subst (λ (j : JournalValue _). Compacts disk_of old records (refused fault) j) (sym starts.same)
    (still-compacts disk_of old records fault
    (subst (λ (j : JournalValue _). Starts disk_of old (Compaction records) (refused fault) j) starts.same starts))

-- ---- it was begun

module _ {D : Type 0} (disk_of : D → disk.Disk) (old mid : JournalValue D) (records : List Record) (idle : IsIdle old)
    (few : length records ≤ slots)
    (starts : Starts disk_of old (Compaction records) done mid) where
  ran : is_stopped old ≡ false
  ran = by_stopped (is_stopped old) refl where
    by_stopped : (stopped : _) → is_stopped old ≡ stopped → is_stopped old ≡ false
    by_stopped false is = is
    by_stopped true is = absurd (let no = starts.stopped.1 is in cc)

  -- with nothing under way it is as before
  as-before : with_nothing mid ≡ old
  as-before = λ i. record {
    disk = starts.device i;
    place = starts.place i;
    under_way = sym idle i;
    stopped = (starts.running ∙ sym ran) i;
  }

  -- what is under way is to be done from where it is
  task-there : (under_way : UnderWay) → IsTaskUnderWay old (Compaction records) under_way
      → IsTaskUnderWay mid (Compaction records) under_way
  task-there Nothing task = absurd task
  task-there (Append work) task = absurd task
  task-there (Compact work) task = ap (λ (p : Place). next_head p.head (length records)) starts.place ∙ task

  -- another generation comes
  more : ¬ (generation mid ≡ last_generation)
  more last = let spent = starts.spent.1 (ran, sym (ap (λ (p : Place). p.head.generation) starts.place) ∙ last) in cc

  pub is-begun : IsBegun mid records
  is-begun = record {
    running = starts.running;
    more = more;
    few = few;
    under_way = task-there mid.under_way starts.under_way;
    left = starts.left;
  }

  pub begun-compacts : (result : Result (Unit {0}) JournalFault) (new : JournalValue D)
      → Compacts disk_of (with_nothing mid) records result new
      → Compacts disk_of old records result new
  begun-compacts result new compacts =
      subst (λ (j : JournalValue D). Compacts disk_of j records result new) as-before compacts

-- ---- the work under way

-- nothing is under way, or a compaction with this head
abbrev pub IsCompactOf : Head → UnderWay → Type 0
IsCompactOf head Nothing = Unit {0}
IsCompactOf head (Append work) = ⊥
IsCompactOf head (Compact work) = work.head ≡ head

pub head-begun : {D : Type 0} (j : JournalValue D) (records : List Record) (under_way : UnderWay)
    → IsTaskUnderWay j (Compaction records) under_way
    → IsCompactOf (next_head j.place.head (length records)) under_way
head-begun j records Nothing task = absurd task
head-begun j records (Append work) task = absurd task
head-begun j records (Compact work) task = sym task

pub lent-begun : {D : Type 0} (j : JournalValue D) (records : List Record) (under_way : UnderWay)
    → IsTaskUnderWay j (Compaction records) under_way → AreLent under_way records
lent-begun j records Nothing task = absurd task
lent-begun j records (Append work) task = absurd task
lent-begun j records (Compact work) task = ap (λ (h : Head). h.count) task

pub not-idle : (under_way : UnderWay) → IsCompactionUnderWay under_way → ¬ (under_way ≡ Nothing)
not-idle Nothing busy is = busy
not-idle (Append work) busy is = busy
not-idle (Compact work) busy is = cc

pub idle-then : (head : Head) (under_way : UnderWay) → IsCompactOf head under_way → ¬ IsCompactionUnderWay under_way
    → under_way ≡ Nothing
idle-then head Nothing of busy = refl
idle-then head (Append work) of busy = absurd of
idle-then head (Compact work) of busy = absurd (busy tt)

pub not-begun : {D : Type 0} (j : JournalValue D) (records : List Record) (under_way : UnderWay)
    → IsTaskUnderWay j (Compaction records) under_way → ¬ (under_way ≡ Nothing)
not-begun j records Nothing task is = task
not-begun j records (Append work) task is = task
not-begun j records (Compact work) task is = cc

-- a call is left
pub some-left-compact : (under_way : UnderWay) → IsCompactionUnderWay under_way → 1 ≤ left_of under_way
some-left-compact Nothing busy = absurd busy
some-left-compact (Append work) busy = absurd busy
some-left-compact (Compact work) busy = some-left work.head.count work.stage

-- and fails
pub fails-later : (old mid new : disk.Disk) (result : Result (Unit {0}) JournalFault) → result ≡ Err Disk
    → mid.failures ≡ old.failures → FailsAs mid new result
    → FailsAs old new result
fails-later old mid new result is steady fails =
    subst (λ (r : Result (Unit {0}) JournalFault). FailsAs old new r) (sym is)
    (FailsOnce-before old mid new steady (subst (λ (r : Result (Unit {0}) JournalFault). FailsAs mid new r) is fails))

-- one call more
pub head-next : (head : Head) (old new : UnderWay) → IsCompactionUnderWay old → IsCompactOf head old
    → ((¬ (new ≡ Nothing)) → IsSameTask old new) → IsCompactOf head new
head-next head old Nothing busy of same = tt
head-next head Nothing (Append later) busy of same = absurd busy
head-next head (Append work) (Append later) busy of same = absurd busy
head-next head (Compact work) (Append later) busy of same = same (λ is. cc)
head-next head Nothing (Compact later) busy of same = absurd busy
head-next head (Append work) (Compact later) busy of same = absurd busy
head-next head (Compact work) (Compact later) busy of same = same (λ is. cc) ∙ of

-- where it goes on then
abbrev place-under : Head → Place → Place
place-under head place = record { area = other_area place.area; head = head; free = head.count }

place-then : (place : Place) (head : Head) (under_way : UnderWay) → IsCompactionUnderWay under_way
    → IsCompactOf head under_way
    → place_then place under_way ≡ place-under head place
place-then place head Nothing busy of = absurd busy
place-then place head (Append work) busy of = absurd busy
place-then place head (Compact work) busy of = ap (λ (h : Head). place-under h place) of

pub place-moved : (start mid : Place) (records : List Record) (under_way : UnderWay) → IsCompactionUnderWay under_way
    → IsCompactOf (next_head start.head (length records)) under_way
    → mid ≡ start → place_then mid under_way ≡ compacted_place start (length records)
place-moved start mid records under_way busy of same =
    place-then mid (next_head start.head (length records)) under_way busy of
    ∙ ap (place-under (next_head start.head (length records))) same

-- before its first call
pub at-begun : {D : Type 0} (j : JournalValue D) (d : disk.Disk) (records : List Record) (under_way : UnderWay)
    → IsTaskUnderWay j (Compaction records) under_way
    → left_of under_way ≡ calls_of (Compaction records)
    → AtNextCall d d (other_area j.place.area) (next_head j.place.head (length records)) records under_way
at-begun j d records Nothing task left = absurd task
at-begun j d records (Append work) task left = absurd task
at-begun j d records (Compact work) task left = (
  sym task,
  first work.stage (subst (λ (n : ℕ). compact_left n work.stage ≡ 519 + length records)
      (sym (ap (λ (h : Head). h.count) task)) left),
) where
  first : (stage : CompactStage) → compact_left (length records) stage ≡ 519 + length records
      → AtStage d d (other_area j.place.area) (next_head j.place.head (length records)) records stage
  first (ReadGate k) left = subst (λ (n : ℕ). AreGatesClosed d d (other_area j.place.area) n 0)
      (let first : 0 ≡ k = omega (arith, left) in first) (none-closed d (other_area j.place.area))
  first (CloseGate k) left = absurd (omega (arith, left))
  first GatesSync left = absurd (omega (arith, left))
  first HeadBody left = absurd (omega (arith, left))
  first (Body slot) left = absurd (omega (arith, left))
  first BodiesSync left = absurd (omega (arith, left))
  first HeadGate left = absurd (omega (arith, left))
  first HeadSync left = absurd (omega (arith, left))

-- ---- what the calls come to

-- calls were made since it was begun
module _ {D : Type 0} (disk_of : D → disk.Disk) (old new : JournalValue D) (records : List Record)
    (begun : IsBegun old records)
    (few : (disk_in disk_of new).clock ≤ (disk_in disk_of old).clock + (519 + length records)) where
  abbrev pub area : ℕ
  area = other_area old.place.area

  abbrev pub head : Head
  head = next_head old.place.head (length records)

  module _ (under_way : disk.IsHonest (disk_in disk_of new)
      → IsUnderWay (disk_in disk_of old) (disk_in disk_of new) area head records) where
    finds-until : disk.IsHonest (disk_in disk_of new) → (before : Content)
        → HoldsContent disk_of (with_nothing old) before → (opened : ℕ)
        → HasOpenGates (now (disk_in disk_of old)).seen area gates opened
        → FindsUntil (disk_in disk_of old) (disk_in disk_of new)
        ((disk_in disk_of old).clock + (261 + opened + length records)) before
    finds-until honest before holds =
        way-until (disk_in disk_of old) (disk_in disk_of new) area head records begun.few before
        (idle-ready (disk_in disk_of old) old.place Nothing before holds)
        (ap other_area holds.at.area) (under_way honest)

    leaves-either : disk.IsHonest (disk_in disk_of new) → (before : Content)
        → HoldsContent disk_of (with_nothing old) before
        → Leaves (disk_in disk_of old) (disk_in disk_of new) (HasEitherJournal before (compacted before records))
    leaves-either honest before holds =
        way-leaves (disk_in disk_of old) (disk_in disk_of new) area head records begun.few before
        (idle-ready (disk_in disk_of old) old.place Nothing before holds)
        (ap other_area holds.at.area) (ap (λ (h : Head). next_head h (length records)) holds.at.head) (under_way honest)

  -- one of them failed
  pub broken-compacts : (fault : JournalFault) → IsErrOf (refused fault) Disk → is_stopped new ≡ true → IsIdle new
      → new.place ≡ old.place
      → IsWorkOf (disk_in disk_of old) (disk_in disk_of new) (refused fault)
      → (disk.IsHonest (disk_in disk_of new) → IsUnderWay (disk_in disk_of old) (disk_in disk_of new) area head records)
      → Compacts disk_of (with_nothing old) records (refused fault) new
  broken-compacts fault is stops idle place work under_way = record {
    stopped = ((λ stopped. absurd (let disk_fault = is in cc)), λ stopped. absurd (let runs = begun.running in cc));
    spent = ((λ spent. absurd (let disk_fault = is in cc)), λ spent. absurd (begun.more spent.1));
    names = inr (inr is);
    same = inl is;
    halted = λ failed. (stops, idle);
    at_fault = place;
    running = tt;
    place = tt;
    work = work;
    most = few;
    calls = tt;
    until = finds-until under_way;
    any_moment = leaves-either under_way;
    done = tt;
    kept = tt;
    gates = tt;
    others =
        λ honest. way-spares (disk_in disk_of old) (disk_in disk_of new) area head records begun.few (under_way honest);
  }

  -- all were made
  module _ (runs : is_stopped new ≡ false) (idle : IsIdle new)
      (place : new.place ≡ compacted_place old.place (length records))
      (work : IsWorkOf (disk_in disk_of old) (disk_in disk_of new) done)
      (compacts : disk.IsHonest (disk_in disk_of new)
      → IsCompacted (disk_in disk_of old) (disk_in disk_of new) area head records) where
    under_way-to-end : disk.IsHonest (disk_in disk_of new)
        → IsUnderWay (disk_in disk_of old) (disk_in disk_of new) area head records
    under_way-to-end honest =
        compacted-way (disk_in disk_of old) (disk_in disk_of new) area head records begun.few (compacts honest)

    holds-new : disk.IsHonest (disk_in disk_of new) → (before : Content)
        → HoldsContent disk_of (with_nothing old) before
        → IsHolding (disk_in disk_of new) (compacted_place old.place (length records)) Nothing
        (compacted before records) (compacted before records)
    holds-new honest before holds = record {
      at = record {
        area = ap other_area holds.at.area;
        head =
            ap (λ (h : Head). next_head h (length records)) holds.at.head;
        free = refl;
      };
      holds = (
        way-ready (disk_in disk_of old) (disk_in disk_of new) area head records begun.few before
            (idle-ready (disk_in disk_of old) old.place Nothing before holds) (ap other_area holds.at.area)
            (ap (λ (h : Head). next_head h (length records)) holds.at.head) (compacts honest),
        refl,
      );
    }

    pub done-compacts : Compacts disk_of (with_nothing old) records done new
    done-compacts = record {
      stopped = ((λ stopped. absurd (let no = stopped in cc)), λ stopped. absurd (let running = begun.running in cc));
      spent = ((λ spent. absurd (let no = spent in cc)), λ spent. absurd (begun.more spent.1));
      names = tt;
      same = tt;
      halted = λ failed. absurd (let no = failed in cc);
      at_fault = tt;
      running = (runs, idle);
      place = place;
      work = work;
      most = few;
      calls = λ honest.
          way-calls (disk_in disk_of old) (disk_in disk_of new) area head records begun.few (compacts honest);
      until = finds-until under_way-to-end;
      any_moment = leaves-either under_way-to-end;
      done = λ honest before holds.
          subst (λ (h : UnderWay). IsHolding (disk_in disk_of new) new.place h (compacted before records)
          (compacted before records)) (sym idle)
          (subst (λ (p : Place). IsHolding (disk_in disk_of new) p Nothing (compacted before records)
          (compacted before records)) (sym place) (holds-new honest before holds));
      kept =
          λ honest before holds. kept-image (disk_in disk_of new) (compacted_place old.place (length records)) Nothing
          (compacted before records) (holds-new honest before holds);
      gates = λ honest.
          way-gates (disk_in disk_of old) (disk_in disk_of new) area head records begun.few (compacts honest);
      others = λ honest.
          way-spares (disk_in disk_of old) (disk_in disk_of new) area head records begun.few (under_way-to-end honest);
    }
