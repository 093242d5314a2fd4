-- What one device call of the work under way makes of a journal.
use Rattle.std.proofs.Common.{◌≡◌, ◌≢◌, ◌≤◌, ◌+◌, ℕ, refl, sym, ◌∙◌, ap, subst, arith, Bool, true, false, List, length}
use Rattle.std.proofs.Common.{Option, Some, None, Result, Ok, Err}
use Rattle.macs_disk.specs.Disk as disk
use Rattle.macs_disk.specs.declared.disk.DeviceFault.{DeviceFault}
use Rattle.macs_record.specs.Heads.{Head}
use Rattle.macs_record.specs.declared.record.Record.{Record}
use Rattle.macs_journal.specs.Appending.{calls_left}
use Rattle.macs_journal.specs.Areas.{gate, other_area, slot_body}
use Rattle.macs_journal.specs.Found.{Content}
use Rattle.macs_journal.specs.Stages.{AtNextStage, AtStage, IsCompactNext, IsUnderWay, compact_left, compact_left_next}
use Rattle.macs_journal.specs.Stepping.{Advances, AdvancesAppend, AdvancesCompact, AtNextCall, place_then}
use Rattle.macs_journal.specs.Value.{AreLent, IsHolding, IsMadeOf, IsNoCompact, JournalValue, append_left, left_of}
use Rattle.macs_journal.specs.Work.{IsSpared}
use Rattle.macs_journal.specs.declared.appending.AppendStage.{AppendStage}
use Rattle.macs_journal.specs.declared.compact_stage.CompactStage.{CompactStage}
use Rattle.macs_journal.specs.declared.fault.JournalFault.{JournalFault}
use Rattle.macs_journal.specs.declared.fault.JournalFault.TheVariants.{Disk}
use Rattle.macs_journal.specs.declared.under_way.Appending.{Appending}
use Rattle.macs_journal.specs.declared.under_way.Compacting.{Compacting}
use Rattle.macs_journal.specs.declared.under_way.UnderWay.{UnderWay}
use Rattle.macs_journal.specs.declared.under_way.UnderWay.TheVariants.{Append, Compact, Nothing}
use Rattle.macs_journal.specs.declared.place.Place.{Place}
use Rattle.macs_journal.proofs.CompactionCalls.{compaction-done, compaction-leaves, compaction-next, new_place}
use Rattle.macs_journal.proofs.Holding.{GoesOn, LeavesEither, OfEachAppend, is-busy, on_ok, step-done, step-gate}
use Rattle.macs_journal.proofs.Holding.{step-leaves, step-next}
use Rattle.macs_journal.proofs.Stages.{some-left}
use Rattle.macs_journal.proofs.Working.{called, done-call}

-- a journal, by what it keeps
abbrev pub journal_of : {D : Type 0} → D → Place → UnderWay → Bool → JournalValue D
journal_of device place under_way stopped =
    record { disk = device; place = place; under_way = under_way; stopped = stopped }

-- what comes of a device call: the one that comes next, or a fault
abbrev pub then_comes : {Stage : Type 0} → Option Stage → Result (Option Stage) DeviceFault
then_comes next = Ok next

abbrev pub faulty : {Stage : Type 0} → DeviceFault → Result (Option Stage) DeviceFault
faulty fault = Err fault

-- and what the journal answers
abbrev pub went : Result (Unit {0}) JournalFault
went = Ok tt

abbrev pub broke : Result (Unit {0}) JournalFault
broke = Err Disk

-- ---- an append

module _ {D : Type 0} (disk_of : D → disk.Disk) (device later : D) (place : Place) (work : Appending)
    (others : disk.IsHonest (disk_of later) → (i : ℕ) → i ≢ slot_body place.area place.free
    → i ≢ gate place.area (place.free + 1)
    → IsSpared (disk_of device) (disk_of later) i)
    (images : disk.IsHonest (disk_of later)
    → OfEachAppend place work (disk.now (disk_of device)) (LeavesEither (disk.now (disk_of later)))) where
  module _ (next : Option AppendStage) (call : disk.IsDeviceCall (disk_of device) (disk_of later) (then_comes next))
      (comes : disk.IsHonest (disk_of later)
      → OfEachAppend place work (disk.now (disk_of device)) (GoesOn (disk.now (disk_of later)) work next))
      (left : calls_left next + 1 ≡ calls_left (Some work.stage)) where
    -- another call comes next
    pub append-goes_on : (stage : AppendStage) → next ≡ Some stage
        → AdvancesAppend disk_of (journal_of device place (Append work) false) went
        (journal_of later place (Append (record work { stage = stage })) false)
    append-goes_on stage is = record {
      names = tt;
      work = record { works = call.work.works; fails = call.work.ok };
      no_compact = tt;
      after = refl;
      device = called _ _ (then_comes next) went refl call;
      one = call.at_most_one;
      call = done-call _ _ (then_comes next) call;
      idle = tt;
      any_moment = λ honest before after holding.
          step-leaves _ _ place (Append work) work before after (then_comes next) refl holding call (images honest);
      next = λ honest before after holding.
          step-next _ _ place (Append work) work next stage before after refl is holding (comes honest);
      left = subst (λ (n : Option AppendStage). calls_left n + 1 ≡ calls_left (Some work.stage)) is left;
      place = λ busy. refl;
      moved = λ idle. absurd (let not : Append (record work { stage = stage }) ≡ Nothing = idle in cc);
      task = λ busy. refl;
      at_fault = tt;
      others = others;
      opened = λ idle. absurd (let not : Append (record work { stage = stage }) ≡ Nothing = idle in cc);
    }

    -- the record is there
    pub append-ends : next ≡ None
        → AdvancesAppend disk_of (journal_of device place (Append work) false) went
        (journal_of later (record place { free = place.free + 1 }) Nothing false)
    append-ends is = record {
      names = tt;
      work = record { works = call.work.works; fails = call.work.ok };
      no_compact = tt;
      after = refl;
      device = called _ _ (then_comes next) went refl call;
      one = call.at_most_one;
      call = done-call _ _ (then_comes next) call;
      idle = tt;
      any_moment = λ honest before after holding.
          step-leaves _ _ place (Append work) work before after (then_comes next) refl holding call (images honest);
      next = λ honest before after holding.
          step-done _ _ place (Append work) work next before after refl is holding (comes honest);
      left = subst (λ (n : Option AppendStage). calls_left n + 1 ≡ calls_left (Some work.stage)) is left;
      place = λ busy. absurd (omega (arith, busy));
      moved = λ idle. refl;
      task = λ busy. absurd (busy refl);
      at_fault = tt;
      others = others;
      opened = λ idle honest before after holding. step-gate (disk_of device) (disk_of later) place (Append work) work
          next before after refl is holding (comes honest);
    }

  -- the call failed
  pub append-stops : (fault : DeviceFault)
      → disk.IsDeviceCall (disk_of device) (disk_of later) (faulty {Stage = AppendStage} fault)
      → AdvancesAppend disk_of (journal_of device place (Append work) false) broke (journal_of later place Nothing true)
  append-stops fault call = record {
    names = refl;
    work = record { works = call.work.works; fails = call.work.err };
    no_compact = tt;
    after = refl;
    device = called _ _ (faulty {Stage = AppendStage} fault) broke refl call;
    one = call.at_most_one;
    call = tt;
    idle = refl;
    any_moment = λ honest before after holding. step-leaves _ _ place (Append work) work before after
        (faulty {Stage = AppendStage} fault) refl holding call (images honest);
    next = tt;
    left = tt;
    place = λ busy. absurd (omega (arith, busy));
    moved = tt;
    task = λ busy. absurd (busy refl);
    at_fault = refl;
    others = others;
    opened = tt;
  }

-- as many calls are left of an append as of any work
left-same : (under_way : UnderWay) → IsNoCompact under_way → left_of under_way ≡ append_left under_way
left-same Nothing is = refl
left-same (Append work) is = refl
left-same (Compact work) is = absurd is

still-busy : (under_way : UnderWay) → IsNoCompact under_way → ¬ (under_way ≡ Nothing) → 1 ≤ append_left under_way
still-busy Nothing is busy = absurd (busy refl)
still-busy (Append work) is busy = is-busy work
still-busy (Compact work) is busy = absurd is

-- no records are asked of it
lent-none : (under_way : UnderWay) → IsNoCompact under_way → (records : List Record) → AreLent under_way records
lent-none Nothing is records = tt
lent-none (Append work) is records = tt
lent-none (Compact work) is records = absurd is

made-none : (under_way : UnderWay) → IsNoCompact under_way → (records : List Record) (before after : Content)
    → IsMadeOf under_way records before after
made-none Nothing is records before after = tt
made-none (Append work) is records before after = tt
made-none (Compact work) is records before after = absurd is

-- so it advances with any that are lent
module _ {D : Type 0} (disk_of : D → disk.Disk) (old new : JournalValue D) (records : List Record)
    (result : Result (Unit {0}) JournalFault)
    (work : Appending) (under_way_is : old.under_way ≡ Append work)
    (advances : AdvancesAppend disk_of old result new) where
  was : left_of old.under_way ≡ append_left old.under_way
  was = left-same old.under_way (subst IsNoCompact (sym under_way_is) tt)

  pub append-advances : Advances disk_of old records result new
  append-advances = record {
    names = advances.names;
    work = advances.work;
    after = advances.after;
    device = advances.device;
    one = advances.one;
    call = advances.call;
    idle = advances.idle;
    left = on_ok result (λ less. let before = was in let is = left-same new.under_way advances.no_compact in
        omega (arith, less, before, is)) advances.left;
    exact = on_ok result (λ less none. let before = was in let is = left-same new.under_way advances.no_compact in
        omega (arith, less, before, is)) advances.left;
    place = λ busy. advances.place (still-busy new.under_way advances.no_compact busy);
    task = advances.task;
    moved = on_ok result (λ goes_on idle. goes_on idle ∙ ap (place_then old.place) (sym under_way_is)) advances.moved;
    at_fault = advances.at_fault;
    lent = λ others lent. lent-none new.under_way advances.no_compact others;
    made = λ before after made. made-none new.under_way advances.no_compact records before after;
    any_moment = λ honest before after holding. advances.any_moment honest before after holding.holds;
    next = on_ok result (λ comes honest before after holding. comes honest before after holding.holds) advances.next;
  }

-- ---- a compaction

module _ {D : Type 0} (disk_of : D → disk.Disk) (device later : D) (place : Place) (work : Compacting)
    (records : List Record)
    (area : ℕ) (area_is : area ≡ other_area place.area)
    (under_way : disk.IsHonest (disk_of later) → (began : disk.Disk)
    → AtStage began (disk_of device) area work.head records work.stage
    → IsUnderWay began (disk_of later) area work.head records) where
  -- it is before its next call
  at-stage : (began : disk.Disk) (head : Head)
      → AtNextCall began (disk_of device) (other_area place.area) head records (Compact work)
      → AtStage began (disk_of device) area work.head records work.stage
  at-stage began head at =
      subst (λ (h : Head). AtStage began (disk_of device) area h records work.stage) (sym at.0)
      (subst (λ (a : ℕ). AtStage began (disk_of device) a head records work.stage) (sym area_is) at.1)

  -- whatever the call answered
  way : disk.IsHonest (disk_of later) → (began : disk.Disk) (head : Head)
      → AtNextCall began (disk_of device) (other_area place.area) head records (Compact work)
      → IsUnderWay began (disk_of later) (other_area place.area) head records
  way honest began head at =
      subst (λ (a : ℕ). IsUnderWay began (disk_of later) a head records) area_is
      (subst (λ (h : Head). IsUnderWay began (disk_of later) area h records) at.0
      (under_way honest began (at-stage began head at)))

  module _ (next : Option CompactStage) (call : disk.IsDeviceCall (disk_of device) (disk_of later) (then_comes next))
      (comes : disk.IsHonest (disk_of later) → (began : disk.Disk)
      → AtStage began (disk_of device) area work.head records work.stage
      → AtNextStage began (disk_of later) area work.head records next) where
    next-is : (is : Option CompactStage) → next ≡ is → disk.IsHonest (disk_of later) → (began : disk.Disk) (head : Head)
        → AtNextCall began (disk_of device) (other_area place.area) head records (Compact work)
        → AtNextStage began (disk_of later) (other_area place.area) head records is
    next-is is ends honest began head at =
        subst (λ (a : ℕ). AtNextStage began (disk_of later) a head records is) area_is
        (subst (λ (h : Head). AtNextStage began (disk_of later) area h records is) at.0
        (subst (λ (n : Option CompactStage). AtNextStage began (disk_of later) area work.head records n) ends
        (comes honest began (at-stage began head at))))

    -- another call comes next
    pub compact-goes_on : (stage : CompactStage) → next ≡ Some stage → length records ≡ work.head.count
        → IsCompactNext (length records) next
        → compact_left_next (length records) next + 1 ≤ compact_left (length records) work.stage
        → AdvancesCompact disk_of (journal_of device place (Compact work) false) records went
        (journal_of later place (Compact (record work { stage = stage })) false)
    compact-goes_on stage is count room left = record {
      advances = record {
        names = tt;
        work = record { works = call.work.works; fails = call.work.ok };
        after = refl;
        device = called _ _ (then_comes next) went refl call;
        one = call.at_most_one;
        call = done-call _ _ (then_comes next) call;
        idle = tt;
        left = subst (λ (n : ℕ). compact_left n stage + 1 ≤ compact_left n work.stage) count
            (subst (λ (n : Option CompactStage).
            compact_left_next (length records) n + 1 ≤ compact_left (length records) work.stage) is left);
        exact = λ none. absurd none;
        place = λ busy. refl;
        task = λ busy. refl;
        moved = λ idle. absurd (let not : Compact (record work { stage = stage }) ≡ Nothing = idle in cc);
        at_fault = tt;
        lent = λ others lent. lent;
        made = λ before after made. made;
        any_moment = λ honest before after holding.
            compaction-leaves (disk_of device) place (Compact work) work records before after refl holding area area_is
            (disk_of later) call.work.works (under_way honest);
        next = λ honest before after holding.
            compaction-next (disk_of device) place (Compact work) work records before after refl holding area area_is
            (disk_of later) next (comes honest) stage is room;
      };
      under_way = way;
      next = λ honest began head at. (at.0, next-is (Some stage) is honest began head at);
    }

    -- the records are there
    pub compact-ends : next ≡ None
        → AdvancesCompact disk_of (journal_of device place (Compact work) false) records went
        (journal_of later (new_place (other_area place.area) work) Nothing false)
    compact-ends is = record {
      advances = record {
        names = tt;
        work = record { works = call.work.works; fails = call.work.ok };
        after = refl;
        device = called _ _ (then_comes next) went refl call;
        one = call.at_most_one;
        call = done-call _ _ (then_comes next) call;
        idle = tt;
        left = (let some = some-left work.head.count work.stage in omega (arith, some));
        exact = λ none. absurd none;
        place = λ busy. absurd (busy refl);
        task = λ busy. absurd (busy refl);
        moved = λ idle. refl;
        at_fault = tt;
        lent = λ others lent. tt;
        made = λ before after made. tt;
        any_moment = λ honest before after holding.
            compaction-leaves (disk_of device) place (Compact work) work records before after refl holding area area_is
            (disk_of later) call.work.works (under_way honest);
        next = λ honest before after holding.
            subst (λ (a : ℕ). IsHolding (disk_of later) (new_place a work) Nothing after after) area_is
            (compaction-done (disk_of device) place (Compact work) work records before after refl holding area area_is
            (disk_of later) next (comes honest) is);
      };
      under_way = way;
      next = next-is None is;
    }

  -- the call failed
  pub compact-stops : (fault : DeviceFault)
      → disk.IsDeviceCall (disk_of device) (disk_of later) (faulty {Stage = CompactStage} fault)
      → AdvancesCompact disk_of (journal_of device place (Compact work) false) records broke
      (journal_of later place Nothing true)
  compact-stops fault call = record {
    advances = record {
      names = refl;
      work = record { works = call.work.works; fails = call.work.err };
      after = refl;
      device = called _ _ (faulty {Stage = CompactStage} fault) broke refl call;
      one = call.at_most_one;
      call = tt;
      idle = refl;
      left = tt;
      exact = tt;
      place = λ busy. absurd (busy refl);
      task = λ busy. absurd (busy refl);
      moved = tt;
      at_fault = refl;
      lent = λ others lent. tt;
      made = λ before after made. tt;
      any_moment = λ honest before after holding.
          compaction-leaves (disk_of device) place (Compact work) work records before after refl holding area area_is
          (disk_of later) call.work.works (under_way honest);
      next = tt;
    };
    under_way = way;
    next = tt;
  }
