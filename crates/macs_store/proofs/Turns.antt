-- One step of a store, from what its journal answers.
use Rattle.std.proofs.Common.{◌≡◌, ◌≢◌, ◌≤◌, ◌+◌, ◌∙◌, ℕ, true, false, List, length}
use Rattle.std.proofs.Common.{Some, Result, Ok, Err, inl, inr, refl, ap, sym, subst, arith}
use Rattle.macs_config.specs.Config.{this_edition}
use Rattle.macs_disk.specs.Disk.{Disk, IsDeviceCall, IsHonest}
use Rattle.macs_disk.specs.Runs.{Leaves}
use Rattle.macs_disk.proofs.Moments.{Leaves-start, Leaves-weaker, Works-start}
use Rattle.macs_journal.specs.Appending.{HasEitherJournal}
use Rattle.macs_journal.specs.Found.{content_with_record}
use Rattle.macs_journal.specs.Stepping as journal
use Rattle.macs_journal.specs.Stepping.{Appends, IsAppendUnderWay, CompactsWith, place_then}
use Rattle.macs_journal.specs.Value.{IsMadeOf, IsNoCompact, JournalValue, left_of}
use Rattle.macs_journal.specs.Value as journal_value
use Rattle.macs_journal.specs.Work.{IsWorkOf}
use Rattle.macs_journal.specs.declared.fault.JournalFault.{JournalFault}
use Rattle.macs_journal.specs.declared.fault.JournalFault.TheVariants as fault
use Rattle.macs_journal.specs.declared.under_way.UnderWay as journal_under_way
use Rattle.macs_journal.specs.declared.under_way.UnderWay.TheVariants as journal_work
use Rattle.macs_journal.specs.declared.place.Place.{Place}
use Rattle.macs_journal.specs.declared.work.JournalStep.{JournalStep}
use Rattle.macs_journal.specs.declared.work.JournalStep.TheVariants.{Finished, Going, Idle}
use Rattle.macs_journal.proofs.Tasks.{append-with}
use Rattle.macs_journal.proofs.Working.{called}
use Rattle.macs_record.specs.declared.record.Record.{Record}
use Rattle.macs_store.specs.Found.{StandsForEither}
use Rattle.macs_store.specs.Replay.{meaning_of, standing_after_record}
use Rattle.macs_store.specs.Snapshot.{snapshot}
use Rattle.macs_store.specs.Standing.{Standing}
use Rattle.macs_store.specs.Stepping.{Steps}
use Rattle.macs_store.specs.Table.{StandingValue, standing_of}
use Rattle.macs_store.specs.Value.{FitsUnderWay, IsIdle, IsStored, StoreValue, calls_left, calls_with, disk_in}
use Rattle.macs_store.specs.Value.{generation_with, is_stopped, slots_with, snapshot_length, standing_in, standing_next}
use Rattle.macs_store.specs.Value.{standing_then, standing_with}
use Rattle.macs_store.specs.UnderWay.{UnderWay}
use Rattle.macs_store.specs.UnderWay.{Appending, Nothing, Compacting}
use Rattle.macs_store.proofs.MadeSteps.{compaction-slots}
use Rattle.macs_store.proofs.Started.{task-appends}
use Rattle.macs_store.proofs.Keeping.{either-image, held-within, under_way-image, standing-with, stored-image}

-- what a step answers
abbrev answers : JournalStep → Result JournalStep JournalFault
answers step = Ok step

abbrev refuses : JournalFault → Result JournalStep JournalFault
refuses at = Err at

-- its journal made a step, and the snapshot was lent to it
abbrev pub JournalSteps : {D : Type 0} → (D → Disk) → StoreValue D → Result JournalStep JournalFault → JournalValue D
    → Type 0
JournalSteps disk_of s result j = journal.Steps disk_of s.journal (snapshot (standing_in s)) result j

-- ---- no work is under way

module _ {D : Type 0} (disk_of : D → Disk) (s : StoreValue D) where
  nothing-new : IsStored disk_of s → (after : Standing) → standing_then s ≡ Some after
      → Leaves (disk_in disk_of s) (disk_in disk_of s) (StandsForEither (standing_in s) after)
  nothing-new stored after follows =
      Leaves-start (disk_in disk_of s) (StandsForEither (standing_in s) after)
      (under_way-image disk_of s stored after follows)

  pub rests-stopped : is_stopped s ≡ true → Steps disk_of s (refuses fault.Stopped) s
  rests-stopped is = record {
    stopped = (λ same. is, λ same. refl);
    idle = (λ same. absurd cc, λ both. absurd (let no : true ≡ false = sym is ∙ both.0 in cc));
    names = inl refl;
    same = λ which. refl;
    halted = λ same. absurd (let no : fault.Stopped ≡ fault.Disk = cc in cc);
    running = tt;
    standing = λ not. refl;
    going = λ same. absurd cc;
    finished = λ same. absurd cc;
    slots = tt;
    generation = tt;
    work = record { works = Works-start (disk_in disk_of s); fails = refl };
    device = λ runs busy. absurd (let no : true ≡ false = sym is ∙ runs in cc);
    one = omega arith;
    call = tt;
    left = tt;
    last = λ same. absurd cc;
    any_moment = λ honest stored after follows. nothing-new stored after follows;
    stored = tt;
    kept = λ same. absurd cc;
  }

  pub rests-idle : is_stopped s ≡ false → IsIdle s → Steps disk_of s (answers Idle) s
  rests-idle runs idle = record {
    stopped = (λ same. absurd cc, λ is. absurd (let no : true ≡ false = sym is ∙ runs in cc));
    idle = (λ same. (runs, idle), λ both. refl);
    names = tt;
    same = λ which. refl;
    halted = λ same. absurd cc;
    running = runs;
    standing = λ not. refl;
    going = λ same. absurd (let no : Idle ≡ Going = cc in cc);
    finished = λ same. absurd (let no : Idle ≡ Finished = cc in cc);
    slots = refl;
    generation = refl;
    work = record { works = Works-start (disk_in disk_of s); fails = refl };
    device = λ runs busy. absurd (busy idle);
    one = omega arith;
    call = λ busy. absurd (busy idle);
    left = λ busy. absurd (busy idle);
    last = λ same. absurd (let no : Idle ≡ Finished = cc in cc);
    any_moment = λ honest stored after follows. nothing-new stored after follows;
    stored = λ honest stored. stored;
    kept = λ same. absurd (let no : Idle ≡ Finished = cc in cc);
  }

-- ---- what is read of a store with work under way

-- the slots, the generation and the calls, by what is read of its journal
slots-kept : {D : Type 0} (old new : StoreValue D) (under_way : UnderWay) → new.journal.place ≡ old.journal.place
    → new.held ≡ old.held → slots_with new under_way ≡ slots_with old under_way
slots-kept old new Nothing place held = ap (λ (p : Place). p.free) place
slots-kept old new (Compacting r) place held = ap (λ (h : StandingValue). length (snapshot (standing_of h)) + 1) held
slots-kept old new (Appending r) place held = ap (λ (p : Place). p.free + 1) place

generation-kept : {D : Type 0} (old new : StoreValue D) (under_way : UnderWay) → new.journal.place ≡ old.journal.place
    → generation_with new under_way ≡ generation_with old under_way
generation-kept old new Nothing place = ap (λ (p : Place). p.head.generation) place
generation-kept old new (Compacting r) place = ap (λ (p : Place). p.head.generation + 1) place
generation-kept old new (Appending r) place = ap (λ (p : Place). p.head.generation) place

calls-fewer : {D : Type 0} (old new : StoreValue D) (under_way : UnderWay) → under_way ≢ Nothing
    → left_of new.journal.under_way + 1 ≤ left_of old.journal.under_way
    → calls_with new under_way + 1 ≤ calls_with old under_way
calls-fewer old new Nothing busy less = absurd (busy refl)
calls-fewer old new (Compacting r) busy less = omega (arith, less)
calls-fewer old new (Appending r) busy less = less

-- ---- a device call of the journal

module _ {D : Type 0} (disk_of : D → Disk) (s : StoreValue D) (runs : is_stopped s ≡ false) (busy : ¬ IsIdle s)
    (at_work : ¬ (journal_value.IsIdle s.journal)) where
  runs_on : is_stopped s ≡ true → ⊥
  runs_on is = let no : true ≡ false = sym is ∙ runs in cc

  -- what a power loss leaves, whatever it answered
  moments : (result : Result JournalStep JournalFault) (j : JournalValue D)
      → JournalSteps disk_of s result j
      → IsHonest (disk_of j.disk) → IsStored disk_of s → (after : Standing) → standing_then s ≡ Some after
      → Leaves (disk_in disk_of s) (disk_of j.disk) (StandsForEither (standing_in s) after)
  moments result j steps honest stored after follows =
      Leaves-weaker (disk_in disk_of s) (disk_of j.disk) (HasEitherJournal stored.content stored.next)
      (StandsForEither (standing_in s) after)
      (λ image left. either-image disk_of s stored after follows image left)
      (steps.any_moment honest stored.content stored.next stored.holding)

  -- it failed
  turn-failed : (at : JournalFault) (j : JournalValue D) → JournalSteps disk_of s (refuses at) j
      → Steps disk_of s (refuses at) (record { journal = j; held = s.held; under_way = Nothing })
  turn-failed at j steps = record {
    stopped = (λ same. steps.stopped.0 same, λ is. steps.stopped.1 is);
    idle = (λ same. absurd cc, λ both. absurd (busy both.1));
    names = steps.names;
    same = λ which. elim which [
      | inl stopped ↦ absurd (runs_on (steps.stopped.0 stopped))
      | inr idle ↦ absurd cc
    ];
    halted = λ same. ((steps.halted same).0, refl);
    running = tt;
    standing = λ not. refl;
    going = λ same. absurd cc;
    finished = λ same. absurd cc;
    slots = tt;
    generation = tt;
    work = steps.work;
    device = λ was still. steps.device runs at_work;
    one = steps.one;
    call = tt;
    left = tt;
    last = λ same. absurd cc;
    any_moment = λ honest stored after follows. moments (refuses at) j steps honest stored after follows;
    stored = tt;
    kept = λ same. absurd cc;
  }

  -- the same work goes on
  turn-going : (j : JournalValue D) → JournalSteps disk_of s (answers Going) j
      → Steps disk_of s (answers Going) (record s { journal = j })
  turn-going j steps =
      let place = steps.place (λ same. let no : Going ≡ Finished = cc in cc) in
      record {
        stopped = (λ same. absurd cc, λ is. absurd (runs_on is));
        idle = (λ same. absurd (let no : Going ≡ Idle = cc in cc), λ both. absurd (busy both.1));
        names = tt;
        same = λ which. elim which [
          | inl stopped ↦ absurd cc
          | inr idle ↦ absurd (let no : Going ≡ Idle = cc in cc)
        ];
        halted = λ same. absurd cc;
        running = steps.running;
        standing = λ not. refl;
        going = λ same. (busy, refl);
        finished = λ same. absurd (let no : Going ≡ Finished = cc in cc);
        slots = slots-kept s (record s { journal = j }) s.under_way place refl;
        generation = generation-kept s (record s { journal = j }) s.under_way place;
        work = record { works = steps.work.works; fails = steps.work.fails };
        device = λ was still. steps.device runs at_work;
        one = steps.one;
        call = λ was. steps.call at_work;
        left = λ was. calls-fewer s (record s { journal = j }) s.under_way busy (steps.left at_work);
        last = λ same. absurd (let no : Going ≡ Finished = cc in cc);
        any_moment = λ honest stored after follows. moments (answers Going) j steps honest stored after follows;
        stored = λ honest stored. record {
          content = stored.content;
          next = stored.next;
          holding = steps.goes_on refl honest stored.content stored.next stored.holding;
          stands = stored.stands;
          becomes = stored.becomes;
          leads = stored.leads;
          form = stored.form;
          form_next = stored.form_next;
        };
        kept = λ same. absurd (let no : Going ≡ Finished = cc in cc);
      }

-- ---- its last one

-- of an append
module _ {D : Type 0} (disk_of : D → Disk) (s : StoreValue D) (runs : is_stopped s ≡ false) (r : Record)
    (under_way_is : s.under_way ≡ Appending r)
    (appends : IsAppendUnderWay s.journal.under_way) where
  -- the journal is at work
  append-busy : ¬ IsIdle s
  append-busy idle = let no : Appending r ≡ Nothing = sym under_way_is ∙ idle in cc

  append-works : ¬ (journal_value.IsIdle s.journal)
  append-works idle = subst (λ (h : journal_under_way.UnderWay). IsAppendUnderWay h) idle appends

  append-alone : (under_way : journal_under_way.UnderWay) → IsAppendUnderWay under_way → IsNoCompact under_way
  append-alone journal_work.Nothing is = absurd is
  append-alone (journal_work.Append work) is = tt
  append-alone (journal_work.Compact work) is = absurd is

  -- one slot more is used
  append-place : (place : Place) (under_way : journal_under_way.UnderWay) → IsAppendUnderWay under_way
      → place_then place under_way ≡ record place { free = place.free + 1 }
  append-place place journal_work.Nothing is = absurd is
  append-place place (journal_work.Append work) is = refl
  append-place place (journal_work.Compact work) is = absurd is

  append-stored : (j : JournalValue D) (held : StandingValue)
      → standing_after_record (standing_in s) r ≡ Some (standing_of held)
      → JournalSteps disk_of s (answers Finished) j → IsHonest (disk_of j.disk) → IsStored disk_of s
      → IsStored disk_of (record { journal = j; held = held; under_way = Nothing })
  append-stored j held follows steps honest stored =
      let means : meaning_of this_edition stored.next ≡ Some (standing_of held) = stored.becomes
      ∙ ap (standing_next (standing_in s)) under_way_is ∙ follows in
      record {
        content = stored.next;
        next = stored.next;
        holding = record {
          holds = steps.done refl honest stored.content stored.next stored.holding;
          made = subst
              (λ (h : journal_under_way.UnderWay). IsMadeOf h (snapshot (standing_of held)) stored.next stored.next)
              (sym (steps.finished refl)) tt;
        };
        stands = means;
        becomes = means;
        leads = refl;
        form = stored.form_next;
        form_next = stored.form_next;
      }

  append-finished : (j : JournalValue D) (held : StandingValue)
      → standing_after_record (standing_in s) r ≡ Some (standing_of held)
      → JournalSteps disk_of s (answers Finished) j
      → Steps disk_of s (answers Finished) (record { journal = j; held = held; under_way = Nothing })
  append-finished j held follows steps =
      let place = steps.moved refl ∙ append-place s.journal.place s.journal.under_way appends in
      record {
        stopped = (λ same. absurd cc, λ is. absurd (let no : true ≡ false = sym is ∙ runs in cc));
        idle = (λ same. absurd (let no : Finished ≡ Idle = cc in cc), λ both. absurd (append-busy both.1));
        names = tt;
        same = λ which. elim which [
          | inl stopped ↦ absurd cc
          | inr idle ↦ absurd (let no : Finished ≡ Idle = cc in cc)
        ];
        halted = λ same. absurd cc;
        running = steps.running;
        standing = λ not. absurd (not refl);
        going = λ same. absurd (let no : Finished ≡ Going = cc in cc);
        finished = λ same. (refl, ap (standing_with (standing_in s)) under_way_is ∙ follows);
        slots = ap (λ (p : Place). p.free) place ∙ sym (ap (slots_with s) under_way_is);
        generation = ap (λ (p : Place). p.head.generation) place ∙ sym (ap (generation_with s) under_way_is);
        work = record { works = steps.work.works; fails = steps.work.fails };
        device = λ was still. steps.device runs append-works;
        one = steps.one;
        call = λ was. steps.call append-works;
        left = λ was. (let less = steps.left append-works in let calls : calls_left s ≡ left_of s.journal.under_way =
            ap (calls_with s) under_way_is in omega (arith, less, calls));
        last = λ same. (let exact = steps.exact append-works (append-alone s.journal.under_way appends) in
            let none = ap left_of (steps.finished refl) in
            let calls : calls_left s ≡ left_of s.journal.under_way = ap (calls_with s) under_way_is in
            omega (arith, exact, none, calls));
        any_moment = λ honest stored after follows.
            moments disk_of s runs append-busy append-works (answers Finished) j steps honest stored after follows;
        stored = λ honest stored. append-stored j held follows steps honest stored;
        kept = λ same honest stored image left.
            stored-image disk_of (record { journal = j; held = held; under_way = Nothing }) refl
            (append-stored j held follows steps honest stored) image left;
      }

-- of a compaction, after which the record is under way
module _ {D : Type 0} (disk_of : D → Disk) (s : StoreValue D) (runs : is_stopped s ≡ false) (r : Record)
    (under_way_is : s.under_way ≡ Compacting r)
    (compacts : CompactsWith s.journal.place s.journal.under_way (snapshot (standing_in s))) where
  compaction-busy : ¬ IsIdle s
  compaction-busy idle = let no : Compacting r ≡ Nothing = sym under_way_is ∙ idle in cc

  compaction-works : ¬ (journal_value.IsIdle s.journal)
  compaction-works idle =
      subst (λ (h : journal_under_way.UnderWay). CompactsWith s.journal.place h (snapshot (standing_in s)))
      idle compacts

  -- in the next generation
  compaction-generation : (place : Place) (under_way : journal_under_way.UnderWay) (records : List Record)
      → CompactsWith place under_way records
      → (place_then place under_way).head.generation ≡ place.head.generation + 1
  compaction-generation place journal_work.Nothing records is = absurd is
  compaction-generation place (journal_work.Append work) records is = absurd is
  compaction-generation place (journal_work.Compact work) records is = ap (λ h. h.generation) (sym is)

  module _ (mid : JournalValue D)
      (steps : JournalSteps disk_of s (answers Finished) mid) where
    -- the journal goes on with a free slot
    compaction-room : mid.place.free ≡ snapshot_length s
    compaction-room = ap (λ (p : Place). p.free) (steps.moved refl)
        ∙ compaction-slots s.journal.place s.journal.under_way (snapshot (standing_in s)) compacts

    module _ (j : JournalValue D) (starts : journal.Starts disk_of mid (Appends r) (Ok tt) j) where
      same-disk : disk_of mid.disk ≡ disk_of j.disk
      same-disk = ap disk_of (sym starts.device)

      at_rest : (d : Disk) → disk_of mid.disk ≡ d → IsHonest d → IsHonest (disk_of mid.disk)
      at_rest d is honest = subst (λ (x : Disk). IsHonest x) (sym is) honest

      compacted-stored : IsHonest (disk_of j.disk) → IsStored disk_of s
          → IsStored disk_of (record { journal = j; held = s.held; under_way = Appending r })
      compacted-stored honest stored =
          let before = at_rest (disk_of j.disk) same-disk honest in
          let holds = steps.done refl before stored.content stored.next stored.holding in
          let means : meaning_of this_edition stored.next ≡ Some (standing_in s) = stored.becomes
          ∙ ap (standing_next (standing_in s)) under_way_is in
          record {
            content = stored.next;
            next = content_with_record stored.next r;
            holding = append-with (disk_of j.disk) j.place j.under_way (snapshot (standing_in s)) stored.next
                (content_with_record stored.next r)
                (task-appends mid r j.under_way starts.under_way) (starts.holds stored.next holds);
            stands = means;
            becomes = standing-with this_edition stored.next r (standing_in s)
                (held-within disk_of mid stored.next holds) stored.form_next means;
            leads = refl;
            form = stored.form_next;
            form_next = stored.form_next;
          }

      compaction-finished : Steps disk_of s (answers Going)
          (record { journal = j; held = s.held; under_way = Appending r })
      compaction-finished = record {
        stopped = (λ same. absurd cc, λ is. absurd (let no : true ≡ false = sym is ∙ runs in cc));
        idle = (λ same. absurd (let no : Going ≡ Idle = cc in cc), λ both. absurd (compaction-busy both.1));
        names = tt;
        same = λ which. elim which [
          | inl stopped ↦ absurd cc
          | inr idle ↦ absurd (let no : Going ≡ Idle = cc in cc)
        ];
        halted = λ same. absurd cc;
        running = starts.running;
        standing = λ not. refl;
        going = λ same. (λ empty. absurd cc, sym (ap (standing_with (standing_in s)) under_way_is));
        finished = λ same. absurd (let no : Going ≡ Finished = cc in cc);
        slots = ap (λ (p : Place). p.free + 1) starts.place ∙ ap (λ (n : ℕ). n + 1) compaction-room
            ∙ sym (ap (slots_with s) under_way_is);
        generation = ap (λ (p : Place). p.head.generation) (starts.place ∙ steps.moved refl)
            ∙ compaction-generation s.journal.place s.journal.under_way (snapshot (standing_in s)) compacts
            ∙ sym (ap (generation_with s) under_way_is);
        work = subst (λ (d : Disk). IsWorkOf (disk_in disk_of s) d (answers Going)) same-disk
            (record { works = steps.work.works; fails = steps.work.fails });
        device = λ was still. subst (λ (d : Disk). IsDeviceCall (disk_in disk_of s) d (answers Going)) same-disk
            (called (disk_in disk_of s) (disk_of mid.disk) (answers Finished) (answers Going) refl
            (steps.device runs compaction-works));
        one = subst (λ (d : Disk). d.clock ≤ (disk_in disk_of s).clock + 1) same-disk steps.one;
        call =
            λ was.
            subst (λ (d : Disk). d.clock ≡ (disk_in disk_of s).clock + 1) same-disk (steps.call compaction-works);
        left = λ was.
            (let less = steps.left compaction-works in let four = starts.left in
            let calls : calls_left s ≡ left_of s.journal.under_way + 4 = ap (calls_with s) under_way_is in
            omega (arith, less, four, calls));
        last = λ same. absurd (let no : Going ≡ Finished = cc in cc);
        any_moment = λ honest stored after follows.
            subst (λ (d : Disk). Leaves (disk_in disk_of s) d (StandsForEither (standing_in s) after)) same-disk
            (moments disk_of s runs compaction-busy compaction-works (answers Finished) mid steps
            (at_rest (disk_of j.disk) same-disk honest) stored after follows);
        stored = λ honest stored. compacted-stored honest stored;
        kept = λ same. absurd (let no : Going ≡ Finished = cc in cc);
      }

-- ---- by the invariant of a store

fits-at : {D : Type 0} (s : StoreValue D) (u : UnderWay) → FitsUnderWay s.journal (standing_in s) s.under_way
    → s.under_way ≡ u → FitsUnderWay s.journal (standing_in s) u
fits-at s u fits is = subst (λ (h : UnderWay). FitsUnderWay s.journal (standing_in s) h) is fits

module _ {D : Type 0} (disk_of : D → Disk) (s : StoreValue D)
    (fits : FitsUnderWay s.journal (standing_in s) s.under_way) (busy : ¬ IsIdle s) (j : JournalValue D) where
  -- the journal's call failed
  pub step-failed : (at : JournalFault) → JournalSteps disk_of s (refuses at) j
      → Steps disk_of s (refuses at) (record { journal = j; held = s.held; under_way = Nothing })
  step-failed at steps = by s.under_way refl where
    by : (u : UnderWay) → s.under_way ≡ u
        → Steps disk_of s (refuses at) (record { journal = j; held = s.held; under_way = Nothing })
    by Nothing is = absurd (busy is)
    by (Compacting r) is =
        let its = fits-at s (Compacting r) fits is in
        turn-failed disk_of s its.0 busy (compaction-works disk_of s its.0 r is its.2) at j steps
    by (Appending r) is =
        let its = fits-at s (Appending r) fits is in
        turn-failed disk_of s its.0 busy (append-works disk_of s its.0 r is its.2) at j steps

  -- its call was not the last one
  goes : (runs : is_stopped s ≡ false) → ¬ (journal_value.IsIdle s.journal) → (step : JournalStep)
      → step ≢ Finished → JournalSteps disk_of s (answers step) j
      → Steps disk_of s (answers step) (record s { journal = j })
  goes runs at_work Idle other steps = absurd (at_work (steps.idle.0 refl).1)
  goes runs at_work Going other steps = turn-going disk_of s runs busy at_work j steps
  goes runs at_work Finished other steps = absurd (other refl)

  pub step-on : (step : JournalStep) → step ≢ Finished → JournalSteps disk_of s (answers step) j
      → Steps disk_of s (answers step) (record s { journal = j })
  step-on step other steps = by s.under_way refl where
    by : (u : UnderWay) → s.under_way ≡ u → Steps disk_of s (answers step) (record s { journal = j })
    by Nothing is = absurd (busy is)
    by (Compacting r) is =
        let its = fits-at s (Compacting r) fits is in
        goes its.0 (compaction-works disk_of s its.0 r is its.2) step other steps
    by (Appending r) is =
        let its = fits-at s (Appending r) fits is in
        goes its.0 (append-works disk_of s its.0 r is its.2) step other steps

  module _ (r : Record) (steps : JournalSteps disk_of s (answers Finished) j) where
    -- the record is applied
    pub step-kept : s.under_way ≡ Appending r → (held : StandingValue)
        → standing_after_record (standing_in s) r ≡ Some (standing_of held)
        → Steps disk_of s (answers Finished) (record { journal = j; held = held; under_way = Nothing })
    step-kept is held follows =
        let its = fits-at s (Appending r) fits is in
        append-finished disk_of s its.0 r is its.2 j held follows steps

    -- the record that waited is started
    pub step-compacted : s.under_way ≡ Compacting r → (k : JournalValue D)
        → journal.Starts disk_of j (Appends r) (Ok tt) k
        → Steps disk_of s (answers Going) (record { journal = k; held = s.held; under_way = Appending r })
    step-compacted is k starts =
        let its = fits-at s (Compacting r) fits is in
        compaction-finished disk_of s its.0 r is its.2 j steps k starts
