-- What a step of a journal answers.
use Rattle.std.proofs.Common.{◌≡◌, refl, sym, ◌∙◌, subst, arith, true, false, List, Result, Ok, Err, rules}
use Rattle.macs_disk.specs.Disk as disk
use Rattle.macs_disk.proofs.Moments.{Leaves-start, Works-start}
use Rattle.macs_record.specs.declared.record.Record.{Record}
use Rattle.macs_journal.specs.Appending.{HasEitherJournal}
use Rattle.macs_journal.specs.Found.{Content}
use Rattle.macs_journal.specs.Stepping.{Advances, Steps, step_of}
use Rattle.macs_journal.specs.Value.{ComesTo, HoldsWith, IsHolding, IsIdle, JournalValue, disk_in, is_stopped}
use Rattle.macs_journal.specs.declared.fault.JournalFault.{JournalFault}
use Rattle.macs_journal.specs.declared.fault.JournalFault.TheVariants.{Stopped}
use Rattle.macs_journal.specs.declared.under_way.UnderWay.{UnderWay}
use Rattle.macs_journal.specs.declared.under_way.UnderWay.TheVariants.{Append, Compact, Nothing}
use Rattle.macs_journal.specs.declared.work.JournalStep.{JournalStep}
use Rattle.macs_journal.specs.declared.work.JournalStep.TheVariants.{Finished, Going, Idle}
use Rattle.macs_journal.proofs.Holding.{holding-image, kept-image}
use Rattle.macs_journal.proofs.Working.{called}

abbrev answers : JournalStep → Result JournalStep JournalFault
answers step = Ok step

abbrev refuses : JournalFault → Result JournalStep JournalFault
refuses fault = Err fault

module _ {D : Type 0} (disk_of : D → disk.Disk) (j : JournalValue D) (snapshot : List Record) where
  pub steps-stopped : is_stopped j ≡ true → Steps disk_of j snapshot (refuses Stopped) j
  steps-stopped is = record {
    stopped = search (rules, is);
    idle = search (rules, is);
    names = search rules;
    same = λ which. refl;
    halted = search rules;
    running = tt;
    going = search rules;
    finished = search rules;
    place = λ which. refl;
    task = search rules;
    moved = search rules;
    lent = λ later lent. lent;
    work = record { works = Works-start (disk_in disk_of j); fails = refl };
    device = λ runs. absurd (let no = sym is ∙ runs in cc);
    one = omega arith;
    call = tt;
    left = tt;
    exact = tt;
    any_moment = λ honest before after holding.
        Leaves-start (disk_in disk_of j) (HasEitherJournal before after)
        (holding-image (disk_in disk_of j) j.place j.under_way before after holding.holds);
    goes_on = search rules;
    done = search rules;
    kept = search rules;
  }

  pub steps-idle : is_stopped j ≡ false → IsIdle j → Steps disk_of j snapshot (answers Idle) j
  steps-idle runs idle = record {
    stopped = search (rules, runs);
    idle = search (rules, runs, idle);
    names = tt;
    same = λ which. refl;
    halted = search rules;
    running = runs;
    going = search rules;
    finished = search rules;
    place = λ which. refl;
    task = search rules;
    moved = search rules;
    lent = λ later lent. lent;
    work = record { works = Works-start (disk_in disk_of j); fails = refl };
    device = λ was busy. absurd (busy idle);
    one = omega arith;
    call = λ busy. absurd (busy idle);
    left = λ busy. absurd (busy idle);
    exact = λ busy. absurd (busy idle);
    any_moment = λ honest before after holding.
        Leaves-start (disk_in disk_of j) (HasEitherJournal before after)
        (holding-image (disk_in disk_of j) j.place j.under_way before after holding.holds);
    goes_on = search rules;
    done = search rules;
    kept = search rules;
  }

-- a call was made
abbrev done : Result (Unit {0}) JournalFault
done = Ok tt

module _ {D : Type 0} (disk_of : D → disk.Disk) (old new : JournalValue D) (snapshot : List Record)
    (runs : is_stopped old ≡ false) (busy : ¬ IsIdle old) (advances : Advances disk_of old snapshot done new) where
  went-on : (¬ IsIdle new)
      → ((d : disk.Disk) → (before after : Content) → ComesTo d new.place new.under_way before after
      → IsHolding d new.place new.under_way before after)
      → Steps disk_of old snapshot (answers Going) new
  went-on still holds = record {
    stopped = search (rules, runs);
    idle = search (rules, busy);
    names = tt;
    same = search rules;
    halted = search rules;
    running = advances.after;
    going = λ is. still;
    finished = search rules;
    place = λ which. advances.place still;
    task = λ is. advances.task still;
    moved = search rules;
    lent = advances.lent;
    work = record { works = advances.work.works; fails = advances.work.fails };
    device = λ was still. called (disk_in disk_of old) (disk_in disk_of new) done (answers Going) refl advances.device;
    one = advances.one;
    call = λ was. advances.call;
    left = λ was. advances.left;
    exact = λ was. advances.exact;
    any_moment = advances.any_moment;
    goes_on = λ is honest before after holding. record {
      holds = holds (disk_in disk_of new) before after (advances.next honest before after holding);
      made = advances.made before after holding.made;
    };
    done = search rules;
    kept = search rules;
  }

  was-last : IsIdle new → Steps disk_of old snapshot (answers Finished) new
  was-last idle =
      let comes : (honest : disk.IsHonest (disk_in disk_of new)) → (before after : Content)
      → HoldsWith (disk_in disk_of old) old.place old.under_way snapshot before after
      → IsHolding (disk_in disk_of new) new.place new.under_way after after =
      λ honest before after holding.
      subst (λ (h : UnderWay). IsHolding (disk_in disk_of new) new.place h after after) (sym idle)
      (subst (λ (h : UnderWay). ComesTo (disk_in disk_of new) new.place h before after) idle
      (advances.next honest before after holding)) in
      record {
        stopped = search (rules, runs);
        idle = search (rules, busy);
        names = tt;
        same = search rules;
        halted = search rules;
        running = advances.after;
        going = search rules;
        finished = λ is. idle;
        place = λ not. absurd (not refl);
        task = search rules;
        moved = λ is. advances.moved idle;
        lent = advances.lent;
        work = record { works = advances.work.works; fails = advances.work.fails };
        device = λ was still.
            called (disk_in disk_of old) (disk_in disk_of new) done (answers Finished) refl advances.device;
        one = advances.one;
        call = λ was. advances.call;
        left = λ was. advances.left;
        exact = λ was. advances.exact;
        any_moment = advances.any_moment;
        goes_on = search rules;
        done = λ is honest before after holding. comes honest before after holding;
        kept = λ is honest before after holding image left.
            kept-image (disk_in disk_of new) new.place new.under_way after
            (comes honest before after holding) image left;
      }

  pub steps-done : Steps disk_of old snapshot (answers (step_of new.under_way)) new
  steps-done = by_under_way new.under_way refl where
    by_under_way : (h : UnderWay) → new.under_way ≡ h → Steps disk_of old snapshot (answers (step_of h)) new
    by_under_way Nothing is = was-last is
    by_under_way (Append work) is =
        went-on (λ idle. absurd (let same = sym is ∙ idle in cc))
        (λ d before after comes. subst (λ (h : UnderWay). IsHolding d new.place h before after) (sym is)
        (subst (λ (h : UnderWay). ComesTo d new.place h before after) is comes))
    by_under_way (Compact work) is =
        went-on (λ idle. absurd (let same = sym is ∙ idle in cc))
        (λ d before after comes. subst (λ (h : UnderWay). IsHolding d new.place h before after) (sym is)
        (subst (λ (h : UnderWay). ComesTo d new.place h before after) is comes))
