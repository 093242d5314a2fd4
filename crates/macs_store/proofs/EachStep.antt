-- The steps of a store, one after another, up to the end of the work under way.
use Rattle.std.proofs.Common.{◌≡◌, ◌≤◌, ◌+◌, ◌∙◌, true, false, Some, Result, Ok, Err, IsErrOf, inl, inr, refl, ap, sym}
use Rattle.std.proofs.Common.{subst, arith}
use Rattle.macs_disk.specs.Disk.{Disk, IsHonest, Works}
use Rattle.macs_disk.specs.Runs.{Leaves}
use Rattle.macs_disk.proofs.Moments.{FailsOnce-before, Leaves-join, Leaves-start, Works-on, Works-start}
use Rattle.macs_journal.specs.Work.{FailsAs}
use Rattle.macs_journal.specs.declared.fault.JournalFault.{JournalFault}
use Rattle.macs_journal.specs.declared.fault.JournalFault.TheVariants as fault
use Rattle.macs_journal.specs.declared.work.JournalStep.{JournalStep}
use Rattle.macs_journal.specs.declared.work.JournalStep.TheVariants.{Finished, Going, Idle}
use Rattle.macs_store.specs.Found.{StandsForEither}
use Rattle.macs_store.specs.Standing.{Standing}
use Rattle.macs_store.specs.Stepping.{Finishes, Steps}
use Rattle.macs_store.specs.Table.{standing_of}
use Rattle.macs_store.specs.Value.{IsIdle, IsStored, StoreValue, calls_left, disk_in}
use Rattle.macs_store.specs.Value.{generation_then, generation_with, is_stopped, slots_then, slots_with, standing_in}
use Rattle.macs_store.specs.Value.{standing_then, standing_with}
use Rattle.macs_store.proofs.Keeping.{under_way-image, stored-image}

-- ---- what holds between two steps

-- A store ran, and its steps so far came to this: work is under way or done, the standing does not change before it is
-- done, and at each moment a power loss left the standing before or the standing then.
pub record IsOnItsWay {D : Type 0} (disk_of : D → Disk) (old now : StoreValue D) : Type 0 where
  pub ran : is_stopped old ≡ false
  pub runs : is_stopped now ≡ false
  pub leads : standing_then now ≡ standing_then old
  pub standing : (¬ IsIdle now) → now.held ≡ old.held
  pub slots : slots_then now ≡ slots_then old
  pub generation : generation_then now ≡ generation_then old
  pub works : Works (disk_in disk_of old) (disk_in disk_of now)
  pub steady : (disk_in disk_of now).failures ≡ (disk_in disk_of old).failures
  pub most : (disk_in disk_of now).clock + calls_left now ≤ (disk_in disk_of old).clock + calls_left old
  pub moments : IsHonest (disk_in disk_of now) → IsStored disk_of old → (after : Standing)
      → standing_then old ≡ Some after
      → Leaves (disk_in disk_of old) (disk_in disk_of now) (StandsForEither (standing_in old) after)
  pub stored : IsHonest (disk_in disk_of now) → IsStored disk_of old → IsStored disk_of now

-- what a step answers, and what the run of all of them does
abbrev answers : JournalStep → Result JournalStep JournalFault
answers step = Ok step

abbrev refuses : JournalFault → Result JournalStep JournalFault
refuses at = Err at

abbrev done : Result (Unit {0}) JournalFault
done = Ok tt

abbrev fails : JournalFault → Result (Unit {0}) JournalFault
fails at = Err at

module _ {D : Type 0} (disk_of : D → Disk) (s : StoreValue D) where
  alone : IsStored disk_of s → (after : Standing) → standing_then s ≡ Some after
      → Leaves (disk_in disk_of s) (disk_in disk_of s) (StandsForEither (standing_in s) after)
  alone stored after follows =
      Leaves-start (disk_in disk_of s) (StandsForEither (standing_in s) after)
      (under_way-image disk_of s stored after follows)

  pub way-start : is_stopped s ≡ false → IsOnItsWay disk_of s s
  way-start runs = record {
    ran = runs;
    runs = runs;
    leads = refl;
    standing = λ busy. refl;
    slots = refl;
    generation = refl;
    works = Works-start (disk_in disk_of s);
    steady = refl;
    most = omega arith;
    moments = λ honest stored after follows. alone stored after follows;
    stored = λ honest stored. stored;
  }

  -- a store that is stopped
  pub stopped-finishes : is_stopped s ≡ true → Finishes disk_of s (fails fault.Stopped) s
  stopped-finishes is = record {
    stopped = (λ same. is, λ same. refl);
    names = inl refl;
    same = λ same. refl;
    halted = λ same. absurd (let no : fault.Stopped ≡ fault.Disk = cc in cc);
    running = tt;
    idle = λ runs. absurd (let no : true ≡ false = sym is ∙ runs in cc);
    done = tt;
    slots = tt;
    generation = tt;
    most = omega arith;
    work = record { works = Works-start (disk_in disk_of s); fails = refl };
    any_moment = λ honest stored after follows. alone stored after follows;
    stored = tt;
    kept = tt;
  }

module _ {D : Type 0} (disk_of : D → Disk) (old mid : StoreValue D) (way : IsOnItsWay disk_of old mid) where
  not_stopped : is_stopped old ≡ true → ⊥
  not_stopped is = let no : true ≡ false = sym is ∙ way.ran in cc

  -- ---- nothing is under way any more

  pub way-done : IsIdle mid → Finishes disk_of old done mid
  way-done idle = record {
    stopped = (λ same. absurd cc, λ is. absurd (not_stopped is));
    names = tt;
    same = λ same. absurd cc;
    halted = λ same. absurd cc;
    running = way.runs;
    idle = λ runs. idle;
    done = sym way.leads ∙ ap (standing_with (standing_in mid)) idle;
    slots = sym (ap (slots_with mid) idle) ∙ way.slots;
    generation = sym (ap (generation_with mid) idle) ∙ way.generation;
    most = let most = way.most in omega (arith, most);
    work = record { works = way.works; fails = way.steady };
    any_moment = way.moments;
    stored = way.stored;
    kept = λ honest stored image left. stored-image disk_of mid idle (way.stored honest stored) image left;
  }

  -- ---- one step more

  module _ (busy : ¬ IsIdle mid) where
    same-standing : standing_in mid ≡ standing_in old
    same-standing = ap standing_of (way.standing busy)

    moments-more : (result : Result JournalStep JournalFault) (new : StoreValue D) → Steps disk_of mid result new
        → IsHonest (disk_in disk_of new) → IsStored disk_of old
        → (after : Standing) → standing_then old ≡ Some after
        → Leaves (disk_in disk_of old) (disk_in disk_of new) (StandsForEither (standing_in old) after)
    moments-more result new steps honest stored after follows =
        let before : IsHonest (disk_in disk_of mid) = sym steps.work.works.honest ∙ honest in
        Leaves-join (disk_in disk_of old) (disk_in disk_of mid) (disk_in disk_of new)
        (StandsForEither (standing_in old) after)
        (StandsForEither (standing_in mid) after) (StandsForEither (standing_in old) after)
        (way.moments before stored after follows)
        (steps.any_moment honest (way.stored before stored) after (way.leads ∙ follows)) (λ image left. left)
        (λ image left. subst (λ (x : Standing). StandsForEither x after image) same-standing left)

    step-leads : (step : JournalStep) (new : StoreValue D) → Steps disk_of mid (answers step) new
        → standing_then new ≡ standing_then mid
    step-leads Idle new steps = absurd (busy (steps.idle.0 refl).1)
    step-leads Going new steps = (steps.going refl).1
    step-leads Finished new steps = ap (standing_with (standing_in new)) (steps.finished refl).0
        ∙ sym (steps.finished refl).1

    step-standing : (step : JournalStep) (new : StoreValue D) → Steps disk_of mid (answers step) new → (¬ IsIdle new)
        → new.held ≡ mid.held
    step-standing Idle new steps busy_still = absurd (busy (steps.idle.0 refl).1)
    step-standing Going new steps busy_still = steps.standing (λ same. let no : Going ≡ Finished = cc in cc)
    step-standing Finished new steps busy_still = absurd (busy_still (steps.finished refl).0)

    pub way-more : (step : JournalStep) (new : StoreValue D) → Steps disk_of mid (answers step) new
        → IsOnItsWay disk_of old new
    way-more step new steps = record {
      ran = way.ran;
      runs = steps.running;
      leads = step-leads step new steps ∙ way.leads;
      standing = λ busy_still. step-standing step new steps busy_still ∙ way.standing busy;
      slots = steps.slots ∙ way.slots;
      generation = steps.generation ∙ way.generation;
      works = Works-on (disk_in disk_of old) (disk_in disk_of mid) (disk_in disk_of new) way.works steps.work.works;
      steady = steps.work.fails ∙ way.steady;
      most = let one = steps.one in let less = steps.left busy in let most = way.most in omega (arith, one, less, most);
      moments = λ honest stored after follows. moments-more (answers step) new steps honest stored after follows;
      stored = λ honest stored. steps.stored honest (way.stored (sym steps.work.works.honest ∙ honest) stored);
    }

    -- it failed
    fails-more : (at : JournalFault) (new : StoreValue D)
        → FailsAs (disk_in disk_of mid) (disk_in disk_of new) (refuses at)
        → FailsAs (disk_in disk_of old) (disk_in disk_of new) (fails at)
    fails-more fault.Disk new failed =
        FailsOnce-before (disk_in disk_of old) (disk_in disk_of mid) (disk_in disk_of new) way.steady failed
    fails-more other new failed = failed ∙ way.steady

    told-stopped : (at : JournalFault) (new : StoreValue D) → Steps disk_of mid (refuses at) new
        → IsErrOf {T = JournalStep} (Err at) fault.Stopped → ⊥
    told-stopped at new steps same = let no : true ≡ false = sym (steps.stopped.0 same) ∙ way.runs in cc

    pub way-failed : 1 ≤ calls_left mid → (at : JournalFault) (new : StoreValue D) → Steps disk_of mid (refuses at) new
        → Finishes disk_of old (fails at) new
    way-failed some at new steps = record {
      stopped = (
        λ same. absurd (told-stopped at new steps (let is : at ≡ fault.Stopped = cc in ap Err is)),
        λ is. absurd (not_stopped is),
      );
      names = elim steps.names [
        | inl stopped ↦ absurd (told-stopped at new steps stopped)
        | inr failed ↦ inr (let is : at ≡ fault.Disk = cc in ap Err is)
      ];
      same = λ same. absurd (told-stopped at new steps (let is : at ≡ fault.Stopped = cc in ap Err is));
      halted = λ same. (
        (steps.halted (let is : at ≡ fault.Disk = cc in ap Err is)).0,
        steps.standing (λ finished. cc) ∙ way.standing busy,
      );
      running = tt;
      idle = λ runs. elim steps.names [
        | inl stopped ↦ absurd (told-stopped at new steps stopped)
        | inr failed ↦ (steps.halted failed).1
      ];
      done = tt;
      slots = tt;
      generation = tt;
      most = let one = steps.one in let most = way.most in omega (arith, one, most, some);
      work = record {
        works = Works-on (disk_in disk_of old) (disk_in disk_of mid) (disk_in disk_of new) way.works steps.work.works;
        fails = fails-more at new steps.work.fails;
      };
      any_moment = λ honest stored after follows. moments-more (refuses at) new steps honest stored after follows;
      stored = tt;
      kept = tt;
    }
