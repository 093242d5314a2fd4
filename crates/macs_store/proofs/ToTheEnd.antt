-- Work that is started and done to its end: what a call promises that does both.
use Rattle.std.proofs.Common.{◌≡◌, ◌≤◌, ◌+◌, ◌∙◌, ℕ, true, false, Result, Ok, Err, is_ok, IsOk, inl, inr, refl, ap, sym}
use Rattle.std.proofs.Common.{subst, arith}
use Rattle.std.specs.Prelude.{IsErrOf}
use Rattle.macs_config.specs.Apply.{Named}
use Rattle.macs_config.specs.Config.{this_edition}
use Rattle.macs_config.specs.declared.command.Command.{Command}
use Rattle.macs_config.specs.declared.refusal.Refusal.{Refusal}
use Rattle.macs_disk.specs.Disk.{Disk, IsHonest, MayLeave}
use Rattle.macs_disk.specs.Runs.{Leaves}
use Rattle.macs_disk.specs.States.{Image}
use Rattle.macs_disk.proofs.Moments.{Leaves-start, Leaves-weaker, Works-start}
use Rattle.macs_journal.specs.Work.{IsWorkOf}
use Rattle.macs_journal.specs.declared.fault.JournalFault.{JournalFault}
use Rattle.macs_journal.specs.declared.fault.JournalFault.TheVariants as fault
use Rattle.macs_store.specs.Found.{CommitLeaves, StandsFor, StandsForEither}
use Rattle.macs_store.specs.Keeps.{Commits, IsCommitOf, IsSpent, Keeps, most_calls}
use Rattle.macs_store.specs.Standing.{Standing, accept}
use Rattle.macs_store.specs.Stepping.{Finishes, HasUnderWay, Starts, StartsCommit}
use Rattle.macs_store.specs.Table.{standing_of}
use Rattle.macs_store.specs.Value.{IsIdle, IsStored, StoreValue, disk_in, is_stopped, standing_in}
use Rattle.macs_store.specs.declared.fault.CommitFault.{CommitFault}
use Rattle.macs_store.specs.declared.fault.CommitFault.TheVariants as commit_fault
use Rattle.macs_store.proofs.Keeping.{stored-form, stored-image}

-- ---- work under way, done to its end

module _ {D : Type 0} (disk_of : D → Disk) (old : StoreValue D) (after : Standing) (mid : StoreValue D)
    (has : HasUnderWay disk_of old after mid) where
  same-standing : standing_in mid ≡ standing_in old
  same-standing = ap standing_of has.standing

  same-disk : disk_in disk_of mid ≡ disk_in disk_of old
  same-disk = ap disk_of has.device

  module _ (result : Result (Unit {0}) JournalFault) (new : StoreValue D)
      (finishes : Finishes disk_of mid result new) where
    end-work : IsWorkOf (disk_in disk_of old) (disk_in disk_of new) result
    end-work = subst (λ (d : Disk). IsWorkOf d (disk_in disk_of new) result) same-disk finishes.work

    end-most : (disk_in disk_of new).clock ≤ (disk_in disk_of old).clock + most_calls old
    end-most =
        subst (λ (d : Disk). (disk_in disk_of new).clock ≤ d.clock + most_calls old) same-disk
        (subst (λ (n : ℕ). (disk_in disk_of new).clock ≤ (disk_in disk_of mid).clock + n) has.left finishes.most)

    end-moments : IsHonest (disk_in disk_of new) → IsStored disk_of old
        → Leaves (disk_in disk_of old) (disk_in disk_of new) (StandsForEither (standing_in old) after)
    end-moments honest stored =
        subst (λ (d : Disk). Leaves d (disk_in disk_of new) (StandsForEither (standing_in old) after)) same-disk
        (subst (λ (s : Standing). Leaves (disk_in disk_of mid) (disk_in disk_of new) (StandsForEither s after))
        same-standing
        (finishes.any_moment honest (has.stored stored) after has.leads))

    -- it did not stop before
    end-runs : IsErrOf result fault.Stopped → ⊥
    end-runs is = let no : true ≡ false = sym (finishes.stopped.0 is) ∙ has.running in cc

  -- once it is done
  module _ (new : StoreValue D) (finishes : Finishes disk_of mid (Ok tt) new) where
    end-done : standing_in new ≡ after
    end-done = let is = sym finishes.done ∙ has.leads in cc

    end-stored : IsHonest (disk_in disk_of new) → IsStored disk_of old → IsStored disk_of new
    end-stored honest stored = finishes.stored honest (has.stored stored)

    end-kept : IsHonest (disk_in disk_of new) → IsStored disk_of old → (image : Image)
        → MayLeave (disk_in disk_of new) image → StandsFor this_edition image (standing_in new)
    end-kept honest stored image left = finishes.kept honest (has.stored stored) image left

-- ---- a reservation

module _ {D : Type 0} (disk_of : D → Disk) (old : StoreValue D) (idle : IsIdle old) (after : Standing) where
  left-alone : IsStored disk_of old
      → Leaves (disk_in disk_of old) (disk_in disk_of old) (StandsForEither (standing_in old) after)
  left-alone stored =
      Leaves-start (disk_in disk_of old) (StandsForEither (standing_in old) after)
      (λ image left.
      (inl (stored-image disk_of old idle stored image left), stored-form disk_of old idle stored image left))

  -- nothing was started
  refused-alone : (at : JournalFault) → Starts disk_of old after (Err at) old → Keeps disk_of old after (Err at) old
  refused-alone at starts = record {
    stopped = (λ same. starts.stopped.0 same, λ is. starts.stopped.1 is);
    spent = (λ same. starts.spent.0 same, λ is. starts.spent.1 is);
    names = elim starts.names [
      | inl stopped ↦ inl stopped
      | inr spent ↦ inr (inl spent)
    ];
    same = inr refl;
    halted = λ same. absurd (elim starts.names [
      | inl stopped ↦ (let no : fault.Stopped ≡ fault.Disk = cc in cc)
      | inr spent ↦ (let no : fault.GenerationsSpent ≡ fault.Disk = cc in cc)
    ]);
    running = tt;
    idle = idle;
    slots = tt;
    generation = tt;
    most = omega arith;
    done = tt;
    work = record {
      works = Works-start (disk_in disk_of old);
      fails = elim starts.names [
        | inl stopped ↦ let is : at ≡ fault.Stopped = cc in rw is refl
        | inr spent ↦ let is : at ≡ fault.GenerationsSpent = cc in rw is refl
      ];
    };
    any_moment = λ honest stored. left-alone stored;
    stored = tt;
    kept = tt;
  }

  pub refused-keeps : (at : JournalFault) (new : StoreValue D) → Starts disk_of old after (Err at) new
      → Keeps disk_of old after (Err at) new
  refused-keeps at new starts =
      subst (λ (s : StoreValue D). Keeps disk_of old after (Err at) s) (sym starts.same)
      (refused-alone at (subst (λ (s : StoreValue D). Starts disk_of old after (Err at) s) starts.same starts))

  -- it was, and done or cut short
  module _ (mid : StoreValue D) (starts : Starts disk_of old after (Ok tt) mid) where
    not_stopped : is_stopped old ≡ true → ⊥
    not_stopped is = let no = starts.stopped.1 is in cc

    not_spent : IsSpent old → ⊥
    not_spent is = let no = starts.spent.1 is in cc

    kept_done : (new : StoreValue D) → Finishes disk_of mid (Ok tt) new → Keeps disk_of old after (Ok tt) new
    kept_done new finishes = record {
      stopped = (λ same. absurd cc, λ is. absurd (not_stopped is));
      spent = (λ same. absurd cc, λ is. absurd (not_spent is));
      names = tt;
      same = tt;
      halted = λ same. absurd cc;
      running = finishes.running;
      idle = finishes.idle starts.under_way.running;
      slots = finishes.slots ∙ starts.under_way.slots;
      generation = finishes.generation ∙ starts.under_way.generation;
      most = end-most disk_of old after mid starts.under_way (Ok tt) new finishes;
      done = end-done disk_of old after mid starts.under_way new finishes;
      work = end-work disk_of old after mid starts.under_way (Ok tt) new finishes;
      any_moment = end-moments disk_of old after mid starts.under_way (Ok tt) new finishes;
      stored = end-stored disk_of old after mid starts.under_way new finishes;
      kept = end-kept disk_of old after mid starts.under_way new finishes;
    }

    kept_failed : (new : StoreValue D) → Finishes disk_of mid (Err fault.Disk) new
        → Keeps disk_of old after (Err fault.Disk) new
    kept_failed new finishes = record {
      stopped = (λ same. absurd (let no : fault.Disk ≡ fault.Stopped = cc in cc), λ is. absurd (not_stopped is));
      spent = (λ same. absurd (let no : fault.Disk ≡ fault.GenerationsSpent = cc in cc), λ is. absurd (not_spent is));
      names = inr (inr refl);
      same = inl refl;
      halted = λ same. ((finishes.halted refl).0, (finishes.halted refl).1 ∙ starts.under_way.standing);
      running = tt;
      idle = finishes.idle starts.under_way.running;
      slots = tt;
      generation = tt;
      most = end-most disk_of old after mid starts.under_way (Err fault.Disk) new finishes;
      done = tt;
      work = end-work disk_of old after mid starts.under_way (Err fault.Disk) new finishes;
      any_moment = end-moments disk_of old after mid starts.under_way (Err fault.Disk) new finishes;
      stored = tt;
      kept = tt;
    }

    pub finished-keeps : (result : Result (Unit {0}) JournalFault) (new : StoreValue D)
        → Finishes disk_of mid result new → Keeps disk_of old after result new
    finished-keeps (Ok done) new finishes = kept_done new finishes
    finished-keeps (Err at) new finishes = elim finishes.names [
      | inl stopped ↦ absurd (end-runs disk_of old after mid starts.under_way (Err at) new finishes stopped)
      | inr failed ↦ subst (λ (x : Result (Unit {0}) JournalFault). Keeps disk_of old after x new) (sym failed)
          (kept_failed new (subst (λ (x : Result (Unit {0}) JournalFault). Finishes disk_of mid x new) failed finishes))
    ]

-- ---- a command

-- what a power loss leaves while a command is kept
accepted-leaves : (old new : Disk) (s after : Standing) (command : Command) → accept s command ≡ Ok after
    → Leaves old new (StandsForEither s after)
    → Leaves old new (CommitLeaves s command)
accepted-leaves old new s after command accepts leaves =
    Leaves-weaker old new (StandsForEither s after) (CommitLeaves s command) (λ image left. elim left.0 [
      | inl before ↦ (inl before, left.1)
      | inr done ↦ (inr (after, accepts, done), left.1)
    ]) leaves

module _ {D : Type 0} (disk_of : D → Disk) (old : StoreValue D) (idle : IsIdle old) (command : Command) where
  nothing-left : IsStored disk_of old
      → Leaves (disk_in disk_of old) (disk_in disk_of old) (CommitLeaves (standing_in old) command)
  nothing-left stored =
      Leaves-start (disk_in disk_of old) (CommitLeaves (standing_in old) command)
      (λ image left.
      (inl (stored-image disk_of old idle stored image left), stored-form disk_of old idle stored image left))

  -- no device call was made
  alone-fails : (at : CommitFault) (d : Disk) → (IsErrOf {T = Unit {0}} (Err at) commit_fault.Disk → ⊥)
      → IsCommitOf d d (Err at)
  alone-fails commit_fault.Stopped d other = record { works = Works-start d; fails = refl }
  alone-fails (commit_fault.Refused refusal) d other = record { works = Works-start d; fails = refl }
  alone-fails commit_fault.GenerationsSpent d other = record { works = Works-start d; fails = refl }
  alone-fails commit_fault.Disk d other = absurd (other refl)

  alone-commits : (at : CommitFault) → StartsCommit disk_of old command (Err at) old
      → Commits disk_of old command (Err at) old
  alone-commits at starts = record {
    stopped = (λ same. starts.stopped.0 same, λ is. starts.stopped.1 is);
    refused = λ refusal. (λ same. (starts.refused refusal).0 same, λ is. (starts.refused refusal).1 is);
    spent = (λ same. starts.spent.0 same, λ is. starts.spent.1 is);
    same = inr refl;
    halted = λ same. absurd (starts.names same);
    running = tt;
    idle = idle;
    slots = tt;
    generation = tt;
    most = omega arith;
    done = tt;
    work = alone-fails at (disk_in disk_of old) starts.names;
    any_moment = λ honest stored. nothing-left stored;
    stored = tt;
    kept = tt;
  }

  pub refused-commits : (at : CommitFault) (new : StoreValue D) → StartsCommit disk_of old command (Err at) new
      → Commits disk_of old command (Err at) new
  refused-commits at new starts =
      subst (λ (s : StoreValue D). Commits disk_of old command (Err at) s) (sym starts.same)
      (alone-commits at (subst (λ (s : StoreValue D). StartsCommit disk_of old command (Err at) s) starts.same starts))

  module _ (mid : StoreValue D) (starts : StartsCommit disk_of old command (Ok tt) mid) where
    fits : IsOk (accept (standing_in old) command)
    fits = subst (λ r. IsOk r) (sym starts.under_way.1) refl

    was_running : is_stopped old ≡ true → ⊥
    was_running is = let no = starts.stopped.1 is in cc

    was_accepted : (refusal : Refusal) → accept (standing_in old) command ≡ Err (Named refusal) → ⊥
    was_accepted refusal is = let no : false ≡ true = sym (ap is_ok is) ∙ fits in cc

    had_room : IsSpent old → ⊥
    had_room is = let no = starts.spent.1 (fits, is) in cc

    -- the command was kept and applied
    pub kept-commits : (new : StoreValue D) → Finishes disk_of mid (Ok tt) new → Commits disk_of old command (Ok tt) new
    kept-commits new finishes =
        let after = starts.under_way.0 in
        let has = starts.under_way.2 in
        record {
          stopped = (λ same. absurd cc, λ is. absurd (was_running is));
          refused = λ refusal. (λ same. absurd cc, λ both. absurd (was_accepted refusal both.1));
          spent = (λ same. absurd cc, λ all. absurd (had_room all.1));
          same = tt;
          halted = λ same. absurd cc;
          running = finishes.running;
          idle = finishes.idle has.running;
          slots = finishes.slots ∙ has.slots;
          generation = finishes.generation ∙ has.generation;
          most = end-most disk_of old after mid has (Ok tt) new finishes;
          done = starts.under_way.1 ∙ ap Ok (sym (end-done disk_of old after mid has new finishes));
          work = (let work = end-work disk_of old after mid has (Ok tt) new finishes in
              record { works = work.works; fails = work.fails });
          any_moment = λ honest stored.
              accepted-leaves (disk_in disk_of old) (disk_in disk_of new) (standing_in old) after command
              starts.under_way.1
              (end-moments disk_of old after mid has (Ok tt) new finishes honest stored);
          stored = end-stored disk_of old after mid has new finishes;
          kept = end-kept disk_of old after mid has new finishes;
        }

    -- a device call failed
    cut-commits : (new : StoreValue D) → Finishes disk_of mid (Err fault.Disk) new
        → Commits disk_of old command (Err commit_fault.Disk) new
    cut-commits new finishes =
        let after = starts.under_way.0 in
        let has = starts.under_way.2 in
        record {
          stopped = (
            λ same. absurd (let no : commit_fault.Disk ≡ commit_fault.Stopped = cc in
                cc),
            λ is. absurd (was_running is),
          );
          refused = λ refusal. (
            λ same. absurd (let no : commit_fault.Disk ≡ commit_fault.Refused refusal = cc in
                cc),
            λ both. absurd (was_accepted refusal both.1),
          );
          spent = (
            λ same. absurd (let no : commit_fault.Disk ≡ commit_fault.GenerationsSpent = cc in
                cc),
            λ all. absurd (had_room all.1),
          );
          same = inl refl;
          halted = λ same. ((finishes.halted refl).0, (finishes.halted refl).1 ∙ has.standing);
          running = tt;
          idle = finishes.idle has.running;
          slots = tt;
          generation = tt;
          most = end-most disk_of old after mid has (Err fault.Disk) new finishes;
          done = tt;
          work = (let work = end-work disk_of old after mid has (Err fault.Disk) new finishes in
              record { works = work.works; fails = work.fails });
          any_moment = λ honest stored.
              accepted-leaves (disk_in disk_of old) (disk_in disk_of new) (standing_in old) after command
              starts.under_way.1
              (end-moments disk_of old after mid has (Err fault.Disk) new finishes honest stored);
          stored = tt;
          kept = tt;
        }

    pub failed-commits : (at : JournalFault) (new : StoreValue D) → Finishes disk_of mid (Err at) new
        → Commits disk_of old command (Err commit_fault.Disk) new
    failed-commits at new finishes = elim finishes.names [
      | inl stopped ↦ absurd
          (end-runs disk_of old starts.under_way.0 mid starts.under_way.2 (Err at) new finishes stopped)
      | inr failed ↦ cut-commits new
          (subst (λ (x : Result (Unit {0}) JournalFault). Finishes disk_of mid x new) failed finishes)
    ]
