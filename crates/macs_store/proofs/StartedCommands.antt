-- A command or a raised ceiling is started, as its record is.
use Rattle.std.proofs.Common.{◌≡◌, ◌∙◌, true, false, Option, Some, inl, inr, Result, Ok, Err, is_ok, IsOk, refl, sym}
use Rattle.std.proofs.Common.{ap, subst}
use Rattle.std.specs.Option.{IsSome}
use Rattle.macs_config.specs.Apply.{Named, Reason}
use Rattle.macs_config.specs.declared.command.Command.{Command}
use Rattle.macs_config.specs.declared.refusal.Refusal.{Refusal}
use Rattle.macs_disk.specs.Disk.{Disk}
use Rattle.macs_journal.specs.declared.fault.JournalFault.{JournalFault}
use Rattle.macs_journal.specs.declared.fault.JournalFault.TheVariants as fault
use Rattle.macs_record.specs.Commands.{record_of}
use Rattle.macs_record.specs.declared.record.Record.{Record}
use Rattle.macs_store.specs.Replay.{standing_after_record}
use Rattle.macs_store.specs.Standing.{Standing, accept}
use Rattle.macs_store.specs.Stepping.{Starts, StartsCommit, StartsRecord}
use Rattle.macs_store.specs.Value.{StoreValue, is_stopped, standing_in}
use Rattle.macs_store.specs.declared.fault.CommitFault.TheVariants as commit_fault
use Rattle.macs_store.proofs.Keeping.{accepted-follows}

-- what a call answers
abbrev taken : Result (Unit {0}) JournalFault
taken = Ok tt

abbrev refused : JournalFault → Result (Unit {0}) JournalFault
refused at = Err at

-- ---- a raised ceiling

pub raise-started : {D : Type 0} (disk_of : D → Disk) (old : StoreValue D) (r : Record) (after : Standing)
    (result : Result (Unit {0}) JournalFault) (new : StoreValue D)
    → standing_after_record (standing_in old) r ≡ Some after → StartsRecord disk_of old r result new
    → Starts disk_of old after result new
raise-started disk_of old r after (Ok done) new follows starts = record {
  stopped = starts.stopped;
  spent = starts.spent;
  names = tt;
  same = tt;
  under_way = starts.under_way after follows;
}
raise-started disk_of old r after (Err at) new follows starts = record {
  stopped = starts.stopped;
  spent = starts.spent;
  names = starts.names;
  same = starts.same;
  under_way = tt;
}

-- and one that follows
pub some-follows : (found : Option Standing) (after : Standing) → found ≡ Some after → IsSome found
some-follows found after is = subst (λ (o : Option Standing). IsSome o) (sym is) refl

-- ---- a command

ok-is : {T E : Type 0} (result : Result T E) → IsOk result → (value : T) × (result ≡ Ok value)
ok-is (Ok value) is = (value, refl)
ok-is (Err e) is = absurd cc

-- its record follows from the standing
pub accepted-record_follows : (s : Standing) (command : Command) (r : Record) → record_of command ≡ Some r
    → IsOk (accept s command)
    → IsSome (standing_after_record s r)
accepted-record_follows s command r has fits =
    let accepts = ok-is (accept s command) fits in
    some-follows (standing_after_record s r) accepts.0 (accepted-follows s accepts.0 command r has accepts.1)

module _ {D : Type 0} (disk_of : D → Disk) (s : StoreValue D) (command : Command) where
  pub commit-stopped : is_stopped s ≡ true → StartsCommit disk_of s command (Err commit_fault.Stopped) s
  commit-stopped is = record {
    stopped = (λ same. is, λ same. refl);
    refused = λ refusal. (
      λ same. absurd (let no : commit_fault.Stopped ≡ commit_fault.Refused refusal = cc in cc),
      λ both. absurd (let no : true ≡ false = sym is ∙ both.0 in cc),
    );
    spent = (
      λ same. absurd (let no : commit_fault.Stopped ≡ commit_fault.GenerationsSpent = cc in cc),
      λ all. absurd (let no : true ≡ false = sym is ∙ all.1.0 in cc),
    );
    names = λ same. (let no : commit_fault.Stopped ≡ commit_fault.Disk = cc in cc);
    same = refl;
    under_way = tt;
  }

  pub commit-refused : (refusal : Refusal) → is_stopped s ≡ false → accept (standing_in s) command ≡ Err (Named refusal)
      → StartsCommit disk_of s command (Err (commit_fault.Refused refusal)) s
  commit-refused refusal runs is = record {
    stopped = (
      λ same. absurd (let no : commit_fault.Refused refusal ≡ commit_fault.Stopped = cc in cc),
      λ stopped. absurd (let no : true ≡ false = sym stopped ∙ runs in cc),
    );
    refused = λ other. (
      λ same. (runs, let alike : refusal ≡ other = cc in is ∙ ap (λ (r : Refusal). Err (Named r)) alike),
      λ both. let alike : ◌≡◌ {A = Result Standing Reason} (Err (Named refusal)) (Err (Named other)) =
          sym is ∙ both.1 in
          let one : refusal ≡ other = cc in ap (λ (r : Refusal). Err (commit_fault.Refused r)) one,
    );
    spent = (
      λ same. absurd (let no : commit_fault.Refused refusal ≡ commit_fault.GenerationsSpent = cc in cc),
      λ all. absurd (let no : false ≡ true = sym (ap is_ok is) ∙ all.0 in cc),
    );
    names = λ same. (let no : commit_fault.Refused refusal ≡ commit_fault.Disk = cc in cc);
    same = refl;
    under_way = tt;
  }

  module _ (r : Record) (new : StoreValue D) (has : record_of command ≡ Some r)
      (fits : IsOk (accept (standing_in s) command)) (runs : is_stopped s ≡ false) where
    pub commit-started : StartsRecord disk_of s r taken new → StartsCommit disk_of s command (Ok tt) new
    commit-started starts =
        let accepts = ok-is (accept (standing_in s) command) fits in
        record {
          stopped = (λ same. absurd cc, λ stopped. absurd (let no : true ≡ false = sym stopped ∙ runs in cc));
          refused = λ refusal.
              (λ same. absurd cc, λ both. absurd (let no : false ≡ true = sym (ap is_ok both.1) ∙ fits in cc));
          spent = (λ same. absurd cc, λ all. absurd (let is = starts.spent.1 all.1 in cc));
          names = λ same. cc;
          same = tt;
          under_way = (
            accepts.0,
            accepts.1,
            starts.under_way accepts.0 (accepted-follows (standing_in s) accepts.0 command r has accepts.1),
          );
        }

    -- the journal cannot be compacted
    spent-is : (at : JournalFault) → StartsRecord disk_of s r (refused at) new → at ≡ fault.GenerationsSpent
    spent-is at starts = elim starts.names [
      | inl stopped ↦ absurd (let no : true ≡ false = sym (starts.stopped.0 stopped) ∙ runs in cc)
      | inr spent ↦ cc
    ]

    pub commit-spent : (at : JournalFault) → StartsRecord disk_of s r (refused at) new
        → StartsCommit disk_of s command (Err commit_fault.GenerationsSpent) new
    commit-spent at starts = record {
      stopped = (
        λ same. absurd (let no : commit_fault.GenerationsSpent ≡ commit_fault.Stopped = cc in cc),
        λ stopped. absurd (let no : true ≡ false = sym stopped ∙ runs in cc),
      );
      refused = λ refusal. (
        λ same. absurd (let no : commit_fault.GenerationsSpent ≡ commit_fault.Refused refusal = cc in cc),
        λ both. absurd (let no : false ≡ true = sym (ap is_ok both.1) ∙ fits in cc),
      );
      spent = (λ same. (fits, starts.spent.0 (ap Err (spent-is at starts))), λ all. refl);
      names = λ same. (let no : commit_fault.GenerationsSpent ≡ commit_fault.Disk = cc in cc);
      same = starts.same;
      under_way = tt;
    }
