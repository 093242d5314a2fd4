-- Work on a record is started, and what that takes.
use Rattle.std.proofs.Common.{◌≡◌, ◌<◌, ◌+◌, ◌==◌, ◌∙◌, Bool, true, false, if◌then◌else◌, List, Some, Result, Ok, Err}
use Rattle.std.proofs.Common.{refl, ap, sym, arith, eq-eqb}
use Rattle.std.proofs.lemmas.Bool.{ne_eqb}
use Rattle.macs_config.specs.Config.{this_edition}
use Rattle.macs_disk.specs.Disk.{Disk}
use Rattle.macs_journal.specs.Areas.{slots}
use Rattle.macs_journal.specs.Found.{content_with_record}
use Rattle.macs_journal.specs.Compacted.{compacted}
use Rattle.macs_journal.specs.Stepping as journal
use Rattle.macs_journal.specs.Stepping.{Appends, IsAppendUnderWay, IsTaskUnderWay, Compaction}
use Rattle.macs_journal.specs.Value.{JournalValue}
use Rattle.macs_journal.specs.declared.fault.JournalFault.{JournalFault}
use Rattle.macs_journal.specs.declared.under_way.UnderWay as journal_under_way
use Rattle.macs_journal.specs.declared.under_way.UnderWay.TheVariants as journal_work
use Rattle.macs_journal.specs.declared.place.Place.{Place}
use Rattle.macs_journal.proofs.Tasks.{append-with, compaction-with}
use Rattle.macs_record.specs.declared.record.Record.{Record}
use Rattle.macs_store.specs.Keeps.{IsSpent, generation_after, most_calls, slots_after}
use Rattle.macs_store.specs.Replay.{snapshot_of, standing_after_record}
use Rattle.macs_store.specs.Snapshot.{snapshot}
use Rattle.macs_store.specs.Standing.{Standing}
use Rattle.macs_store.specs.Stepping.{HasUnderWay, StartsRecord}
use Rattle.macs_store.specs.Value.{IsIdle, IsStored, StoreValue, generation, snapshot_length, standing_in, used_slots}
use Rattle.macs_store.specs.UnderWay.{Appending, Compacting}
use Rattle.macs_store.proofs.Compacting.{meaning-compacted}
use Rattle.macs_store.proofs.Keeping.{held-within, idle-holds, standing-with}

-- ---- what one change more takes

-- where all slots are used
module _ {D : Type 0} (s : StoreValue D) (full : used_slots s ≡ slots) where
  is_full : (used_slots s == slots) ≡ true
  is_full = eq-eqb (used_slots s) slots full

  full-slots : slots_after s ≡ snapshot_length s + 1
  full-slots = ap (λ (b : Bool). if b then snapshot_length s + 1 else used_slots s + 1) is_full

  full-generation : generation_after s ≡ generation s + 1
  full-generation = ap (λ (b : Bool). if b then generation s + 1 else generation s) is_full

  full-calls : most_calls s ≡ 523 + snapshot_length s
  full-calls = ap (λ (b : Bool). if b then 523 + snapshot_length s else 4) is_full

-- where a slot is free
module _ {D : Type 0} (s : StoreValue D) (room : used_slots s < slots) where
  has_room : (used_slots s == slots) ≡ false
  has_room = ne_eqb (used_slots s) slots (λ full. omega (arith, room, full))

  free-slots : slots_after s ≡ used_slots s + 1
  free-slots = ap (λ (b : Bool). if b then snapshot_length s + 1 else used_slots s + 1) has_room

  free-generation : generation_after s ≡ generation s
  free-generation = ap (λ (b : Bool). if b then generation s + 1 else generation s) has_room

  free-calls : most_calls s ≡ 4
  free-calls = ap (λ (b : Bool). if b then 523 + snapshot_length s else 4) has_room

-- ---- what the journal has under way

pub task-appends : {D : Type 0} (j : JournalValue D) (r : Record) (under_way : journal_under_way.UnderWay)
    → IsTaskUnderWay j (Appends r) under_way → IsAppendUnderWay under_way
task-appends j r journal_work.Nothing is = absurd is
task-appends j r (journal_work.Append work) is = tt
task-appends j r (journal_work.Compact work) is = absurd is

-- work that was started
abbrev taken : Result (Unit {0}) JournalFault
taken = Ok tt

abbrev refused : JournalFault → Result (Unit {0}) JournalFault
refused at = Err at

module _ {D : Type 0} (disk_of : D → Disk) (s : StoreValue D) (idle : IsIdle s) (r : Record) where
  -- the store with this journal and this work
  abbrev with_append : JournalValue D → StoreValue D
  with_append j = record { journal = j; held = s.held; under_way = Appending r }

  abbrev with_compaction : JournalValue D → StoreValue D
  with_compaction j = record { journal = j; held = s.held; under_way = Compacting r }

  module _ (room : used_slots s < slots) where
    append-stored : (j : JournalValue D) → journal.Starts disk_of s.journal (Appends r) taken j → IsStored disk_of s
        → IsStored disk_of (with_append j)
    append-stored j starts stored =
        let holds = idle-holds disk_of s stored idle in
        record {
          content = stored.content;
          next = content_with_record stored.content r;
          holding = append-with (disk_of j.disk) j.place j.under_way (snapshot (standing_in s)) stored.content
              (content_with_record stored.content r)
              (task-appends s.journal r j.under_way starts.under_way) (starts.holds stored.content holds);
          stands = stored.stands;
          becomes = standing-with this_edition stored.content r (standing_in s)
              (held-within disk_of s.journal stored.content holds) stored.form stored.stands;
          leads = refl;
          form = stored.form;
          form_next = stored.form;
        }

    append-under_way : (j : JournalValue D) (after : Standing) → journal.Starts disk_of s.journal (Appends r) taken j
        → standing_after_record (standing_in s) r ≡ Some after → HasUnderWay disk_of s after (with_append j)
    append-under_way j after starts follows = record {
      running = starts.running;
      device = starts.device;
      standing = refl;
      leads = follows;
      busy = λ empty. absurd cc;
      slots = ap (λ (p : Place). p.free + 1) starts.place ∙ sym (free-slots s room);
      generation = ap (λ (p : Place). p.head.generation) starts.place ∙ sym (free-generation s room);
      left = starts.left ∙ sym (free-calls s room);
      stored = append-stored j starts;
    }

    not-full : IsSpent s → ⊥
    not-full spent = let full = spent.1 in omega (arith, room, full)

    -- the record is under way, where a slot is free
    pub append-started : (j : JournalValue D) → journal.Starts disk_of s.journal (Appends r) taken j
        → StartsRecord disk_of s r taken (with_append j)
    append-started j starts = record {
      stopped = (λ same. starts.stopped.0 same, λ is. starts.stopped.1 is);
      spent = (λ same. absurd cc, λ spent. absurd (not-full spent));
      names = tt;
      same = tt;
      under_way = λ after follows. append-under_way j after starts follows;
    }

    -- or is not, since the store is stopped
    pub append-refused : (at : JournalFault) (j : JournalValue D)
        → journal.Starts disk_of s.journal (Appends r) (refused at) j
        → StartsRecord disk_of s r (refused at) (record s { journal = j })
    append-refused at j starts = record {
      stopped = (λ same. starts.stopped.0 same, λ is. starts.stopped.1 is);
      spent = (λ same. absurd ((starts.spent.0 same).1), λ spent. absurd (not-full spent));
      names = starts.names;
      same = ap (λ (j : JournalValue D). record s { journal = j }) starts.same;
      under_way = tt;
    }

  module _ (full : used_slots s ≡ slots) (stands : snapshot_of this_edition (standing_in s).identity
      (snapshot (standing_in s)) ≡ Some (standing_in s)) where
    abbrev records : List Record
    records = snapshot (standing_in s)

    compaction-stored : (j : JournalValue D) → journal.Starts disk_of s.journal (Compaction records) taken j
        → IsStored disk_of s → IsStored disk_of (with_compaction j)
    compaction-stored j starts stored =
        let holds = idle-holds disk_of s stored idle in
        record {
          content = stored.content;
          next = compacted stored.content records;
          holding =
              compaction-with (disk_of j.disk) j.place j.under_way records stored.content
              (starts.holds stored.content holds);
          stands = stored.stands;
          becomes = meaning-compacted this_edition stored.content (standing_in s) records refl stored.stands stands;
          leads = tt;
          form = stored.form;
          form_next = refl;
        }

    compaction-under_way : (j : JournalValue D) (after : Standing)
        → journal.Starts disk_of s.journal (Compaction records) taken j
        → standing_after_record (standing_in s) r ≡ Some after → HasUnderWay disk_of s after (with_compaction j)
    compaction-under_way j after starts follows = record {
      running = starts.running;
      device = starts.device;
      standing = refl;
      leads = follows;
      busy = λ empty. absurd cc;
      slots = sym (full-slots s full);
      generation = ap (λ (p : Place). p.head.generation + 1) starts.place ∙ sym (full-generation s full);
      left = let calls = starts.left in let most = full-calls s full in omega (arith, calls, most);
      stored = compaction-stored j starts;
    }

    -- the compaction is under way, where all slots are used
    pub compaction-started : (j : JournalValue D) → journal.Starts disk_of s.journal (Compaction records) taken j
        → StartsRecord disk_of s r taken (with_compaction j)
    compaction-started j starts = record {
      stopped = (λ same. starts.stopped.0 same, λ is. starts.stopped.1 is);
      spent = (λ same. absurd cc, λ spent. absurd (let is = starts.spent.1 (spent.0, spent.2) in cc));
      names = tt;
      same = tt;
      under_way = λ after follows. compaction-under_way j after starts follows;
    }

    -- or is not
    pub compaction-refused : (at : JournalFault) (j : JournalValue D)
        → journal.Starts disk_of s.journal (Compaction records) (refused at) j
        → StartsRecord disk_of s r (refused at) (record s { journal = j })
    compaction-refused at j starts = record {
      stopped = (λ same. starts.stopped.0 same, λ is. starts.stopped.1 is);
      spent = (
        λ same. let both = starts.spent.0 same in
            (both.0, full, both.1),
        λ spent. starts.spent.1 (spent.0, spent.2),
      );
      names = starts.names;
      same = ap (λ (j : JournalValue D). record s { journal = j }) starts.same;
      under_way = tt;
    }
