-- What a planned end makes of a store, or that it is refused.
use Rattle.std.proofs.Common.{◌≡◌, ◌⊎◌, inl, inr, true, false, List, length, Some, Result, Ok, Err, IsErrOf, OnErr}
use Rattle.std.proofs.Common.{refl, sym}
use Rattle.std.proofs.Common.{ap, subst, arith, ◌∙◌, ℕ, ◌≤◌, ◌+◌}
use Rattle.macs_config.specs.Config.{this_edition}
use Rattle.macs_config.specs.Identity.{Identity}
use Rattle.macs_disk.specs.Disk.{Disk, IsHonest, MayLeave}
use Rattle.macs_disk.specs.Runs.{Leaves}
use Rattle.macs_disk.specs.States.{Image}
use Rattle.macs_disk.proofs.Moments.{Leaves-start, Leaves-weaker, Works-start}
use Rattle.macs_record.specs.declared.format.Format.TheVariants.{Two}
use Rattle.macs_record.specs.declared.record.Record.{Record}
use Rattle.macs_journal.specs.Appending.{HasEitherJournal}
use Rattle.macs_journal.specs.Compacted.{compacted}
use Rattle.macs_journal.specs.Found.{Content, HasFormat}
use Rattle.macs_journal.specs.Value.{HoldsContent, JournalValue}
use Rattle.macs_journal.specs.Value as journal
use Rattle.macs_journal.specs.declared.fault.JournalFault.{JournalFault}
use Rattle.macs_journal.specs.declared.fault.JournalFault.TheVariants as fault
use Rattle.macs_store.specs.Found.{StandsFor, StandsForEither}
use Rattle.macs_store.specs.Opening.{CompactsHeld}
use Rattle.macs_store.specs.Replay.{meaning_of, snapshot_of}
use Rattle.macs_store.specs.Resting.{Rests, standing_with_ceilings}
use Rattle.macs_store.specs.Snapshot.{snapshot}
use Rattle.macs_store.specs.Standing.{Ceilings, Standing}
use Rattle.macs_store.specs.Table.{StandingValue, standing_of}
use Rattle.macs_store.specs.Value.{IsIdle, IsStored, StoreValue, disk_in, is_stopped, standing_in}
use Rattle.macs_store.specs.declared.ceiling_table.CeilingTable.{CeilingTable}
use Rattle.macs_store.proofs.Compacting.{meaning-snapshot}
use Rattle.macs_store.proofs.Keeping.{idle-holds, stored-form, stored-image}
use Rattle.macs_store.proofs.Migrating.{idle_stored}

-- what a call without a value answers
abbrev rested_well : Result (Unit {0}) JournalFault
rested_well = Ok tt

abbrev refuses : JournalFault → Result (Unit {0}) JournalFault
refuses at = Err at

module _ {D : Type 0} (disk_of : D → Disk) (old : StoreValue D) (idle : IsIdle old) (ceilings : Ceilings) where
  abbrev after : Standing
  after = standing_with_ceilings (standing_in old) ceilings

  -- a device call failed before it
  pub rests-stopped : is_stopped old ≡ true → Rests disk_of old ceilings (refuses fault.Stopped) old
  rests-stopped is = record {
    stopped = (λ same. is, λ same. refl);
    spent = (λ same. absurd cc, λ both. absurd (let no : true ≡ false = sym is ∙ both.0 in cc));
    names = inl refl;
    same = inr refl;
    halted = λ same. absurd cc;
    running = tt;
    idle = idle;
    slots = tt;
    generation = tt;
    most = omega arith;
    done = tt;
    work = record { works = Works-start (disk_in disk_of old); fails = refl };
    any_moment = λ honest stored. Leaves-start (disk_in disk_of old) (StandsForEither (standing_in old) after)
        (λ image left.
        (inl (stored-image disk_of old idle stored image left), stored-form disk_of old idle stored image left));
    stored = tt;
    kept = tt;
  }

  -- the store with these ceilings in memory, before the compaction
  module _ (held : StandingValue) (are : standing_of held ≡ after) where
    abbrev mid : StoreValue D
    mid = record old { held = held }

    abbrev records : List Record
    records = snapshot (standing_in mid)

    length_same : length records ≡ length (snapshot after)
    length_same = ap (λ (s : Standing). length (snapshot s)) are

    module _ (result : Result (Unit {0}) JournalFault) (t : StoreValue D)
        (begins : CompactsHeld disk_of mid result t) where
      abbrev new : Disk
      new = disk_in disk_of t

      back : IsHonest new → IsHonest (disk_in disk_of old)
      back honest = sym begins.compacts.work.works.honest ∙ honest

      stands : snapshot_of this_edition (standing_in old).identity records ≡ Some (standing_in mid)
      stands = subst (λ (identity : Identity). snapshot_of this_edition identity records ≡ Some (standing_in mid))
          (ap (λ (s : Standing). s.identity) are) begins.stands

      module _ (stored : IsStored disk_of old) where
        holds : HoldsContent disk_of old.journal stored.content
        holds = idle-holds disk_of old stored idle

        abbrev later : Content
        later = compacted stored.content records

        later_mid : meaning_of this_edition later ≡ Some (standing_in mid)
        later_mid =
            meaning-snapshot this_edition stored.content (standing_in old) (standing_in mid) records refl stored.stands
            stands

        later_stands : meaning_of this_edition later ≡ Some after
        later_stands = later_mid ∙ ap (λ (s : Standing). Some s) are

        either : (image : Image) → HasEitherJournal stored.content later image
            → StandsForEither (standing_in old) after image
        either image (inl found) = (
          inl (record { content = stored.content; found = found; stands = stored.stands }),
          record { content = stored.content; found = found; is = stored.form },
        )
        either image (inr found) = (
          inr (record { content = later; found = found; stands = later_stands }),
          record { content = later; found = found; is = refl },
        )

        leaves : IsHonest new → Leaves (disk_in disk_of old) new (StandsForEither (standing_in old) after)
        leaves honest =
            Leaves-weaker (disk_in disk_of old) new (HasEitherJournal stored.content later)
            (StandsForEither (standing_in old) after)
            either (begins.compacts.any_moment honest stored.content holds)

      most : new.clock ≤ (disk_in disk_of old).clock + (519 + length (snapshot after))
      most = subst (λ (n : ℕ). new.clock ≤ (disk_in disk_of old).clock + (519 + n)) length_same begins.compacts.most

    -- it is done
    pub rested : (t : StoreValue D) → CompactsHeld disk_of mid rested_well t → Rests disk_of old ceilings rested_well t
    rested t begins =
        let now : standing_in t ≡ after = ap (λ (h : StandingValue). standing_of h) begins.held ∙ are in
        record {
          stopped = begins.compacts.stopped;
          spent = begins.compacts.spent;
          names = tt;
          same = tt;
          halted = λ same. absurd cc;
          running = begins.compacts.running.0;
          idle = begins.under_way ∙ idle;
          slots = ap (λ (p : _). p.free) begins.compacts.place ∙ length_same;
          generation = ap (λ (p : _). p.head.generation) begins.compacts.place;
          most = most rested_well t begins;
          done = now;
          work = begins.compacts.work;
          any_moment = λ honest stored. leaves rested_well t begins stored honest;
          stored = λ honest stored.
              idle_stored disk_of t (later rested_well t begins stored) (begins.under_way ∙ idle)
              begins.compacts.running.1
              (begins.compacts.done honest stored.content (holds rested_well t begins stored))
              (later_stands rested_well t begins stored ∙ ap (λ (s : Standing). Some s) (sym now)) refl;
          kept = λ honest stored image left. record {
            content = later rested_well t begins stored;
            found = begins.compacts.kept honest stored.content (holds rested_well t begins stored) image left;
            stands = later_stands rested_well t begins stored ∙ ap (λ (s : Standing). Some s) (sym now);
          };
        }

    -- or not: what was in memory is there again
    module _ (at : JournalFault) (t : StoreValue D) (begins : CompactsHeld disk_of mid (refuses at) t) where
      abbrev put_back : StoreValue D
      put_back = record t { held = old.held }

      unchanged : (t.journal ≡ old.journal) → put_back ≡ old
      unchanged same = λ i. record { journal = same i; held = old.held; under_way = begins.under_way i }

      same_or : IsErrOf (refuses at) fault.Disk ⊎ (t.journal ≡ old.journal)
          → IsErrOf (refuses at) fault.Disk ⊎ (put_back ≡ old)
      same_or (inl failed) = inl failed
      same_or (inr same) = inr (unchanged same)

      as_before : Rests disk_of old ceilings (refuses at) put_back
      as_before = record {
        stopped = begins.compacts.stopped;
        spent = begins.compacts.spent;
        names = begins.compacts.names;
        same = same_or begins.compacts.same;
        halted = λ failed. ((begins.compacts.halted failed).0, refl);
        running = tt;
        idle = begins.under_way ∙ idle;
        slots = tt;
        generation = tt;
        most = most (refuses at) t begins;
        done = tt;
        work = begins.compacts.work;
        any_moment = λ honest stored. leaves (refuses at) t begins stored honest;
        stored = tt;
        kept = tt;
      }

      pub not-rested : (again : StandingValue) → again ≡ old.held
          → Rests disk_of old ceilings (refuses at) (record t { held = again })
      not-rested again same =
          subst (λ (h : StandingValue). Rests disk_of old ceilings (refuses at) (record t { held = h })) (sym same)
          as_before

-- the configuration stayed, and the table of ceilings is the old one
pub held-again : (old held then again : StandingValue) (table : CeilingTable)
    → again ≡ record { config = then.config; table = table } → then ≡ held → held.config ≡ old.config
    → table ≡ old.table → again ≡ old
held-again old held then again table put same config before =
    put ∙ (λ i. record { config = (same i).config; table = before i })
    ∙ (λ i. record { config = config i; table = old.table })
