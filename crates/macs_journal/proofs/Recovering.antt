-- What a recovery answers, from what it found.
use Rattle.std.proofs.Common.{◌≡◌, ◌≢◌, ◌<◌, ◌≤◌, ◌⊎◌, inl, inr, ℕ, refl, sym, subst, arith, false, List, take, Ok, Err}
use Rattle.macs_config.specs.Identity.{Identity}
use Rattle.macs_disk.specs.Disk as disk
use Rattle.macs_disk.specs.Runs.{LeavesNothingNew}
use Rattle.macs_disk.specs.States.{DiskState, state_after_sync}
use Rattle.macs_disk.proofs.Moments.{Nothing-start, Works-start}
use Rattle.macs_record.specs.declared.format.Format.{Format}
use Rattle.macs_record.specs.declared.record.Record.{Record}
use Rattle.macs_journal.specs.Appending.{IsReady}
use Rattle.macs_journal.specs.Areas.{least_sectors}
use Rattle.macs_journal.specs.Found.{JournalIs}
use Rattle.macs_journal.specs.Opening.{IsNoJournal, IsRefused, Recovers, StandsFromFirst}
use Rattle.macs_journal.specs.Recovery.{IsBehind, IsByContent, IsLeftBy, IsNamed, MeaningIs, content_at, read_in}
use Rattle.macs_journal.specs.Work.{FailsWith}
use Rattle.macs_journal.specs.declared.fault.JournalFault.{JournalFault}
use Rattle.macs_journal.specs.declared.fault.JournalFault.TheVariants.{BadJournal, Disk, NotFormatted, TooSmall}
use Rattle.macs_journal.specs.declared.under_way.UnderWay.TheVariants.{Nothing}
use Rattle.macs_journal.specs.declared.place.Place.{Place}
use Rattle.macs_journal.specs.declared.recovery.Meaning.{Meaning}
use Rattle.macs_journal.specs.declared.recovery.Meaning.TheVariants.{Journal, Refused}

-- a disk that is too small
pub refused-small : {D : Type 0} (disk_of : D → disk.Disk) (old : D) → (disk_of old).sectors < least_sectors
    → IsRefused disk_of (IsNoJournal disk_of old) old old TooSmall
refused-small disk_of old less = record {
  name = inl refl;
  small = (λ is. less, λ is. refl);
  untouched = λ is. refl;
  works = Works-start (disk_of old);
  fails = refl;
  found = λ other honest. less;
  unwritten = λ honest. refl;
  from_first = λ honest k from until. absurd (omega (arith, from, until));
  any_moment = λ honest. Nothing-start (disk_of old);
}

module _ {D : Type 0} (disk_of : D → disk.Disk) (old new : D) (large : least_sectors ≤ (disk_of old).sectors)
    (works : disk.Works (disk_of old) (disk_of new))
    (from_first : disk.IsHonest (disk_of new) → StandsFromFirst (disk_of old) (disk_of new))
    (nothing : disk.IsHonest (disk_of new) → LeavesNothingNew (disk_of old) (disk_of new)) where
  -- a device call failed
  pub refused-failed : disk.FailsOnce (disk_of old) (disk_of new)
      → (disk.IsHonest (disk_of new) → (disk.now (disk_of new) ≡ disk.now (disk_of old))
      ⊎ (disk.now (disk_of new) ≡ state_after_sync (disk.now (disk_of old))))
      → IsRefused disk_of (IsNoJournal disk_of old) old new Disk
  refused-failed fails unwritten = record {
    name = inr (inl refl);
    small = (λ is. absurd cc, λ less. absurd (omega (arith, large, less)));
    untouched = λ is. absurd cc;
    works = works;
    fails = fails;
    found = λ other honest. absurd (other refl);
    unwritten = unwritten;
    from_first = from_first;
    any_moment = nothing;
  }

  module _ (steady : (disk_of new).failures ≡ (disk_of old).failures)
      (settled : disk.IsHonest (disk_of new) → disk.now (disk_of new) ≡ state_after_sync (disk.now (disk_of old))) where
    refused-for : (fault : JournalFault) → IsByContent fault → fault ≢ TooSmall
        → FailsWith (disk_of old) (disk_of new) fault
        → (disk.IsHonest (disk_of new) → IsNoJournal disk_of old fault)
        → (disk.IsHonest (disk_of new) → IsLeftBy fault (disk.now (disk_of old)) (disk.now (disk_of new)))
        → IsRefused disk_of (IsNoJournal disk_of old) old new fault
    refused-for fault name other fails found left = record {
      name = inr (inr name);
      small = (λ is. absurd (other is), λ less. absurd (omega (arith, large, less)));
      untouched = λ is. absurd (other is);
      works = works;
      fails = fails;
      found = λ not honest. found honest;
      unwritten = left;
      from_first = from_first;
      any_moment = nothing;
    }

    -- what is there is no journal
    pub refused-found : (meaning : Meaning) (fault : JournalFault) (room : List Record) → meaning ≡ Refused fault
        → IsNamed meaning
        → (disk.IsHonest (disk_of new) → MeaningIs (disk.now (disk_of old)).seen meaning (read_in meaning room))
        → IsRefused disk_of (IsNoJournal disk_of old) old new fault
    refused-found meaning fault room is named found = by_name (subst IsNamed is named) where
      is_found : disk.IsHonest (disk_of new) → JournalIs least_sectors (disk.now (disk_of old)).seen (Err fault)
      is_found honest =
          subst (λ (f : Meaning). MeaningIs (disk.now (disk_of old)).seen f (read_in f room)) is (found honest)

      by_name : IsByContent fault → IsRefused disk_of (IsNoJournal disk_of old) old new fault
      by_name (inl blank) =
          subst (λ (f : JournalFault). IsRefused disk_of (IsNoJournal disk_of old) old new f) (sym blank)
          (refused-for NotFormatted (inl refl) (λ same. absurd cc) steady
          (λ honest. (
            large,
            (subst (λ (f : JournalFault).
                JournalIs least_sectors (disk.now (disk_of old)).seen (Err f)) blank (is_found honest)).1,
          )) settled)
      by_name (inr bad) =
          subst (λ (f : JournalFault). IsRefused disk_of (IsNoJournal disk_of old) old new f) (sym bad)
          (refused-for BadJournal (inr refl) (λ same. absurd cc) steady
          (λ honest. (
            large,
            (subst (λ (f : JournalFault).
                JournalIs least_sectors (disk.now (disk_of old)).seen (Err f)) bad (is_found honest)).1,
          )) settled)

    -- a journal was found
    pub recovers-found : (meaning : Meaning) (place : Place) (room : List Record) (format : Format)
        (identity : Identity) (count : ℕ)
        → format ≡ place.head.format → identity ≡ place.head.identity → count ≡ place.head.count
        → meaning ≡ Journal place
        → IsBehind meaning (read_in meaning room)
        → (disk.IsHonest (disk_of new) → MeaningIs (disk.now (disk_of old)).seen meaning (read_in meaning room))
        → Recovers disk_of old (record { disk = new; place = place; under_way = Nothing; stopped = false })
        format identity
        count (take place.free room)
    recovers-found meaning place room format identity count form whose counted is behind found =
        let stands : IsBehind (Journal place) (take place.free room) =
        subst (λ (f : Meaning). IsBehind f (read_in f room)) is behind in
        let is_found : disk.IsHonest (disk_of new)
        → JournalIs least_sectors (disk.now (disk_of old)).seen (Ok (content_at place (take place.free room))) =
        λ honest.
        subst (λ (f : Meaning). MeaningIs (disk.now (disk_of old)).seen f (read_in f room)) is (found honest) in
        record {
          device = record {
            large = large;
            works = works;
            fails = steady;
            settled = settled;
            from_first = from_first;
            any_moment = nothing;
          };
          running = refl;
          idle = refl;
          form = form;
          whose = whose;
          counted = counted;
          used = sym stands.0;
          behind = (let size = stands.0 in let least = stands.2 in omega (arith, size, least, counted));
          found = λ honest. (large, (is_found honest).1);
          holds = λ honest. record {
            at = record { area = refl; head = refl; free = sym stands.0 };
            holds = (
              subst (λ (s : DiskState). IsReady s (content_at place (take place.free room))) (sym (settled honest))
                  (record { clean = λ i. refl; fresh = λ i. refl; finds = (is_found honest).1 }),
              refl,
            );
          };
        }
