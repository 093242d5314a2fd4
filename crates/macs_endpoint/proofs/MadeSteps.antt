-- An endpoint with another device, as before a device call that somebody made; and what holds in memory whoever made
-- the call.
use Rattle.std.proofs.Common.{◌≡◌, ◌≢◌, ◌⊎◌, ◌∙◌, inl, inr, true, false, Some, Result, Ok, refl, sym, ap}
use Rattle.macs_disk.specs.Disk as disk
use Rattle.macs_disk.proofs.Moments.{Works-start}
use Rattle.macs_journal.specs.declared.fault.JournalFault.{JournalFault}
use Rattle.macs_journal.specs.declared.work.JournalStep.{JournalStep}
use Rattle.macs_journal.specs.declared.work.JournalStep.TheVariants.{Finished, Going, Idle}
use Rattle.macs_store.specs.Standing.{Standing}
use Rattle.macs_store.specs.Table.{standing_of}
use Rattle.macs_store.specs.Value.{IsIdle, StoreValue, is_stopped, standing_in, standing_then}
use Rattle.macs_endpoint.specs.Value.{EndpointValue, IsAtRest, IsKeeping, IsReserving, IsSoundEndpoint, on_device}
use Rattle.macs_endpoint.proofs.Ended.{IsCut, IsDone}
use Rattle.macs_endpoint.proofs.Working.{some_is}

-- ---- with another device

module _ {D E : Type 0} (e : EndpointValue D) (before : E) where
  pub before-rest : IsAtRest e → IsAtRest (on_device e before)
  before-rest rest = record { store = rest.store; reserving = rest.reserving; under_way = rest.under_way }

  pub before-reserving : IsReserving e → IsReserving (on_device e before)
  before-reserving work = record {
    running = work.running;
    busy = work.busy;
    raise = work.raise;
    reserving = work.reserving;
    under_way = work.under_way;
    leads = work.leads;
    within = work.within;
  }

  pub before-keeping : IsKeeping e → IsKeeping (on_device e before)
  before-keeping work = record {
    running = work.running;
    busy = work.busy;
    reserving = work.reserving;
    first = work.first;
    rest = work.rest;
    waiting = work.waiting;
    under_way = work.under_way;
    in_range = work.in_range;
    after = work.after;
    leads = work.leads;
    accepted = work.accepted;
  }

  before-work : IsAtRest e ⊎ (IsReserving e ⊎ IsKeeping e)
      → IsAtRest (on_device e before) ⊎ (IsReserving (on_device e before) ⊎ IsKeeping (on_device e before))
  before-work (inl rest) = inl (before-rest rest)
  before-work (inr (inl work)) = inr (inl (before-reserving work))
  before-work (inr (inr work)) = inr (inr (before-keeping work))

  pub before-sound : IsSoundEndpoint e → IsSoundEndpoint (on_device e before)
  before-sound kept = record {
    identity = kept.identity;
    channels = kept.channels;
    within = kept.within;
    few = kept.few;
    tickets = kept.tickets;
    work = before-work kept.work;
  }

-- ---- what holds in memory

-- a disk of which nothing is said
abbrev pub silent : {D : Type 0} → disk.Disk → D → disk.Disk
silent some device = record some { honest = false }

module _ {D : Type 0} (some : disk.Disk) (old : StoreValue D) (after : Standing)
    (leads : standing_then old ≡ Some after) (new : StoreValue D) where
  -- the work of the store is done
  pub memory-done : is_stopped new ≡ false → IsIdle new → standing_then old ≡ Some (standing_in new)
      → IsDone (silent some) old after new
  memory-done running idle finished = record {
    stands = some_is (standing_in new) after (sym finished ∙ leads);
    running = running;
    idle = idle;
    works = Works-start (record some { honest = false });
    any_moment = λ honest. absurd (let no : false ≡ true = honest in cc);
    stored = λ honest. absurd (let no : false ≡ true = honest in cc);
  }

  -- or a device call failed
  pub memory-cut : is_stopped new ≡ true → IsIdle new → new.held ≡ old.held → IsCut (silent some) old after new
  memory-cut stopped idle held = record {
    stands = ap standing_of held;
    stopped = stopped;
    idle = idle;
    works = Works-start (record some { honest = false });
    any_moment = λ honest. absurd (let no : false ≡ true = honest in cc);
  }

abbrev went : JournalStep → Result JournalStep JournalFault
went step = Ok step

-- a call that was not the last one
pub goes-on : (step : JournalStep) → step ≢ Finished → ¬ (went step ≡ went Idle) → step ≡ Going
goes-on Idle other busy = absurd (busy refl)
goes-on Going other busy = refl
goes-on Finished other busy = absurd (other refl)
