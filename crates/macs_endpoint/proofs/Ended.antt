-- Work under way that goes on, is done, or is cut short by a fault, and a reservation that ends so.
use Rattle.std.proofs.Common.{◌≡◌, ◌≤◌, ◌+◌, ◌⊎◌, inl, inr, ℕ, Bool, true, false, length, Option, Some, None, Result}
use Rattle.std.proofs.Common.{Ok, Err, refl, sym, ◌∙◌, ap, subst, arith}
use Rattle.std.specs.Prelude.{IsErrOf}
use Rattle.macs_config.specs.Config.{this_edition}
use Rattle.macs_config.specs.Identity.{Identity, IsIdentity}
use Rattle.macs_disk.specs.Disk.{IsHonest, Works}
use Rattle.macs_disk.specs.Disk as disk
use Rattle.macs_disk.specs.Runs.{Leaves}
use Rattle.macs_disk.proofs.Moments.{Leaves-start, Works-start}
use Rattle.macs_journal.specs.Areas.{least_sectors}
use Rattle.macs_journal.specs.declared.fault.JournalFault.{JournalFault}
use Rattle.macs_journal.specs.declared.fault.JournalFault.TheVariants as fault
use Rattle.macs_journal.specs.declared.work.JournalStep.TheVariants.{Finished}
use Rattle.macs_txsc.specs.Transmit.{TxSide}
use Rattle.macs_txsc.specs.Value as txsc
use Rattle.macs_txsc.specs.declared.channel.Tx.{Tx}
use Rattle.macs_rxsc.specs.Receive.{RxSide}
use Rattle.macs_rxsc.specs.Value as rxsc
use Rattle.macs_store.specs.Found.{StandsForEither}
use Rattle.macs_store.specs.Keeps.{IsSpent, most_calls}
use Rattle.macs_store.specs.Standing.{Standing}
use Rattle.macs_store.specs.Stepping.{Finishes, HasUnderWay, Steps}
use Rattle.macs_store.specs.Table.{standing_of}
use Rattle.macs_store.specs.Value.{IsIdle, IsStored, standing_in, standing_then}
use Rattle.macs_store.specs.Value as store
use Rattle.macs_store.specs.UnderWay.{UnderWay}
use Rattle.macs_endpoint.specs.Ceilings.{Raise, standing_with_raise, standing_with_reserved}
use Rattle.macs_endpoint.specs.Faults.{refill_fault_of}
use Rattle.macs_endpoint.specs.Needed.{raise_in}
use Rattle.macs_endpoint.specs.Queue.{last_ticket, queue_length}
use Rattle.macs_endpoint.specs.Calls.{Fails}
use Rattle.macs_endpoint.specs.Limits.{IsLimited}
use Rattle.macs_endpoint.specs.Reserving.{FitsState, Raised, ReservationEnds, ReserveStep, Reserves}
use Rattle.macs_endpoint.specs.State.{Logs, Refilled, Refills, State, state_after_fault}
use Rattle.macs_endpoint.specs.Value.{AreChannels, AreWithin, EndpointValue, IsAtRest, IsBacked, IsKeeping}
use Rattle.macs_endpoint.specs.Value.{IsRaiseWithin, IsReserving, IsSoundEndpoint, disk_in, is_stopped, state_of}
use Rattle.macs_endpoint.specs.declared.fault.RefillFault.{RefillFault}
use Rattle.macs_endpoint.specs.declared.fault.RefillFault.TheVariants as refill
use Rattle.macs_endpoint.specs.declared.turn.Turn.{Turn}
use Rattle.macs_endpoint.proofs.Begun.{first-within}
use Rattle.macs_endpoint.proofs.Fitting.{AreAhead, ahead-within, kept-ahead}
use Rattle.macs_endpoint.proofs.Raises.{raise-parts}
use Rattle.macs_endpoint.proofs.Working.{at-rest, cut-backed, fits-moments, kept-backed, raise-ahead, some_is}

-- ---- what the store says of its work

-- the work of a store is done, and this is the standing
pub record IsDone {D : Type 0} (disk_of : D → disk.Disk) (old : store.StoreValue D) (after : Standing)
    (new : store.StoreValue D) : Type 0 where
  pub stands : standing_in new ≡ after
  pub running : store.is_stopped new ≡ false
  pub idle : IsIdle new
  pub works : Works (store.disk_in disk_of old) (store.disk_in disk_of new)
  pub any_moment : IsHonest (store.disk_in disk_of new) → IsStored disk_of old
      → Leaves (store.disk_in disk_of old) (store.disk_in disk_of new) (StandsForEither (standing_in old) after)
  pub stored : IsHonest (store.disk_in disk_of new) → IsStored disk_of old → IsStored disk_of new

-- a device call failed, and the standing is as it was
pub record IsCut {D : Type 0} (disk_of : D → disk.Disk) (old : store.StoreValue D) (after : Standing)
    (new : store.StoreValue D) : Type 0 where
  pub stands : standing_in new ≡ standing_in old
  pub stopped : store.is_stopped new ≡ true
  pub idle : IsIdle new
  pub works : Works (store.disk_in disk_of old) (store.disk_in disk_of new)
  pub any_moment : IsHonest (store.disk_in disk_of new) → IsStored disk_of old
      → Leaves (store.disk_in disk_of old) (store.disk_in disk_of new) (StandsForEither (standing_in old) after)

module _ {D : Type 0} (disk_of : D → disk.Disk) (old : store.StoreValue D) (after : Standing)
    (leads : standing_then old ≡ Some after) (new : store.StoreValue D) where
  pub finish-done : store.is_stopped old ≡ false → Finishes disk_of old (Ok tt) new → IsDone disk_of old after new
  finish-done running finishes = record {
    stands = some_is (standing_in new) after (sym finishes.done ∙ leads);
    running = finishes.running;
    idle = finishes.idle running;
    works = finishes.work.works;
    any_moment = λ honest stored. finishes.any_moment honest stored after leads;
    stored = finishes.stored;
  }

  pub finish-cut : store.is_stopped old ≡ false → Finishes disk_of old (Err fault.Disk) new
      → IsCut disk_of old after new
  finish-cut running finishes = record {
    stands = ap standing_of (finishes.halted refl).1;
    stopped = (finishes.halted refl).0;
    idle = finishes.idle running;
    works = finishes.work.works;
    any_moment = λ honest stored. finishes.any_moment honest stored after leads;
  }

  pub step-done : Steps disk_of old (Ok Finished) new → IsDone disk_of old after new
  step-done steps =
      let finished = steps.finished refl in
      record {
        stands = some_is (standing_in new) after (sym finished.1 ∙ leads);
        running = steps.running;
        idle = finished.0;
        works = steps.work.works;
        any_moment = λ honest stored. steps.any_moment honest stored after leads;
        stored = steps.stored;
      }

  pub step-cut : Steps disk_of old (Err fault.Disk) new → IsCut disk_of old after new
  step-cut steps =
      let halted = steps.halted refl in
      record {
        stands = ap standing_of (steps.standing (λ same. cc));
        stopped = halted.0;
        idle = halted.1;
        works = steps.work.works;
        any_moment = λ honest stored. steps.any_moment honest stored after leads;
      }

pub not_stopped : (b : Bool) → b ≡ true → b ≡ false → ⊥
not_stopped b is not = absurd cc

pub err_same : {T : Type 0} (at : JournalFault) → IsErrOf {T = T} (Err at) fault.Disk → at ≡ fault.Disk
err_same at is = cc

-- ---- the same channels over another store

-- what holds of an endpoint holds of another one with its channels, and the same standing
pub kept-held : {D : Type 0} (e other : EndpointValue D) → IsSoundEndpoint e
    → standing_in other.store ≡ standing_in e.store
    → length other.waiting ≤ queue_length → other.tickets ≤ last_ticket
    → IsAtRest (record other { tx = e.tx; rx = e.rx })
    ⊎ (IsReserving (record other { tx = e.tx; rx = e.rx }) ⊎ IsKeeping (record other { tx = e.tx; rx = e.rx }))
    → IsSoundEndpoint (record other { tx = e.tx; rx = e.rx })
kept-held e other kept same few tickets work = record {
  identity = subst (λ (x : Standing). IsIdentity x.identity) (sym same) kept.identity;
  channels = subst (λ (x : Standing). AreChannels e.tx e.rx x) (sym same) kept.channels;
  within = subst (λ (x : Standing). AreWithin e.tx e.rx x.identity) (sym same) kept.within;
  few = few;
  tickets = tickets;
  work = work;
}

-- ---- a reservation begins

module _ {D : Type 0} (disk_of : D → disk.Disk) (e : EndpointValue D) (kept : IsSoundEndpoint e)
    (running : is_stopped e ≡ false) (idle : IsIdle e.store)
    (raise : Raise) (first : raise_in e ≡ Some raise) (s : store.StoreValue D)
    (under_way : HasUnderWay disk_of e.store (standing_with_raise (standing_in e.store) raise) s) where
  abbrev begun : EndpointValue D
  begun = record e { store = s; reserving = Some raise }

  begun_same : standing_in s ≡ standing_in e.store
  begun_same = ap standing_of under_way.standing

  pub begun-reserving : IsReserving begun
  begun-reserving = record {
    running = under_way.running;
    busy = under_way.busy;
    raise = raise;
    reserving = refl;
    under_way = (at-rest e kept idle).under_way running;
    leads = under_way.leads ∙ ap (λ (x : Standing). Some (standing_with_raise x raise)) (sym begun_same);
    within = subst (λ (x : Standing). IsRaiseWithin e.tx e.rx x.identity raise) (sym begun_same)
        (first-within e kept raise first);
  }

  pub begun-kept : IsSoundEndpoint begun
  begun-kept = kept-held e begun kept begun_same kept.few kept.tickets (inr (inl begun-reserving))

  begun_disk : disk_in disk_of begun ≡ disk_in disk_of e
  begun_disk = ap disk_of under_way.device

  pub begun-state : (logs : Logs) → state_of begun logs ≡ state_of e logs
  begun-state logs = λ i. record {
    edition = this_edition;
    identity = (begun_same i).identity;
    config = (begun_same i).config;
    next = (txsc.tx_side_of e.tx).next;
    numbers = (rxsc.rx_side_of e.rx).numbers;
    logs = logs;
    stopped = (under_way.running ∙ sym running) i;
    under_way = e.under_way;
    waiting = e.waiting;
    tickets = e.tickets;
  }

  pub begun-backed : IsBacked disk_of e → IsBacked disk_of begun
  begun-backed backed =
      kept-backed begun begun-kept disk_of
      (subst (λ (d : disk.Disk). least_sectors ≤ d.sectors) (sym begun_disk) backed.size)
      (under_way.stored (backed.stored running))

  limited_from : (result : Result (Unit {0}) RefillFault) (new : EndpointValue D)
      → IsLimited begun Refills (Refilled result) new
      → IsLimited e Refills (Refilled result) new
  limited_from (Ok done) new limited = tt
  limited_from (Err refill.Stopped) new limited = tt
  limited_from (Err refill.Busy) new limited = tt
  limited_from (Err refill.GenerationsSpent) new limited = limited
  limited_from (Err refill.Disk) new limited = tt

  -- what follows is what the reservation does
  pub begun-reserves : (result : Result (Unit {0}) RefillFault) (new : EndpointValue D)
      → Reserves disk_of begun result new → Reserves disk_of e result new
  begun-reserves result new r = record {
    step = λ logs. subst (λ (s : State). ReserveStep s result (state_of new logs)) (begun-state logs) (r.step logs);
    idle = r.idle;
    works = subst (λ (d : disk.Disk). Works d (disk_in disk_of new)) begun_disk r.works;
    fails = subst (λ (d : disk.Disk). Fails d (disk_in disk_of new) (Refilled result)) begun_disk r.fails;
    any_moment = λ honest backed logs.
        subst (λ (s : State). Leaves (disk_in disk_of e) (disk_in disk_of new) (FitsState s (disk_in disk_of e)))
        (begun-state logs)
        (subst (λ (d : disk.Disk). Leaves d (disk_in disk_of new) (FitsState (state_of begun logs) d)) begun_disk
        (r.any_moment honest (begun-backed backed) logs));
    backed = λ honest backed. r.backed honest (begun-backed backed);
    limited = limited_from result new r.limited;
    tx_counters = r.tx_counters;
    rx_counters = r.rx_counters;
    channel_counters = r.channel_counters;
  }

  few_calls : (new : EndpointValue D) → (disk_in disk_of new).clock ≤ (disk_in disk_of begun).clock + store.calls_left s
      → (disk_in disk_of new).clock ≤ (disk_in disk_of e).clock + most_calls e.store
  few_calls new most =
      subst (λ (d : disk.Disk). (disk_in disk_of new).clock ≤ d.clock + most_calls e.store) begun_disk
      (subst (λ (n : ℕ). (disk_in disk_of new).clock ≤ (disk_in disk_of begun).clock + n) under_way.left most)

  not_spent : (at : RefillFault) → IsErrOf {T = Unit {0}} (Err at) refill.Disk
      → IsErrOf {T = Unit {0}} (Err at) refill.GenerationsSpent → ⊥
  not_spent at is other = cc

  ends_raised : (result : Result (Unit {0}) RefillFault) (new : EndpointValue D) → (¬ IsSpent e.store)
      → ReservationEnds disk_of begun result new
      → Raised disk_of e raise result new
  ends_raised (Ok done) new room ends = record {
    reserves = begun-reserves (Ok done) new ends.reserves;
    done = ends.done ∙ ap (λ (x : Standing). standing_with_raise x raise) begun_same;
    same = tt;
    spent = (λ other. absurd cc, λ is. absurd (room is));
    refused = λ other. absurd cc;
    slots = ends.slots ∙ under_way.slots;
    generation = ends.generation ∙ under_way.generation;
    most = few_calls new ends.most;
  }
  ends_raised (Err at) new room ends = record {
    reserves = begun-reserves (Err at) new ends.reserves;
    done = tt;
    same = ends.same ∙ begun_same;
    spent = (λ other. absurd (not_spent at ends.fault.0 other), λ is. absurd (room is));
    refused = λ other. absurd (not_spent at ends.fault.0 other);
    slots = tt;
    generation = tt;
    most = few_calls new ends.most;
  }

  -- the ceiling is raised, or not
  pub begun-raised : (mid new : EndpointValue D) (result : Result (Unit {0}) RefillFault) → mid ≡ begun
      → (¬ IsSpent e.store) → ReservationEnds disk_of mid result new
      → Raised disk_of e raise result new
  begun-raised mid new result same room ends =
      ends_raised result new room (subst (λ (x : EndpointValue D). ReservationEnds disk_of x result new) same ends)

-- no reservation begins, since the journal cannot be compacted
pub spent-raised : {D : Type 0} (disk_of : D → disk.Disk) (e : EndpointValue D) (raise : Raise) → IsIdle e.store
    → IsSpent e.store
    → Raised disk_of e raise (Err refill.GenerationsSpent) e
spent-raised disk_of e raise idle spent = record {
  reserves = record {
    step = λ logs. refl;
    idle = idle;
    works = Works-start (disk_in disk_of e);
    fails = refl;
    any_moment =
        λ honest backed logs. Leaves-start (disk_in disk_of e) (FitsState (state_of e logs) (disk_in disk_of e))
        (λ image left. backed.fits logs image left);
    backed = λ honest backed. backed;
    limited = spent;
    tx_counters = refl;
    rx_counters = refl;
    channel_counters = refl;
  };
  done = tt;
  same = refl;
  spent = (λ is. spent, λ is. refl);
  refused = λ is. refl;
  slots = tt;
  generation = tt;
  most = omega arith;
}

-- ---- a reservation ends

module _ {D : Type 0} (disk_of : D → disk.Disk) (e : EndpointValue D) (kept : IsSoundEndpoint e)
    (work : IsReserving e) where
  abbrev pub raised_to : Standing
  raised_to = standing_with_raise (standing_in e.store) work.raise

  same_parts : (raised_to.identity ≡ (standing_in e.store).identity) × (raised_to.config ≡ (standing_in e.store).config)
  same_parts = raise-parts (standing_in e.store) work.raise

  -- the ceiling is raised
  module _ (s : store.StoreValue D) (done : IsDone disk_of e.store raised_to s) (tx : Tx) (rx : rxsc.RxValue)
      (turn : Turn)
      (channels : AreChannels tx rx (standing_in s)) (tx_side : txsc.tx_side_of tx ≡ txsc.tx_side_of e.tx)
      (rx_side : rxsc.rx_side_of rx ≡ rxsc.rx_side_of e.rx) where
    abbrev pub raised : EndpointValue D
    raised = record e { store = s; tx = tx; rx = rx; reserving = None; turn = turn }

    raised_ahead : AreAhead (standing_in s).identity (txsc.tx_side_of tx).next (rxsc.rx_side_of rx).numbers
        (standing_in s).ceilings
    raised_ahead =
        subst (λ (x : Standing). AreAhead x.identity (txsc.tx_side_of tx).next (rxsc.rx_side_of rx).numbers x.ceilings)
        (sym done.stands)
        (subst (λ (x : TxSide). AreAhead raised_to.identity x.next (rxsc.rx_side_of rx).numbers raised_to.ceilings)
        (sym tx_side)
        (subst (λ (x : RxSide). AreAhead raised_to.identity (txsc.tx_side_of e.tx).next x.numbers raised_to.ceilings)
        (sym rx_side)
        (subst (λ (i : Identity).
        AreAhead i (txsc.tx_side_of e.tx).next (rxsc.rx_side_of e.rx).numbers raised_to.ceilings) (sym same_parts.0)
        (raise-ahead e.tx e.rx (standing_in e.store) kept.channels (kept-ahead e kept) work.raise work.within))))

    pub raised-rest : IsAtRest raised
    raised-rest = record { store = done.idle; reserving = refl; under_way = λ going. work.under_way }

    pub raised-kept : IsSoundEndpoint raised
    raised-kept = record {
      identity = subst (λ (x : Standing). IsIdentity x.identity) (sym done.stands)
          (subst IsIdentity (sym same_parts.0) kept.identity);
      channels = channels;
      within = ahead-within tx rx (standing_in s) channels raised_ahead;
      few = kept.few;
      tickets = kept.tickets;
      work = inl raised-rest;
    }

    pub raised-state : (logs : Logs) → state_of raised logs ≡ state_of e logs
    raised-state logs = λ i. record {
      edition = this_edition;
      identity = (ap (λ (x : Standing). x.identity) done.stands ∙ same_parts.0) i;
      config = (ap (λ (x : Standing). x.config) done.stands ∙ same_parts.1) i;
      next = (tx_side i).next;
      numbers = (rx_side i).numbers;
      logs = logs;
      stopped = (done.running ∙ sym work.running) i;
      under_way = e.under_way;
      waiting = e.waiting;
      tickets = e.tickets;
    }

    pub raised-moments : IsHonest (disk_in disk_of raised) → IsBacked disk_of e → (logs : Logs)
        → Leaves (disk_in disk_of e) (disk_in disk_of raised) (FitsState (state_of e logs) (disk_in disk_of e))
    raised-moments honest backed logs =
        fits-moments e kept disk_of (disk_in disk_of raised) logs raised_to backed.size work.leads
        (done.any_moment honest (backed.stored work.running))

    pub raised-backed : IsHonest (disk_in disk_of raised) → IsBacked disk_of e → IsBacked disk_of raised
    raised-backed honest backed =
        kept-backed raised raised-kept disk_of
        (subst (λ (n : ℕ). least_sectors ≤ n) (sym done.works.sectors) backed.size)
        (done.stored honest (backed.stored work.running))

  -- or a device call failed
  module _ (s : store.StoreValue D) (cut : IsCut disk_of e.store raised_to s) where
    abbrev pub given_up : EndpointValue D
    given_up = record e { store = s; reserving = None }

    pub given_up-kept : IsSoundEndpoint given_up
    given_up-kept = kept-held e given_up kept cut.stands kept.few kept.tickets
        (inl (record { store = cut.idle; reserving = refl; under_way = λ going. work.under_way }))

    pub given_up-state : (logs : Logs) → state_of given_up logs ≡ state_after_fault (state_of e logs)
    given_up-state logs = λ i. record {
      edition = this_edition;
      identity = (cut.stands i).identity;
      config = (cut.stands i).config;
      next = (txsc.tx_side_of e.tx).next;
      numbers = (rxsc.rx_side_of e.rx).numbers;
      logs = logs;
      stopped = cut.stopped i;
      under_way = e.under_way;
      waiting = e.waiting;
      tickets = e.tickets;
    }

    pub given_up-moments : IsHonest (disk_in disk_of given_up) → IsBacked disk_of e → (logs : Logs)
        → Leaves (disk_in disk_of e) (disk_in disk_of given_up) (FitsState (state_of e logs) (disk_in disk_of e))
    given_up-moments honest backed logs =
        fits-moments e kept disk_of (disk_in disk_of given_up) logs raised_to backed.size work.leads
        (cut.any_moment honest (backed.stored work.running))

    pub given_up-backed : IsHonest (disk_in disk_of given_up) → IsBacked disk_of e → IsBacked disk_of given_up
    given_up-backed honest backed =
        cut-backed e kept disk_of given_up cut.stopped given_up-state raised_to
        (subst (λ (n : ℕ). least_sectors ≤ n) (sym cut.works.sectors) backed.size) work.leads
        (cut.any_moment honest (backed.stored work.running))

-- ---- which reservation is under way

module _ {D : Type 0} (e : EndpointValue D) where
  pub which-reserving : (raise : Raise) → e.reserving ≡ Some raise → IsAtRest e ⊎ IsReserving e
      → (work : IsReserving e) × (work.raise ≡ raise)
  which-reserving raise is (inl rest) = absurd (let none = sym rest.reserving ∙ is in cc)
  which-reserving raise is (inr work) = (work, some_is work.raise raise (sym work.reserving ∙ is))

  pub none-reserving : e.reserving ≡ None → IsAtRest e ⊎ IsReserving e → IsAtRest e
  none-reserving none (inl rest) = rest
  none-reserving none (inr work) = absurd (let some = sym work.reserving ∙ none in cc)

  -- the channels may follow
  pub may-lift : (kept : IsSoundEndpoint e) (work : IsReserving e) (raise : Raise) → work.raise ≡ raise → (s : Standing)
      → s ≡ standing_with_raise (standing_in e.store) work.raise
      → (before : Standing) × AreChannels e.tx e.rx before × IsRaiseWithin e.tx e.rx before.identity raise
      × (s ≡ standing_with_raise before raise)
  may-lift kept work raise is s done = (
    standing_in e.store,
    kept.channels,
    subst (λ (r : Raise). IsRaiseWithin e.tx e.rx (standing_in e.store).identity r) is work.within,
    done ∙ ap (λ (r : Raise). standing_with_raise (standing_in e.store) r) is,
  )

-- ---- to the end

module _ {D : Type 0} (disk_of : D → disk.Disk) (e : EndpointValue D) (kept : IsSoundEndpoint e) where
  -- none is under way
  pub none-ends : e.reserving ≡ None → IsAtRest e → ReservationEnds disk_of e (Ok tt) e
  none-ends none rest = record {
    reserves = record {
      step = λ logs. refl;
      idle = rest.store;
      works = Works-start (disk_in disk_of e);
      fails = refl;
      any_moment =
          λ honest backed logs. Leaves-start (disk_in disk_of e) (FitsState (state_of e logs) (disk_in disk_of e))
          (λ image left. backed.fits logs image left);
      backed = λ honest backed. backed;
      limited = tt;
      tx_counters = refl;
      rx_counters = refl;
      channel_counters = refl;
    };
    done = ap (λ (o : Option Raise). standing_with_reserved (standing_in e.store) o) (sym none);
    free = none;
    fault = tt;
    same = tt;
    still = λ idle. refl;
    slots = sym (ap (λ (h : UnderWay). store.slots_with e.store h) rest.store);
    generation = sym (ap (λ (h : UnderWay). store.generation_with e.store h) rest.store);
    most = omega arith;
  }

  module _ (running : is_stopped e ≡ false) (work : IsReserving e) (s : store.StoreValue D) where
    abbrev reserved : standing_with_reserved (standing_in e.store) e.reserving
        ≡ standing_with_raise (standing_in e.store) work.raise
    reserved = ap (λ (o : Option Raise). standing_with_reserved (standing_in e.store) o) work.reserving

    -- it is done
    pub finished-ends : Finishes disk_of e.store (Ok tt) s → (tx : Tx) (rx : rxsc.RxValue)
        → AreChannels tx rx (standing_in s)
        → txsc.tx_side_of tx ≡ txsc.tx_side_of e.tx → rxsc.rx_side_of rx ≡ rxsc.rx_side_of e.rx
        → txsc.counters_of tx ≡ txsc.counters_of e.tx → rxsc.counters_of rx ≡ rxsc.counters_of e.rx
        → rxsc.channel_counters_of rx ≡ rxsc.channel_counters_of e.rx
        → ReservationEnds disk_of e (Ok tt) (record e { store = s; tx = tx; rx = rx; reserving = None })
    finished-ends finishes tx rx channels tx_side rx_side tx_counters rx_counters channel_counters =
        let done = finish-done disk_of e.store (raised_to disk_of e kept work) work.leads s running finishes in
        record {
          reserves = record {
            step = raised-state disk_of e kept work s done tx rx e.turn channels tx_side rx_side;
            idle = done.idle;
            works = done.works;
            fails = finishes.work.fails;
            any_moment = raised-moments disk_of e kept work s done tx rx e.turn channels tx_side rx_side;
            backed = raised-backed disk_of e kept work s done tx rx e.turn channels tx_side rx_side;
            limited = tt;
            tx_counters = tx_counters;
            rx_counters = rx_counters;
            channel_counters = channel_counters;
          };
          done = done.stands ∙ sym reserved;
          free = refl;
          fault = tt;
          same = tt;
          still = λ idle. absurd (work.busy idle);
          slots = finishes.slots;
          generation = finishes.generation;
          most = finishes.most;
        }

    -- or cut short
    cut-ends : Finishes disk_of e.store (Err fault.Disk) s
        → ReservationEnds disk_of e (Err refill.Disk) (record e { store = s; reserving = None })
    cut-ends finishes =
        let cut = finish-cut disk_of e.store (raised_to disk_of e kept work) work.leads s running finishes in
        record {
          reserves = record {
            step = given_up-state disk_of e kept work s cut;
            idle = cut.idle;
            works = cut.works;
            fails = finishes.work.fails;
            any_moment = given_up-moments disk_of e kept work s cut;
            backed = given_up-backed disk_of e kept work s cut;
            limited = tt;
            tx_counters = refl;
            rx_counters = refl;
            channel_counters = refl;
          };
          done = tt;
          free = tt;
          fault = (refl, (work.raise, work.reserving));
          same = cut.stands;
          still = λ idle. absurd (work.busy idle);
          slots = tt;
          generation = tt;
          most = finishes.most;
        }

    is_disk : (at : JournalFault) → Finishes disk_of e.store (Err at) s → at ≡ fault.Disk
    is_disk at finishes = elim finishes.names [
      | inl is ↦ absurd (not_stopped (is_stopped e) (finishes.stopped.0 is) running)
      | inr is ↦ err_same at is
    ]

    pub faulted-ends : (at : JournalFault) → Finishes disk_of e.store (Err at) s
        → ReservationEnds disk_of e (Err (refill_fault_of at)) (record e { store = s; reserving = None })
    faulted-ends at finishes =
        let is = is_disk at finishes in
        subst (λ (x : JournalFault).
        ReservationEnds disk_of e (Err (refill_fault_of x)) (record e { store = s; reserving = None })) (sym is)
        (cut-ends (subst (λ (x : JournalFault). Finishes disk_of e.store (Err x) s) is finishes))

    pub faulted-kept : (at : JournalFault) → Finishes disk_of e.store (Err at) s
        → IsSoundEndpoint (record e { store = s; reserving = None })
    faulted-kept at finishes =
        let is = is_disk at finishes in
        given_up-kept disk_of e kept work s
        (finish-cut disk_of e.store (raised_to disk_of e kept work) work.leads s running
        (subst (λ (x : JournalFault). Finishes disk_of e.store (Err x) s) is finishes))
