-- What a rest makes of an endpoint: its ceilings are its next packet numbers, or it is refused.
use Rattle.std.proofs.Common.{◌≡◌, ◌⊎◌, ◌≤◌, ◌∙◌, inl, inr, ℕ, Bool, true, false, List, [], Option, Some, None, is_some}
use Rattle.std.proofs.Common.{Result}
use Rattle.std.proofs.Common.{Ok, Err, IsErrOf, refl, sym, ap, subst, arith}
use Rattle.std.specs.Option.{option_map}
use Rattle.macs_config.specs.Config.{this_edition}
use Rattle.macs_config.specs.Identity.{IsIdentity}
use Rattle.macs_disk.specs.Disk.{Disk, IsHonest, MayLeave}
use Rattle.macs_disk.specs.Runs.{Leaves}
use Rattle.macs_disk.specs.States.{Image}
use Rattle.macs_disk.proofs.Moments.{FailsOnce-before, Leaves-join, Leaves-now, Leaves-start, Leaves-weaker, Works-on}
use Rattle.macs_disk.proofs.Moments.{Works-start}
use Rattle.macs_journal.specs.Areas.{least_sectors}
use Rattle.macs_journal.specs.Compacted.{last_generation}
use Rattle.macs_journal.specs.declared.fault.JournalFault.{JournalFault}
use Rattle.macs_journal.specs.declared.fault.JournalFault.TheVariants as fault
use Rattle.macs_txsc.specs.Transmit.{TxSide}
use Rattle.macs_txsc.specs.Value as txsc
use Rattle.macs_txsc.specs.declared.channel.Tx.{Tx}
use Rattle.macs_rxsc.specs.Receive.{Numbers, RxSide, first_numbers}
use Rattle.macs_rxsc.specs.Value as rxsc
use Rattle.macs_store.specs.Found.{StandingIs, StandsForEither}
use Rattle.macs_store.specs.Resting.{Rests as StoreRests, standing_with_ceilings}
use Rattle.macs_store.specs.Standing.{Ceilings, IsStanding, Standing}
use Rattle.macs_store.specs.Table.{standing_of}
use Rattle.macs_store.specs.Value.{IsIdle, StoreValue, generation, standing_in}
use Rattle.macs_store.specs.Value as store
use Rattle.macs_store.proofs.Keeping.{stored-image}
use Rattle.macs_store.proofs.OneStanding.{one_standing}
use Rattle.macs_endpoint.specs.AtRest.{IsLevel, OpensAt, RestsAll, SkipsNone}
use Rattle.macs_endpoint.specs.Calls.{Fails, IsCall}
use Rattle.macs_endpoint.specs.Ceilings.{Raise, RaiseRx, RaiseTx, StandsRested, next_ceilings, standing_with_reserved}
use Rattle.macs_endpoint.specs.Faults.{rest_fault_of}
use Rattle.macs_endpoint.specs.Parts.{next_of}
use Rattle.macs_endpoint.specs.Reserving.{FitsState, ReservationEnds, ReserveStep}
use Rattle.macs_endpoint.specs.Restart.{Fits, opened_state, rx_limit}
use Rattle.macs_endpoint.specs.State.{Logs, Rested, Rests, State, no_logs, rx_side_with, state_after_fault}
use Rattle.macs_endpoint.specs.State.{tx_side_with}
use Rattle.macs_endpoint.specs.Step.{as_refill}
use Rattle.macs_endpoint.specs.Value.{AreChannels, EndpointValue, IsAtRest, IsBacked, IsRxWithin, IsSoundEndpoint}
use Rattle.macs_endpoint.specs.Value.{IsTxWithin, disk_in, is_stopped, state_of}
use Rattle.macs_endpoint.specs.declared.fault.RefillFault.TheVariants as refill
use Rattle.macs_endpoint.specs.declared.fault.RestFault.{RestFault}
use Rattle.macs_endpoint.specs.declared.fault.RestFault.TheVariants as rest
use Rattle.macs_endpoint.proofs.Ended.{kept-held, not_stopped}
use Rattle.macs_endpoint.proofs.Fitting.{AreAhead, ahead-within, fits-ahead, kept-ahead}
use Rattle.macs_endpoint.proofs.Working.{at-rest, kept-backed}

-- what the store answers
abbrev well : Result (Unit {0}) JournalFault
well = Ok tt

abbrev refused : JournalFault → Result (Unit {0}) JournalFault
refused at = Err at

-- ---- the next numbers as ceilings

tx_at : (block : ℕ) (n c : Option ℕ) → IsTxWithin block n c → IsTxWithin block n n
tx_at block None None within = tt
tx_at block None (Some ceiling) within = absurd within
tx_at block (Some next) None within = absurd within
tx_at block (Some next) (Some ceiling) within =
    let below = within.1 in
    let most = within.3 in
    (within.0, omega arith, omega arith, omega (arith, below, most))

limit_at : (block next : ℕ) (seen : Option ℕ) → next ≤ rx_limit block next seen
limit_at block next None = omega arith
limit_at block next (Some seen) = omega arith

rx_at : (block : ℕ) (n : Option Numbers) (c : Option ℕ) → IsRxWithin block n c
    → IsRxWithin block n (option_map (λ (n : Numbers). n.next) n)
rx_at block None None within = tt
rx_at block None (Some ceiling) within = absurd within
rx_at block (Some n) None within = absurd within
rx_at block (Some n) (Some ceiling) within = (omega arith, limit_at block n.next n.seen)

tx_some : (block : ℕ) (n c : Option ℕ) → IsTxWithin block n c → is_some n ≡ is_some c
tx_some block None None within = refl
tx_some block None (Some ceiling) within = absurd within
tx_some block (Some next) None within = absurd within
tx_some block (Some next) (Some ceiling) within = refl

rx_some : (block : ℕ) (n : Option Numbers) (c : Option ℕ) → IsRxWithin block n c
    → is_some (option_map (λ (n : Numbers). n.next) n) ≡ is_some c
rx_some block None None within = refl
rx_some block None (Some ceiling) within = absurd within
rx_some block (Some n) None within = absurd within
rx_some block (Some n) (Some ceiling) within = refl

module _ {D : Type 0} (e : EndpointValue D) (kept : IsSoundEndpoint e) where
  abbrev now : Standing
  now = standing_in e.store

  abbrev numbers : Ceilings
  numbers = next_of e.tx e.rx

  -- the standing with these ceilings
  abbrev at_next : Standing
  at_next = standing_with_ceilings now numbers

  ahead : AreAhead now.identity (txsc.tx_side_of e.tx).next (rxsc.rx_side_of e.rx).numbers numbers
  ahead =
      let are = kept-ahead e kept in
      record {
        tx_ahead =
            λ an. tx_at now.identity.tx_block ((txsc.tx_side_of e.tx).next an) (now.ceilings.tx an) (are.tx_ahead an);
        rx_ahead =
            λ sci an. rx_at now.identity.rx_block ((rxsc.rx_side_of e.rx).numbers sci an) (now.ceilings.rx sci an)
            (are.rx_ahead sci an);
        few = are.few;
      }

  -- they may be ceilings
  pub next-stands : IsStanding now → IsStanding (standing_with_ceilings now numbers)
  next-stands stands =
      let are = kept-ahead e kept in
      record {
        tx = λ an. tx_some now.identity.tx_block ((txsc.tx_side_of e.tx).next an) (now.ceilings.tx an) (are.tx_ahead an)
            ∙ stands.tx an;
        rx = λ sci an. rx_some now.identity.rx_block ((rxsc.rx_side_of e.rx).numbers sci an) (now.ceilings.rx sci an)
            (are.rx_ahead sci an) ∙ stands.rx sci an;
      }

  -- either of the two standings fits
  either : (sectors : ℕ) (image : Image) → least_sectors ≤ sectors → (logs : Logs) (stopped : Bool)
      → StandsForEither now (at_next) image
      → Fits this_edition sectors image (record (state_of e logs) { stopped = stopped })
  either sectors image size logs stopped left = elim left.0 [
    | inl finds ↦ fits-ahead sectors image size (record (state_of e logs) { stopped = stopped }) now.ceilings
        (kept-ahead e kept) finds
    | inr finds ↦ fits-ahead sectors image size (record (state_of e logs) { stopped = stopped }) numbers ahead finds
  ]

  module _ (disk_of : D → Disk) (running : is_stopped e ≡ false) (idle : IsIdle e.store) (s : StoreValue D) where
    abbrev resting : IsAtRest e
    resting = at-rest e kept idle

    moments : (result : Result (Unit {0}) JournalFault) → StoreRests disk_of e.store numbers result s
        → IsHonest (store.disk_in disk_of s)
        → IsBacked disk_of e → (logs : Logs)
        → Leaves (disk_in disk_of e) (store.disk_in disk_of s) (FitsState (state_of e logs) (disk_in disk_of e))
    moments result rests honest backed logs =
        Leaves-weaker (disk_in disk_of e) (store.disk_in disk_of s) (StandsForEither now (at_next))
        (FitsState (state_of e logs) (disk_in disk_of e))
        (λ image left. either (disk_in disk_of e).sectors image backed.size logs (is_stopped e) left)
        (rests.any_moment honest (backed.stored running))

    -- ---- it rests

    module _ (rests : StoreRests disk_of e.store numbers (Ok tt) s) (tx : Tx) (rx : rxsc.RxValue)
        (tx_side : txsc.tx_side_of tx ≡ txsc.tx_side_of e.tx) (rx_side : rxsc.rx_side_of rx ≡ rxsc.rx_side_of e.rx)
        (tx_ceilings : txsc.ceilings_of tx ≡ numbers.tx) (rx_ceilings : rxsc.ceilings_of rx ≡ numbers.rx) where
      abbrev pub rested : EndpointValue D
      rested = record e { store = s; tx = tx; rx = rx }

      made : AreChannels tx rx (at_next)
      made = record {
        tx_is = tx_side ∙ kept.channels.tx_is
            ∙ ap (λ (n : ℕ → Option ℕ). tx_side_with now.identity now.config n)
            (sym (ap (λ (x : TxSide). x.next) tx_side));
        rx_is = rx_side ∙ kept.channels.rx_is
            ∙ ap (λ (n : List ℕ → ℕ → Option Numbers). rx_side_with now.config n)
            (sym (ap (λ (x : RxSide). x.numbers) rx_side));
        tx_ceilings = tx_ceilings;
        rx_ceilings = rx_ceilings;
      }

      channels : AreChannels tx rx (standing_in s)
      channels = subst (λ (x : Standing). AreChannels tx rx x) (sym rests.done) made

      rested_ahead : AreAhead (standing_in s).identity (txsc.tx_side_of tx).next (rxsc.rx_side_of rx).numbers
          (standing_in s).ceilings
      rested_ahead =
          subst
          (λ (x : Standing). AreAhead x.identity (txsc.tx_side_of tx).next (rxsc.rx_side_of rx).numbers x.ceilings)
          (sym rests.done)
          (subst (λ (x : TxSide). AreAhead now.identity x.next (rxsc.rx_side_of rx).numbers numbers) (sym tx_side)
          (subst (λ (x : RxSide). AreAhead now.identity (txsc.tx_side_of e.tx).next x.numbers numbers) (sym rx_side)
          ahead))

      pub rested-kept : IsSoundEndpoint rested
      rested-kept = record {
        identity = subst (λ (x : Standing). IsIdentity x.identity) (sym rests.done) kept.identity;
        channels = channels;
        within = ahead-within tx rx (standing_in s) channels rested_ahead;
        few = kept.few;
        tickets = kept.tickets;
        work = inl (record {
          store = rests.idle;
          reserving = resting.reserving;
          under_way =
              λ going. resting.under_way running;
        });
      }

      rested_state : (logs : Logs) → state_of rested logs ≡ state_of e logs
      rested_state logs = λ i. record {
        edition = this_edition;
        identity = (rests.done i).identity;
        config = (rests.done i).config;
        next = (tx_side i).next;
        numbers = (rx_side i).numbers;
        logs = logs;
        stopped = (rests.running ∙ sym running) i;
        under_way = e.under_way;
        waiting = e.waiting;
        tickets = e.tickets;
      }

      size : IsBacked disk_of e → least_sectors ≤ (store.disk_in disk_of s).sectors
      size backed = subst (λ (n : ℕ). least_sectors ≤ n) (sym rests.work.works.sectors) backed.size

      pub rested-well : txsc.counters_of tx ≡ txsc.counters_of e.tx → rxsc.counters_of rx ≡ rxsc.counters_of e.rx
          → rxsc.channel_counters_of rx ≡ rxsc.channel_counters_of e.rx → RestsAll disk_of e (Ok tt) rested
      rested-well tx_counters rx_counters channel_counters = record {
        step = rested_state;
        idle = rests.idle;
        ceilings = rests.done;
        spent = λ other. absurd cc;
        still = λ other. absurd cc;
        works = rests.work.works;
        fails = rests.work.fails;
        any_moment = moments (Ok tt) rests;
        backed = λ honest backed.
            kept-backed rested rested-kept disk_of (size backed) (rests.stored honest (backed.stored running));
        tx_counters = tx_counters;
        rx_counters = rx_counters;
        channel_counters = channel_counters;
      }

    -- ---- or it does not

    abbrev pub unrested : EndpointValue D
    unrested = record e { store = s }

    module _ (at : JournalFault) (rests : StoreRests disk_of e.store numbers (Err at) s) where
      stands_same : (IsErrOf {T = Unit {0}} (Err at) fault.Disk ⊎ (s ≡ e.store)) → standing_in s ≡ now
      stands_same (inl failed) = ap standing_of (rests.halted failed).1
      stands_same (inr same) = ap (λ (x : StoreValue D). standing_in x) same

      pub unrested-kept : IsSoundEndpoint unrested
      unrested-kept = kept-held e unrested kept (stands_same rests.same) kept.few kept.tickets
          (inl (record {
            store = rests.idle;
            reserving = resting.reserving;
            under_way =
                λ going. resting.under_way running;
          }))

    module _ (rests : StoreRests disk_of e.store numbers (Err fault.Disk) s) where
      cut_state : (logs : Logs) → state_of unrested logs ≡ state_after_fault (state_of e logs)
      cut_state logs = λ i. record {
        edition = this_edition;
        identity = ((rests.halted refl).1 i).config.identity;
        config = (standing_of ((rests.halted refl).1 i)).config;
        next = (txsc.tx_side_of e.tx).next;
        numbers = (rxsc.rx_side_of e.rx).numbers;
        logs = logs;
        stopped = (rests.halted refl).0 i;
        under_way = e.under_way;
        waiting = e.waiting;
        tickets = e.tickets;
      }

      cut_backed : IsHonest (disk_in disk_of unrested) → IsBacked disk_of e → IsBacked disk_of unrested
      cut_backed honest backed =
          let large = subst (λ (n : ℕ). least_sectors ≤ n) (sym rests.work.works.sectors) backed.size in
          let leaves = rests.any_moment honest (backed.stored running) in
          let left_now = Leaves-now (disk_in disk_of e) (disk_in disk_of unrested)
          (StandsForEither now (at_next)) leaves in
          record {
            size = large;
            stored = λ runs. absurd (not_stopped (is_stopped unrested) (rests.halted refl).0 runs);
            fits = λ logs image left.
                subst (λ (x : State). Fits this_edition (disk_in disk_of unrested).sectors image x)
                (sym (cut_state logs))
                (either (disk_in disk_of unrested).sectors image large logs true (left_now image left));
            form = λ image left. (left_now image left).1;
          }

      pub rest-cut : RestsAll disk_of e (Err rest.Disk) unrested
      rest-cut = record {
        step = cut_state;
        idle = rests.idle;
        ceilings = inl (ap standing_of (rests.halted refl).1);
        spent = λ other. absurd cc;
        still = λ other. absurd cc;
        works = rests.work.works;
        fails = rests.work.fails;
        any_moment = moments (Err fault.Disk) rests;
        backed = cut_backed;
        tx_counters = refl;
        rx_counters = refl;
        channel_counters = refl;
      }

    module _ (rests : StoreRests disk_of e.store numbers (Err fault.GenerationsSpent) s) where
      unchanged : (IsErrOf {T = Unit {0}} (Err fault.GenerationsSpent) fault.Disk ⊎ (s ≡ e.store)) → s ≡ e.store
      unchanged (inl failed) = absurd cc
      unchanged (inr same) = same

      as_it_was : RestsAll disk_of e (Err rest.GenerationsSpent) e
      as_it_was = record {
        step = λ logs. refl;
        idle = idle;
        ceilings = sym (ap (λ (r : Option Raise). standing_with_reserved now r) resting.reserving);
        spent = λ is. (rests.spent.0 refl).1;
        still = λ is was. refl;
        works = Works-start (disk_in disk_of e);
        fails = refl;
        any_moment =
            λ honest backed logs. Leaves-start (disk_in disk_of e) (FitsState (state_of e logs) (disk_in disk_of e))
            (λ image left. backed.fits logs image left);
        backed = λ honest backed. backed;
        tx_counters = refl;
        rx_counters = refl;
        channel_counters = refl;
      }

      rest-spent : RestsAll disk_of e (Err rest.GenerationsSpent) unrested
      rest-spent = subst (λ (x : StoreValue D). RestsAll disk_of e (Err rest.GenerationsSpent) (record e { store = x }))
          (sym (unchanged rests.same)) as_it_was

    same_fault : (a b : JournalFault) → IsErrOf {T = Unit {0}} (Err a) b → a ≡ b
    same_fault a b is = cc

    -- whatever the fault is
    pub not-rested : (at : JournalFault) → StoreRests disk_of e.store numbers (Err at) s
        → RestsAll disk_of e (Err (rest_fault_of at)) unrested
    not-rested at rests = elim rests.names [
      | inl is ↦ absurd (not_stopped (is_stopped e) (rests.stopped.0 is) running)
      | inr (inl is) ↦ subst (λ (x : JournalFault). RestsAll disk_of e (Err (rest_fault_of x)) unrested)
          (sym (same_fault at fault.GenerationsSpent is))
          (rest-spent (subst (λ (x : JournalFault). StoreRests disk_of e.store numbers (Err x) s)
          (same_fault at fault.GenerationsSpent is) rests))
      | inr (inr is) ↦ subst (λ (x : JournalFault). RestsAll disk_of e (Err (rest_fault_of x)) unrested)
          (sym (same_fault at fault.Disk is))
          (rest-cut (subst (λ (x : JournalFault). StoreRests disk_of e.store numbers (Err x) s)
          (same_fault at fault.Disk is) rests))
    ]

-- ---- after a reservation

-- other ceilings than those raised
other_ceilings : (s : Standing) (reserving : Option Raise) (ceilings : Ceilings)
    → standing_with_ceilings (standing_with_reserved s reserving) ceilings ≡ standing_with_ceilings s ceilings
other_ceilings s None ceilings = refl
other_ceilings s (Some (RaiseTx an)) ceilings = refl
other_ceilings s (Some (RaiseRx need)) ceilings = refl

module _ {D : Type 0} (disk_of : D → Disk) (old mid : EndpointValue D) where
  -- that failed
  pub rest-cut-before : ReservationEnds disk_of old (Err refill.Disk) mid → RestsAll disk_of old (Err rest.Disk) mid
  rest-cut-before ends =
      let first = ends.reserves in
      record {
        step = first.step;
        idle = first.idle;
        ceilings = inl ends.same;
        spent = λ other. absurd cc;
        still = λ other. absurd cc;
        works = first.works;
        fails = first.fails;
        any_moment = first.any_moment;
        backed = first.backed;
        tx_counters = first.tx_counters;
        rx_counters = first.rx_counters;
        channel_counters = first.channel_counters;
      }

  module _ (new : EndpointValue D) (ends : ReservationEnds disk_of old (Ok tt) mid) where
    fails_on : (result : Result (Unit {0}) RestFault)
        → Fails (disk_in disk_of mid) (disk_in disk_of new) (Rested result)
        → Fails (disk_in disk_of old) (disk_in disk_of new) (Rested result)
    fails_on (Ok done) fails = fails ∙ ends.reserves.fails
    fails_on (Err rest.Stopped) fails = fails ∙ ends.reserves.fails
    fails_on (Err rest.Busy) fails = fails ∙ ends.reserves.fails
    fails_on (Err rest.GenerationsSpent) fails = fails ∙ ends.reserves.fails
    fails_on (Err rest.Disk) fails =
        FailsOnce-before (disk_in disk_of old) (disk_in disk_of mid) (disk_in disk_of new) ends.reserves.fails fails

    now_reserved : standing_in mid.store ≡ standing_with_reserved (standing_in old.store) old.reserving
    now_reserved = ends.done

    none_left : standing_with_reserved (standing_in mid.store) mid.reserving ≡ standing_in mid.store
    none_left = ap (λ (r : Option Raise). standing_with_reserved (standing_in mid.store) r) ends.free

    ceilings_on : (result : Result (Unit {0}) RestFault)
        → ReserveStep (state_of mid no_logs) (as_refill result) (state_of new no_logs)
        → StandsRested (state_of mid no_logs) (standing_in mid.store) mid.reserving result (standing_in new.store)
        → StandsRested (state_of old no_logs) (standing_in old.store) old.reserving result (standing_in new.store)
    ceilings_on (Ok done) step is =
        is ∙ (λ i. standing_with_ceilings (now_reserved i) (next_ceilings (ends.reserves.step no_logs i)))
        ∙ other_ceilings (standing_in old.store) old.reserving (next_ceilings (state_of old no_logs))
    ceilings_on (Err rest.GenerationsSpent) step is = is ∙ none_left ∙ now_reserved
    ceilings_on (Err rest.Disk) step is = elim is [
      | inl same ↦ inr (same ∙ now_reserved)
      | inr reserved ↦ inr (reserved ∙ none_left ∙ now_reserved)
    ]
    ceilings_on (Err rest.Stopped) step is = absurd step
    ceilings_on (Err rest.Busy) step is = absurd step

    -- that is done
    pub rests-after : (result : Result (Unit {0}) RestFault) → RestsAll disk_of mid result new
        → RestsAll disk_of old result new
    rests-after result second =
        let first = ends.reserves in
        record {
          step = λ logs.
              subst (λ (s : State). ReserveStep s (as_refill result) (state_of new logs)) (first.step logs)
              (second.step logs);
          idle = second.idle;
          ceilings = ceilings_on result (second.step no_logs) second.ceilings;
          spent = second.spent;
          still = λ is was.
              let same = ends.still was in
              second.still is (subst (λ (x : EndpointValue D). IsIdle x.store) (sym same) was)
              ∙ ap (λ (x : EndpointValue D). x.store) same;
          works = Works-on (disk_in disk_of old) (disk_in disk_of mid) (disk_in disk_of new) first.works second.works;
          fails = fails_on result second.fails;
          any_moment = λ honest backed logs.
              let before : IsHonest (disk_in disk_of mid) = sym second.works.honest ∙ honest in
              let sectors = (disk_in disk_of old).sectors in
              Leaves-join (disk_in disk_of old) (disk_in disk_of mid) (disk_in disk_of new)
              (FitsState (state_of old logs) (disk_in disk_of old))
              (FitsState (state_of mid logs) (disk_in disk_of mid))
              (FitsState (state_of old logs) (disk_in disk_of old))
              (first.any_moment before backed logs) (second.any_moment honest (first.backed before backed) logs)
              (λ image fits. fits)
              (λ image fits. subst (λ (s : State). Fits this_edition sectors image s) (first.step logs)
              (subst (λ (n : ℕ). Fits this_edition n image (state_of mid logs)) first.works.sectors fits));
          backed = λ honest backed. second.backed honest (first.backed (sym second.works.honest ∙ honest) backed);
          tx_counters = second.tx_counters ∙ first.tx_counters;
          rx_counters = second.rx_counters ∙ first.rx_counters;
          channel_counters = second.channel_counters ∙ first.channel_counters;
        }

-- ---- what an opening finds after it

module _ {D : Type 0} (disk_of : D → Disk) where
  same_ceilings : (old new : EndpointValue D) (after : Logs) → state_of new after ≡ state_of old no_logs
      → next_ceilings (state_of old no_logs) ≡ next_ceilings (state_of new no_logs)
  same_ceilings old new after is = sym (ap next_ceilings is)

  pub level-after : (old new : EndpointValue D) → IsCall disk_of old Rests (Rested (Ok tt)) new → IsLevel new
  level-after old new call =
      let one = call.behaves.step no_logs in
      record {
        idle = call.behaves.ends_work;
        ceilings = ap (λ (x : Standing). x.ceilings) call.behaves.ceilings ∙ elim one.1 [
          | inl stopped ↦ absurd stopped.1
          | inr rests ↦ same_ceilings old new one.0 rests.1.1
        ];
      }

  pub level-opens : (e : EndpointValue D) (logs : Logs) (image : Image) → IsLevel e → is_stopped e ≡ false
      → IsBacked disk_of e → MayLeave (disk_in disk_of e) image
      → OpensAt (disk_in disk_of e).sectors image (state_of e logs)
  level-opens e logs image level running backed left = record {
    found = standing_in e.store;
    is_found = (backed.size, stored-image disk_of e.store level.idle (backed.stored running) image left);
    identity = refl;
    config = refl;
    ceilings = level.ceilings;
  }

once_more : (n : Option Numbers) (c : Option ℕ) → c ≡ option_map (λ (n : Numbers). n.next) n
    → option_map first_numbers c ≡ option_map (λ (n : Numbers). first_numbers n.next) n
once_more None c is = ap (option_map first_numbers) is
once_more (Some n) c is = ap (option_map first_numbers) is

abbrev standing_ok : Standing → Result Standing JournalFault
standing_ok s = Ok s

ok_same : (a b : Standing) → standing_ok a ≡ standing_ok b → a ≡ b
ok_same a b is = cc

pub skips-none : (sectors : ℕ) (image : Image) (s : State) (found : Standing) (logs : Logs)
    → OpensAt sectors image s → StandingIs s.edition sectors image (Ok found) → SkipsNone s (opened_state found logs)
skips-none sectors image s found logs at is =
    let same : found ≡ at.found =
    ok_same found at.found (one_standing s.edition sectors image (Ok found) (Ok at.found) is at.is_found) in
    let ceilings : found.ceilings ≡ next_ceilings s = ap (λ (x : Standing). x.ceilings) same ∙ at.ceilings in
    record {
      identity = ap (λ (x : Standing). x.identity) same ∙ at.identity;
      config = ap (λ (x : Standing). x.config) same ∙ at.config;
      next = ap (λ (x : Ceilings). x.tx) ceilings;
      numbers = λ sci an. once_more (s.numbers sci an) (found.ceilings.rx sci an)
          (ap (λ (x : Ceilings). x.rx sci an) ceilings);
    }
