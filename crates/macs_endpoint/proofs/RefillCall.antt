-- A refill: raises one after another, and the call that they make.
use Rattle.std.proofs.Common.{◌≡◌, ◌<◌, ◌⊎◌, inl, inr, ℕ, true, false, [], IsErrOf, Option, Some, None, Result, Ok, Err}
use Rattle.std.proofs.Common.{refl, sym, ◌∙◌, ap, subst}
use Rattle.macs_config.specs.Config.{this_edition}
use Rattle.macs_config.specs.Identity.{IsIdentity}
use Rattle.macs_disk.specs.Disk.{IsHonest}
use Rattle.macs_disk.specs.Disk as disk
use Rattle.macs_disk.proofs.Moments.{FailsOnce-before, Leaves-join, Leaves-start, Leaves-weaker, Works-on, Works-start}
use Rattle.macs_store.specs.Keeps.{IsSpent}
use Rattle.macs_store.specs.Standing.{Standing}
use Rattle.macs_txsc.specs.Transmit.{TxSide}
use Rattle.macs_rxsc.specs.Receive.{RxSide}
use Rattle.macs_store.specs.Value.{IsIdle, standing_in}
use Rattle.macs_endpoint.specs.Calls.{Fails, IsCall, EndsWork}
use Rattle.macs_endpoint.specs.Ceilings.{IsRefilled, Raise, StandsRefilled, first_raise, standing_with_raise}
use Rattle.macs_endpoint.specs.Ceilings.{standing_with_reserved}
use Rattle.macs_endpoint.specs.Limits.{IsLimited, IsStill}
use Rattle.macs_endpoint.specs.Advancing.{turn_after, turn_after_refill}
use Rattle.macs_endpoint.specs.Needed.{raise_in}
use Rattle.macs_endpoint.specs.Reserving.{FitsState, Raised, ReservationEnds, ReserveStep, Reserves, ReservesAll}
use Rattle.macs_endpoint.specs.Restart.{Fits, FitsCall}
use Rattle.macs_endpoint.specs.RefillCosts.{Spends}
use Rattle.macs_endpoint.specs.State.{Logs, Refilled, Refills, State, no_logs, rx_side, tx_side}
use Rattle.macs_endpoint.specs.Step.{RefillStep, Step}
use Rattle.macs_endpoint.specs.Value.{EndpointValue, IsBacked, IsSoundEndpoint, disk_in, is_stopped, state_of}
use Rattle.macs_endpoint.specs.declared.fault.RefillFault.{RefillFault}
use Rattle.macs_endpoint.specs.declared.fault.RefillFault.TheVariants as refill
use Rattle.macs_endpoint.specs.declared.turn.Turn.{Turn}
use Rattle.macs_endpoint.proofs.Alone.{alone-call}
use Rattle.macs_endpoint.proofs.Fitting.{kept-ahead}
use Rattle.macs_endpoint.proofs.Raises.{AreRaised, IsAhead, left, raise-less, raises-ahead, raises-parts}
use Rattle.macs_endpoint.proofs.RefillCosts.{HaveRaised, raised-in, raised-more, raised-not, spends-behind, spends-cut}

-- some ceilings were raised, each the first that was needed then, by the numbers of the first of these two
abbrev pub AreRaisedIn : {D : Type 0} → EndpointValue D → EndpointValue D → Type 0
AreRaisedIn old new = AreRaised (tx_side (state_of old no_logs)) (rx_side (state_of old no_logs))
    (standing_in old.store) (standing_in new.store)

-- a ceiling that is needed is not one that is not
pub needed-not : (raise : Raise) → Some raise ≡ None → ⊥
needed-not raise is = cc

module _ {D : Type 0} (disk_of : D → disk.Disk) where
  -- nothing is to be done
  pub reserves-none : (e : EndpointValue D) → IsIdle e.store → Reserves disk_of e (Ok tt) e
  reserves-none e idle = record {
    step = λ logs. refl;
    idle = idle;
    works = Works-start (disk_in disk_of e);
    fails = refl;
    any_moment =
        λ honest backed logs. Leaves-start (disk_in disk_of e) (FitsState (state_of e logs) (disk_in disk_of e))
        (λ image left. backed.fits logs image left);
    backed = λ honest backed. backed;
    limited = tt;
    tx_counters = refl;
    rx_counters = refl;
    channel_counters = refl;
  }

  fails_on : (old mid new : disk.Disk) (result : Result (Unit {0}) RefillFault) → mid.failures ≡ old.failures
      → Fails mid new (Refilled result) → Fails old new (Refilled result)
  fails_on old mid new (Ok done) steady fails = fails ∙ steady
  fails_on old mid new (Err refill.Stopped) steady fails = fails ∙ steady
  fails_on old mid new (Err refill.Busy) steady fails = fails ∙ steady
  fails_on old mid new (Err refill.GenerationsSpent) steady fails = fails ∙ steady
  fails_on old mid new (Err refill.Disk) steady fails = FailsOnce-before old mid new steady fails

  limited_on : (old mid new : EndpointValue D) (result : Result (Unit {0}) RefillFault)
      → IsLimited mid Refills (Refilled result) new
      → IsLimited old Refills (Refilled result) new
  limited_on old mid new (Ok done) limited = tt
  limited_on old mid new (Err refill.Stopped) limited = tt
  limited_on old mid new (Err refill.Busy) limited = tt
  limited_on old mid new (Err refill.GenerationsSpent) limited = limited
  limited_on old mid new (Err refill.Disk) limited = tt

  pub reserves-on : (old mid new : EndpointValue D) (result : Result (Unit {0}) RefillFault)
      → Reserves disk_of old (Ok tt) mid → Reserves disk_of mid result new
      → Reserves disk_of old result new
  reserves-on old mid new result first second = record {
    step = λ logs. subst (λ (s : State). ReserveStep s result (state_of new logs)) (first.step logs) (second.step logs);
    idle = second.idle;
    works = Works-on (disk_in disk_of old) (disk_in disk_of mid) (disk_in disk_of new) first.works second.works;
    fails = fails_on (disk_in disk_of old) (disk_in disk_of mid) (disk_in disk_of new) result first.fails second.fails;
    any_moment = λ honest backed logs.
        let before : IsHonest (disk_in disk_of mid) = sym second.works.honest ∙ honest in
        let sectors = (disk_in disk_of old).sectors in
        Leaves-join (disk_in disk_of old) (disk_in disk_of mid) (disk_in disk_of new)
        (FitsState (state_of old logs) (disk_in disk_of old)) (FitsState (state_of mid logs) (disk_in disk_of mid))
        (FitsState (state_of old logs) (disk_in disk_of old))
        (first.any_moment before backed logs) (second.any_moment honest (first.backed before backed) logs)
        (λ image fits. fits)
        (λ image fits. subst (λ (s : State). Fits this_edition sectors image s) (first.step logs)
        (subst (λ (n : ℕ). Fits this_edition n image (state_of mid logs)) first.works.sectors fits));
    backed = λ honest backed. second.backed honest (first.backed (sym second.works.honest ∙ honest) backed);
    limited = limited_on old mid new result second.limited;
    tx_counters = second.tx_counters ∙ first.tx_counters;
    rx_counters = second.rx_counters ∙ first.rx_counters;
    channel_counters = second.channel_counters ∙ first.channel_counters;
  }

  -- ---- a call

  unmoved : (e : EndpointValue D) (result : Result (Unit {0}) RefillFault)
      → ((logs : Logs) → Step (state_of e logs) Refills (Refilled result) (state_of e logs))
      → Fails (disk_in disk_of e) (disk_in disk_of e) (Refilled result)
      → StandsRefilled (tx_side (state_of e no_logs)) (rx_side (state_of e no_logs)) (standing_in e.store)
      e.reserving result (standing_in e.store)
      → IsLimited e Refills (Refilled result) e → IsStill e Refills (Refilled result) e
      → EndsWork Refills (Refilled result) e
      → e.turn ≡ turn_after e Refills (Refilled result)
      → IsCall disk_of e Refills (Refilled result) e
  unmoved e result step fails ceilings limited still ends_work turn =
      alone-call disk_of e e Refills (Refilled result) fails (λ backed. backed) (record {
        in_range = tt;
        step = λ logs. (logs, step logs);
        ceilings = ceilings;
        limited = limited;
        still = still;
        ends_work = ends_work;
        advances = tt;
        turn = turn;
        tx_counters = refl;
        rx_counters = refl;
        channel_counters = refl;
      })

  pub stopped-call : (e : EndpointValue D) → is_stopped e ≡ true
      → IsCall disk_of e Refills (Refilled (Err refill.Stopped)) e
  stopped-call e stopped = unmoved e (Err refill.Stopped) (λ logs. inl (stopped, tt, refl)) refl refl tt refl tt refl

  pub busy-call : (e : EndpointValue D) → is_stopped e ≡ false → ¬ (e.waiting ≡ [])
      → IsCall disk_of e Refills (Refilled (Err refill.Busy)) e
  busy-call e running waits =
      unmoved e (Err refill.Busy) (λ logs. inr (running, (waits, refl))) refl refl tt refl tt refl

  refill_step : (old new : State) (result : Result (Unit {0}) RefillFault) → old.waiting ≡ []
      → ReserveStep old result new → RefillStep old result new
  refill_step old new (Ok done) none step = (none, step)
  refill_step old new (Err refill.Stopped) none step = absurd step
  refill_step old new (Err refill.Busy) none step = absurd step
  refill_step old new (Err refill.GenerationsSpent) none step = (none, step)
  refill_step old new (Err refill.Disk) none step = (none, step)

  turn_by : (old new : EndpointValue D) (result : Result (Unit {0}) RefillFault)
      → ReserveStep (state_of old no_logs) result (state_of new no_logs)
      → turn_after_refill old.turn old.reserving ≡ turn_after old Refills (Refilled result)
  turn_by old new (Ok done) step = refl
  turn_by old new (Err refill.GenerationsSpent) step = refl
  turn_by old new (Err refill.Disk) step = refl
  turn_by old new (Err refill.Stopped) step = absurd step
  turn_by old new (Err refill.Busy) step = absurd step

  limited_by : (old new : EndpointValue D) (result : Result (Unit {0}) RefillFault)
      → IsLimited old Refills (Refilled result) new
      → IsLimited old Refills (Refilled result) (record new { turn = turn_after_refill old.turn old.reserving })
  limited_by old new (Ok done) limited = tt
  limited_by old new (Err refill.Stopped) limited = tt
  limited_by old new (Err refill.Busy) limited = tt
  limited_by old new (Err refill.GenerationsSpent) limited = limited
  limited_by old new (Err refill.Disk) limited = tt

  still_turned : (old new : EndpointValue D) (result : Result (Unit {0}) RefillFault)
      → ReserveStep (state_of old no_logs) result (state_of new no_logs)
      → (IsIdle old.store → (raise_in old ≡ None) ⊎ IsSpent old.store → new.store ≡ old.store)
      → IsStill old Refills (Refilled result) (record new { turn = turn_after_refill old.turn old.reserving })
  still_turned old new (Ok done) step still = still
  still_turned old new (Err refill.GenerationsSpent) step still = still
  still_turned old new (Err refill.Disk) step still = still
  still_turned old new (Err refill.Stopped) step still = absurd step
  still_turned old new (Err refill.Busy) step still = absurd step

  ends_turned : (new : EndpointValue D) (turn : Turn) (result : Result (Unit {0}) RefillFault) → IsIdle new.store
      → EndsWork Refills (Refilled result) (record new { turn = turn })
  ends_turned new turn (Ok done) idle = idle
  ends_turned new turn (Err refill.GenerationsSpent) idle = idle
  ends_turned new turn (Err refill.Disk) idle = tt
  ends_turned new turn (Err refill.Stopped) idle = tt
  ends_turned new turn (Err refill.Busy) idle = tt

  -- whose turn it is does not count on the disk
  pub turned_backed : (e : EndpointValue D) (turn : Turn) → IsBacked disk_of e
      → IsBacked disk_of (record e { turn = turn })
  turned_backed e turn backed =
      record { size = backed.size; stored = backed.stored; fits = backed.fits; form = backed.form }

  pub reserved-call : (old new : EndpointValue D) (result : Result (Unit {0}) RefillFault) → is_stopped old ≡ false
      → old.waiting ≡ []
      → ReservesAll disk_of old result new
      → IsCall disk_of old Refills (Refilled result) (record new { turn = turn_after_refill old.turn old.reserving })
  reserved-call old new result running none all =
      let reserves = all.reserves in
      record {
        behaves = record {
          in_range = tt;
          step = λ logs. (
            logs,
            inr (running, refill_step (state_of old logs) (state_of new logs) result none (reserves.step logs)),
          );
          ceilings = all.ceilings;
          limited = limited_by old new result reserves.limited;
          still = still_turned old new result (reserves.step no_logs) all.still;
          ends_work = ends_turned new (turn_after_refill old.turn old.reserving) result reserves.idle;
          advances = tt;
          turn = turn_by old new result (reserves.step no_logs);
          tx_counters = reserves.tx_counters;
          rx_counters = reserves.rx_counters;
          channel_counters = reserves.channel_counters;
        };
        device = record { works = reserves.works; fails = reserves.fails };
        survives = λ honest backed. record {
          any_moment = λ logs later. Leaves-weaker (disk_in disk_of old) (disk_in disk_of new)
              (FitsState (state_of old logs) (disk_in disk_of old))
              (FitsCall (disk_in disk_of old).sectors (state_of old logs) Refills (state_of new later))
              (λ image fits. inl fits) (reserves.any_moment honest backed logs);
          backed = turned_backed new (turn_after_refill old.turn old.reserving) (reserves.backed honest backed);
        };
      }

  -- ---- the standing then

  module _ (old mid new : EndpointValue D) (so_far : Reserves disk_of old (Ok tt) mid) (none : old.reserving ≡ None)
      (has : HaveRaised disk_of old mid.store) where
    raised : AreRaisedIn old mid
    raised = raised-in disk_of old none mid.store has

    -- the first that is needed, by the state before
    first_before : (next : Option Raise) → raise_in mid ≡ next
        → first_raise (standing_in mid.store) (tx_side (state_of old no_logs)) (rx_side (state_of old no_logs)) ≡ next
    first_before next is = subst (λ (s : State). first_raise (standing_in mid.store) (tx_side s) (rx_side s) ≡ next)
        (so_far.step no_logs) is

    stands_with : (next : Option Raise) → standing_in new.store ≡ standing_in mid.store → raise_in mid ≡ next
        → IsRefilled (tx_side (state_of old no_logs)) (rx_side (state_of old no_logs)) (standing_in old.store)
        (standing_in new.store) next
    stands_with next same is =
        subst (λ (s : Standing). IsRefilled (tx_side (state_of old no_logs)) (rx_side (state_of old no_logs))
        (standing_in old.store) s next) (sym same)
        (record { raises = raised.0; raised = raised.1; is_next = first_before next is })

    -- ---- one more is raised

    pub turn-raised : (raise : Raise) → raise_in mid ≡ Some raise → Raised disk_of mid raise (Ok tt) new
        → HaveRaised disk_of old new.store
    turn-raised raise first made = raised-more disk_of old mid new has raise (first_before (Some raise) first) made

    -- of an endpoint that needs none, or whose journal cannot be compacted
    pub turn-moves : (free : (raise_in old ≡ None) ⊎ IsSpent old.store)
        → ((raise_in old ≡ None) ⊎ IsSpent old.store → mid ≡ old) → (raise : Raise)
        → raise_in mid ≡ Some raise → Raised disk_of mid raise (Ok tt) new → ⊥
    turn-moves free still raise first made = elim free [
      | inl unneeded ↦ needed-not raise
          (sym first ∙ ap (λ (e : EndpointValue D). raise_in e) (still (inl unneeded)) ∙ unneeded)
      | inr spent ↦ (let no =
          made.spent.1 (subst (λ (e : EndpointValue D). IsSpent e.store) (sym (still (inr spent))) spent) in cc)
    ]

    pub turn-less : IsSoundEndpoint old → (raise : Raise) → raise_in mid ≡ Some raise
        → Reserves disk_of mid (Ok tt) new → standing_in new.store ≡ standing_with_raise (standing_in mid.store) raise
        → left (tx_side (state_of new no_logs)) (rx_side (state_of new no_logs)) (standing_in new.store)
        < left (tx_side (state_of mid no_logs)) (rx_side (state_of mid no_logs)) (standing_in mid.store)
    turn-less kept raise first step done =
        let s = state_of mid no_logs in
        let stands = standing_in mid.store in
        let sends = tx_side (state_of old no_logs) in
        let receives = rx_side (state_of old no_logs) in
        let same = (raises-parts sends receives (standing_in old.store) stands raised.0 raised.1).0 in
        let identity : IsIdentity stands.identity = subst IsIdentity (sym same) kept.identity in
        let are : IsAhead (tx_side s) (rx_side s) stands =
        subst (λ (x : State). IsAhead (tx_side x) (rx_side x) stands) (sym (so_far.step no_logs))
        (raises-ahead sends receives (standing_in old.store) stands raised.0 raised.1 (kept-ahead old kept)) in
        subst (λ (n : ℕ). n < left (tx_side s) (rx_side s) stands)
        (sym (λ i. left (tx_side (step.step no_logs i)) (rx_side (step.step no_logs i)) (done i)))
        (raise-less (tx_side s) (rx_side s) stands raise first identity.tx_block.0 are)

    -- ---- one more is not

    stands_by : (fault : RefillFault) (raise : Raise)
        → ReserveStep (state_of mid no_logs) (Err fault) (state_of new no_logs)
        → IsRefilled (tx_side (state_of old no_logs)) (rx_side (state_of old no_logs)) (standing_in old.store)
        (standing_in new.store) (Some raise)
        → StandsRefilled (tx_side (state_of old no_logs)) (rx_side (state_of old no_logs)) (standing_in old.store)
        None (Err fault) (standing_in new.store)
    stands_by refill.Stopped raise step is = absurd step
    stands_by refill.Busy raise step is = absurd step
    stands_by refill.GenerationsSpent raise step is = (raise, is)
    stands_by refill.Disk raise step is = inr (raise, is)

    not_moved : ((raise_in old ≡ None) ⊎ IsSpent old.store → mid ≡ old) → (fault : RefillFault) (raise : Raise)
        → raise_in mid ≡ Some raise
        → Raised disk_of mid raise (Err fault) new → (raise_in old ≡ None) ⊎ IsSpent old.store → new.store ≡ old.store
    not_moved still fault raise first last free = elim free [
      | inl unneeded ↦ absurd
          (needed-not raise (sym first ∙ ap (λ (e : EndpointValue D). raise_in e) (still (inl unneeded)) ∙ unneeded))
      | inr spent ↦ (
          let same = still (inr spent) in
          let refused = last.spent.1 (subst (λ (e : EndpointValue D). IsSpent e.store) (sym same) spent) in
          ap (λ (e : EndpointValue D). e.store) (last.refused refused ∙ same)
          )
    ]

    pub cut-refill : ((raise_in old ≡ None) ⊎ IsSpent old.store → mid ≡ old) → (fault : RefillFault) (raise : Raise)
        → raise_in mid ≡ Some raise
        → Raised disk_of mid raise (Err fault) new → ReservesAll disk_of old (Err fault) new
    cut-refill still fault raise first last = record {
      reserves = reserves-on old mid new (Err fault) so_far last.reserves;
      ceilings = subst (λ (o : Option Raise). StandsRefilled (tx_side (state_of old no_logs))
          (rx_side (state_of old no_logs)) (standing_in old.store) o (Err fault) (standing_in new.store))
          (sym none) (stands_by fault raise (last.reserves.step no_logs) (stands_with (Some raise) last.same first));
      still = λ idle free. not_moved still fault raise first last free;
      spends = raised-not disk_of old mid new has raise (first_before (Some raise) first) fault last;
    }

  -- all that are needed are raised
  pub done-refill : (old new : EndpointValue D) → old.reserving ≡ None
      → ((raise_in old ≡ None) ⊎ IsSpent old.store → new ≡ old)
      → Reserves disk_of old (Ok tt) new → HaveRaised disk_of old new.store → raise_in new ≡ None
      → ReservesAll disk_of old (Ok tt) new
  done-refill old new none still reserves has ends = record {
    reserves = reserves;
    ceilings = subst (λ (o : Option Raise). StandsRefilled (tx_side (state_of old no_logs))
        (rx_side (state_of old no_logs)) (standing_in old.store) o (Ok tt) (standing_in new.store))
        (sym none) (stands_with old new new reserves none has None refl ends);
    still = λ idle free. ap (λ (e : EndpointValue D). e.store) (still free);
    spends = has;
  }

  -- ---- after a reservation that was under way

  stands_on : (tx_side : TxSide) (rx_side : RxSide) (old mid new : Standing) (reserving : Option Raise)
      (result : Result (Unit {0}) RefillFault)
      → mid ≡ standing_with_reserved old reserving → (¬ (result ≡ Err refill.Stopped)) → (¬ (result ≡ Err refill.Busy))
      → StandsRefilled tx_side rx_side mid None result new → StandsRefilled tx_side rx_side old reserving result new
  stands_on tx_side rx_side old mid new reserving (Ok done) same a b is =
      subst (λ (x : Standing). IsRefilled tx_side rx_side x new None) same is
  stands_on tx_side rx_side old mid new reserving (Err refill.GenerationsSpent) same a b is =
      subst (λ (x : Standing). (raise : Raise) × IsRefilled tx_side rx_side x new (Some raise)) same is
  stands_on tx_side rx_side old mid new reserving (Err refill.Disk) same a b is = elim is [
    | inl held ↦ absurd (let none = held.1 in cc)
    | inr refilled ↦ inr
        (subst (λ (x : Standing). (raise : Raise) × IsRefilled tx_side rx_side x new (Some raise)) same refilled)
  ]
  stands_on tx_side rx_side old mid new reserving (Err refill.Stopped) same a b is = absurd (a refl)
  stands_on tx_side rx_side old mid new reserving (Err refill.Busy) same a b is = absurd (b refl)

  no_stop : (old new : State) (result : Result (Unit {0}) RefillFault) → ReserveStep old result new
      → (¬ (result ≡ Err refill.Stopped)) × (¬ (result ≡ Err refill.Busy))
  no_stop old new (Ok done) step = (λ is. cc, λ is. cc)
  no_stop old new (Err refill.Stopped) step = absurd step
  no_stop old new (Err refill.Busy) step = absurd step
  no_stop old new (Err refill.GenerationsSpent) step = (λ is. cc, λ is. cc)
  no_stop old new (Err refill.Disk) step = (λ is. cc, λ is. cc)

  pub all-behind : (old mid new : EndpointValue D) (result : Result (Unit {0}) RefillFault)
      → ReservationEnds disk_of old (Ok tt) mid
      → ReservesAll disk_of mid result new → ReservesAll disk_of old result new
  all-behind old mid new result ends all =
      let sends = tx_side (state_of old no_logs) in
      let receives = rx_side (state_of old no_logs) in
      let others = no_stop (state_of mid no_logs) (state_of new no_logs) result (all.reserves.step no_logs) in
      let free = subst (λ (o : Option Raise). StandsRefilled (tx_side (state_of mid no_logs))
      (rx_side (state_of mid no_logs)) (standing_in mid.store) o result (standing_in new.store))
      ends.free all.ceilings in
      record {
        reserves = reserves-on old mid new result ends.reserves all.reserves;
        ceilings = stands_on sends receives (standing_in old.store) (standing_in mid.store) (standing_in new.store)
            old.reserving result ends.done others.0 others.1
            (subst (λ (s : State). StandsRefilled (tx_side s) (rx_side s) (standing_in mid.store) None result
            (standing_in new.store)) (ends.reserves.step no_logs) free);
        still = λ idle free.
            let same = ends.still idle in
            all.still ends.reserves.idle
            (subst (λ (e : EndpointValue D). (raise_in e ≡ None) ⊎ IsSpent e.store) (sym same) free)
            ∙ ap (λ (e : EndpointValue D). e.store) same;
        spends = spends-behind disk_of old mid ends result new.store others.0 others.1 all.spends;
      }

  disk_named : (fault : RefillFault) → IsErrOf {T = Unit {0}} (Err fault) refill.Disk → fault ≡ refill.Disk
  disk_named fault is = cc

  pub cut-behind : (old new : EndpointValue D) (fault : RefillFault) → ReservationEnds disk_of old (Err fault) new
      → ReservesAll disk_of old (Err fault) new
  cut-behind old new fault ends =
      let is = disk_named fault ends.fault.0 in
      record {
        reserves = ends.reserves;
        ceilings = subst (λ (f : RefillFault). StandsRefilled (tx_side (state_of old no_logs))
            (rx_side (state_of old no_logs)) (standing_in old.store) old.reserving (Err f) (standing_in new.store))
            (sym is) (inl (ends.fault.1.0, ends.fault.1.1, ends.same));
        still = λ idle free. ap (λ (e : EndpointValue D). e.store) (ends.still idle);
        spends = subst (λ (f : RefillFault). Spends disk_of old (Err f) new.store) (sym is)
            (spends-cut disk_of old new (subst (λ (f : RefillFault). ReservationEnds disk_of old (Err f) new) is ends));
      }
