-- What a refill takes: ceilings that are raised one after another, and after a reservation that was under way.
use Rattle.std.proofs.Common.{◌≡◌, ◌≤◌, ◌+◌, ◌++◌, inl, inr, ℕ, List, [], ◌∷◌, Option, Some, None, Result, Ok, Err}
use Rattle.std.proofs.Common.{refl, sym, ◌∙◌, ap, subst, arith}
use Rattle.macs_disk.specs.Disk.{Disk}
use Rattle.macs_txsc.specs.Transmit.{TxSide}
use Rattle.macs_rxsc.specs.Receive.{RxSide}
use Rattle.macs_store.specs.Keeps.{generation_with_change, most_calls, most_with_change, slots_with_change}
use Rattle.macs_store.specs.Standing.{Standing}
use Rattle.macs_store.specs.Value.{IsIdle, StoreValue, calls_left, calls_with, generation, generation_then}
use Rattle.macs_store.specs.Value.{generation_with, slots_then, slots_with, standing_in, used_slots}
use Rattle.macs_store.specs.Value as store
use Rattle.macs_store.specs.UnderWay.{UnderWay}
use Rattle.macs_endpoint.specs.Ceilings.{Raise, Raises, first_raise, standing_with_raise, standing_with_reserved}
use Rattle.macs_endpoint.specs.Reserving.{Raised, ReservationEnds}
use Rattle.macs_endpoint.specs.RefillCosts.{HasRaised, RaisesBehind, Spends, generation_in_raises, most_behind}
use Rattle.macs_endpoint.specs.RefillCosts.{most_in_raises, reserved_in, slots_in_raises}
use Rattle.macs_endpoint.specs.State.{State, no_logs, rx_side, tx_side}
use Rattle.macs_endpoint.specs.Value.{EndpointValue, state_of}
use Rattle.macs_endpoint.specs.declared.fault.RefillFault.{RefillFault}
use Rattle.macs_endpoint.specs.declared.fault.RefillFault.TheVariants as refill
use Rattle.macs_endpoint.proofs.Raises.{AreRaised, raises-more}

-- ---- one more is raised

module _ (tx_side : TxSide) (rx_side : RxSide) where
  slots-more : (used : ℕ) (old mid : Standing) (raises : List Raise) (raise : Raise)
      → Raises tx_side rx_side old raises mid
      → slots_in_raises used old (raises ++ raise ∷ []) ≡ slots_with_change (slots_in_raises used old raises) mid
  slots-more used old mid [] raise same = ap (λ (s : Standing). slots_with_change used s) (sym same)
  slots-more used old mid (other ∷ raises) raise raised =
      slots-more (slots_with_change used old) (standing_with_raise old other) mid raises raise raised.1

  generation-more : (used number : ℕ) (old mid : Standing) (raises : List Raise) (raise : Raise)
      → Raises tx_side rx_side old raises mid
      → generation_in_raises used number old (raises ++ raise ∷ [])
      ≡ generation_with_change (slots_in_raises used old raises) (generation_in_raises used number old raises)
  generation-more used number old mid [] raise same = refl
  generation-more used number old mid (other ∷ raises) raise raised =
      generation-more (slots_with_change used old) (generation_with_change used number) (standing_with_raise old other)
      mid raises raise raised.1

  most-more : (used : ℕ) (old mid : Standing) (raises : List Raise) (raise : Raise)
      → Raises tx_side rx_side old raises mid
      → most_in_raises used old (raises ++ raise ∷ [])
      ≡ most_in_raises used old raises + most_with_change (slots_in_raises used old raises) mid
  most-more used old mid [] raise same =
      let is : most_with_change used old ≡ most_with_change used mid =
      ap (λ (s : Standing). most_with_change used s) (sym same) in
      omega (arith, is)
  most-more used old mid (other ∷ raises) raise raised =
      let is = most-more (slots_with_change used old) (standing_with_raise old other) mid raises raise raised.1 in
      omega (arith, is)

some-raised : (raises : List Raise) (raise : Raise) → raises ++ raise ∷ [] ≡ [] → ⊥
some-raised [] raise is = absurd cc
some-raised (other ∷ raises) raise is = absurd cc

module _ {D : Type 0} (disk_of : D → Disk) where
  -- ceilings were raised, whichever they are
  abbrev pub HaveRaised : EndpointValue D → StoreValue D → Type 0
  HaveRaised old new = (raises : List Raise) × HasRaised disk_of old raises new

  module _ (old : EndpointValue D) (none : old.reserving ≡ None) where
    same_reserved : reserved_in old ≡ standing_in old.store
    same_reserved = ap (λ (o : Option Raise). standing_with_reserved (standing_in old.store) o) none

    -- none were
    pub raised-none : IsIdle old.store → HaveRaised old old.store
    raised-none idle = (
      [],
      record {
        raised = sym same_reserved;
        slots = sym (ap (λ (h : UnderWay). slots_with old.store h) idle);
        generation = sym (ap (λ (h : UnderWay). generation_with old.store h) idle);
        most = omega arith;
        still = λ rests is. refl;
      },
    )

    -- by the standing
    pub raised-in : (new : StoreValue D) → HaveRaised old new
        → AreRaised (tx_side (state_of old no_logs)) (rx_side (state_of old no_logs)) (standing_in old.store)
        (standing_in new)
    raised-in new has = (
      has.0,
      subst (λ (s : Standing). Raises (tx_side (state_of old no_logs)) (rx_side (state_of old no_logs)) s has.0
          (standing_in new)) same_reserved has.1.raised,
    )

  module _ (old mid new : EndpointValue D) (has : HaveRaised old mid.store) (raise : Raise)
      (first : first_raise (standing_in mid.store) (tx_side (state_of old no_logs)) (rx_side (state_of old no_logs))
      ≡ Some raise) where
    used : used_slots mid.store ≡ slots_in_raises (slots_then old.store) (reserved_in old) has.0
    used = has.1.slots

    -- one more change takes as much as there
    most_next : most_behind old has.0 + most_calls mid.store ≡ most_behind old (has.0 ++ raise ∷ [])
    most_next =
        let calls : most_calls mid.store ≡ most_with_change
        (slots_in_raises (slots_then old.store) (reserved_in old) has.0) (standing_in mid.store) =
        ap (λ (n : ℕ). most_with_change n (standing_in mid.store)) used in
        let last = most-more (tx_side (state_of old no_logs)) (rx_side (state_of old no_logs)) (slots_then old.store)
        (reserved_in old) (standing_in mid.store)
        has.0 raise has.1.raised in
        omega (arith, calls, last)

    most_on : (late : ℕ) → late ≤ (store.disk_in disk_of mid.store).clock + most_calls mid.store
        → late ≤ (store.disk_in disk_of old.store).clock + most_behind old (has.0 ++ raise ∷ [])
    most_on late within = let most = has.1.most in let next = most_next in omega (arith, within, most, next)

    -- one more is
    pub raised-more : Raised disk_of mid raise (Ok tt) new → HaveRaised old new.store
    raised-more made = (
      has.0 ++ raise ∷ [],
      record {
        raised = subst (λ (s : Standing). RaisesBehind old (has.0 ++ raise ∷ []) s) (sym made.done)
            (raises-more (tx_side (state_of old no_logs)) (rx_side (state_of old no_logs)) (reserved_in old)
            (standing_in mid.store) has.0 raise has.1.raised first);
        slots = made.slots ∙ ap (λ (n : ℕ). slots_with_change n (standing_in mid.store)) used
            ∙ sym (slots-more (tx_side (state_of old no_logs)) (rx_side (state_of old no_logs)) (slots_then old.store)
            (reserved_in old) (standing_in mid.store)
            has.0 raise has.1.raised);
        generation = made.generation ∙ (λ i. generation_with_change (used i) (has.1.generation i))
            ∙ sym (generation-more (tx_side (state_of old no_logs)) (rx_side (state_of old no_logs))
            (slots_then old.store) (generation_then old.store)
            (reserved_in old) (standing_in mid.store) has.0 raise has.1.raised);
        most = most_on (store.disk_in disk_of new.store).clock made.most;
        still = λ rests is. absurd (some-raised has.0 raise is);
      },
    )

    -- or it is not
    spends_by : (fault : RefillFault) → Raised disk_of mid raise (Err fault) new
        → Spends disk_of old (Err fault) new.store
    spends_by refill.Stopped made = absurd (made.reserves.step no_logs)
    spends_by refill.Busy made = absurd (made.reserves.step no_logs)
    spends_by refill.GenerationsSpent made =
        subst (λ (e : EndpointValue D). HaveRaised old e.store) (sym (made.refused refl)) has
    spends_by refill.Disk made = inr (
      has.0,
      raise,
      record {
        raised = subst (λ (s : Standing). RaisesBehind old has.0 s) (sym made.same) has.1.raised;
        failed = subst (λ (s : Standing). first_raise s (tx_side (state_of old no_logs))
            (rx_side (state_of old no_logs)) ≡ Some raise) (sym made.same) first;
        most = most_on (store.disk_in disk_of new.store).clock made.most;
      },
    )

    pub raised-not : (fault : RefillFault) → Raised disk_of mid raise (Err fault) new
        → Spends disk_of old (Err fault) new.store
    raised-not fault made = spends_by fault made

  -- ---- after a reservation that was under way

  module _ (old mid : EndpointValue D) (ends : ReservationEnds disk_of old (Ok tt) mid) where
    behind_state : state_of mid no_logs ≡ state_of old no_logs
    behind_state = ends.reserves.step no_logs

    pub behind-reserved : reserved_in mid ≡ reserved_in old
    behind-reserved = ap (λ (o : Option Raise). standing_with_reserved (standing_in mid.store) o) ends.free ∙ ends.done

    pub behind-slots : slots_then mid.store ≡ slots_then old.store
    behind-slots = ap (λ (h : UnderWay). slots_with mid.store h) ends.reserves.idle ∙ ends.slots

    pub behind-generation : generation_then mid.store ≡ generation_then old.store
    behind-generation = ap (λ (h : UnderWay). generation_with mid.store h) ends.reserves.idle ∙ ends.generation

    pub behind-left : calls_left mid.store ≡ 0
    behind-left = ap (λ (h : UnderWay). calls_with mid.store h) ends.reserves.idle

    behind_most : (raises : List Raise) (late : ℕ)
        → late ≤ (store.disk_in disk_of mid.store).clock + most_behind mid raises
        → late ≤ (store.disk_in disk_of old.store).clock + most_behind old raises
    behind_most raises late within =
        let most = ends.most in
        let none = behind-left in
        let same : most_in_raises (slots_then mid.store) (reserved_in mid) raises
        ≡ most_in_raises (slots_then old.store) (reserved_in old) raises =
        λ i. most_in_raises (behind-slots i) (behind-reserved i) raises in
        omega (arith, within, most, none, same)

    raises_behind : (raises : List Raise) (s : Standing) → RaisesBehind mid raises s → RaisesBehind old raises s
    raises_behind raises s raised =
        subst (λ (x : State). Raises (tx_side x) (rx_side x) (reserved_in old) raises s) behind_state
        (subst (λ (r : Standing). Raises (tx_side (state_of mid no_logs)) (rx_side (state_of mid no_logs)) r raises s)
        behind-reserved raised)

    raised_behind : (new : StoreValue D) → HaveRaised mid new → HaveRaised old new
    raised_behind new has = (
      has.0,
      record {
        raised = raises_behind has.0 (standing_in new) has.1.raised;
        slots = has.1.slots ∙ (λ i. slots_in_raises (behind-slots i) (behind-reserved i) has.0);
        generation = has.1.generation
            ∙ (λ i. generation_in_raises (behind-slots i) (behind-generation i) (behind-reserved i) has.0);
        most = behind_most has.0 (store.disk_in disk_of new).clock has.1.most;
        still = λ rests is. has.1.still ends.reserves.idle is
            ∙ ap (λ (e : EndpointValue D). e.store) (ends.still rests);
      },
    )

    -- what follows took as much after it
    pub spends-behind : (result : Result (Unit {0}) RefillFault) (new : StoreValue D)
        → (¬ (result ≡ Err refill.Stopped)) → (¬ (result ≡ Err refill.Busy))
        → Spends disk_of mid result new → Spends disk_of old result new
    spends-behind (Ok done) new a b has = raised_behind new has
    spends-behind (Err refill.GenerationsSpent) new a b has = raised_behind new has
    spends-behind (Err refill.Disk) new a b spends = elim spends [
      | inl held ↦ absurd (let none = sym held.reserving ∙ ends.free in cc)
      | inr fails ↦ inr (
        fails.0,
        fails.1,
        record {
          raised = raises_behind fails.0 (standing_in new) fails.2.raised;
          failed = subst (λ (x : State). first_raise (standing_in new) (tx_side x) (rx_side x) ≡ Some fails.1)
              behind_state fails.2.failed;
          most = behind_most (fails.0 ++ fails.1 ∷ []) (store.disk_in disk_of new).clock fails.2.most;
        },
      )
    ]
    spends-behind (Err refill.Stopped) new a b spends = absurd (a refl)
    spends-behind (Err refill.Busy) new a b spends = absurd (b refl)

  -- a device call of the reservation failed
  pub spends-cut : (old new : EndpointValue D) → ReservationEnds disk_of old (Err refill.Disk) new
      → Spends disk_of old (Err refill.Disk) new.store
  spends-cut old new ends =
      inl (record { raise = ends.fault.1.0; reserving = ends.fault.1.1; stands = ends.same; most = ends.most })
