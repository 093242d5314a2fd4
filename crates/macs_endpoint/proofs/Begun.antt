-- A reservation that begins: the ceiling that is needed first may be raised, and comes not too far ahead.
use Rattle.std.proofs.Common.{◌≡◌, ◌≤◌, ◌<◌, ◌-◌, ◌/◌, ◌^◌, ℕ, true, List, Option, Some, sym, ap, subst, arith}
use Rattle.std.specs.Prelude.{IsSomeAnd, nat_le, nat_lt}
use Rattle.std.proofs.lemmas.Bool.{and_parts, leb-true, ltb-true}
use Rattle.macs_config.specs.Numbers.{block_beyond}
use Rattle.macs_txsc.specs.Transmit.{TxSide}
use Rattle.macs_txsc.specs.Transmit as transmit
use Rattle.macs_txsc.proofs.Needs.{tx-below, tx-ceiling, tx-need}
use Rattle.macs_rxsc.specs.Needs.{Need, first_need_of}
use Rattle.macs_rxsc.specs.Receive.{Numbers, RxSide}
use Rattle.macs_rxsc.proofs.Needed.{IsNeed, below-raised, first-place, is-need}
use Rattle.macs_rxsc.proofs.Told.{asked, asked-stands, if_some}
use Rattle.macs_store.specs.Standing.{Standing}
use Rattle.macs_store.specs.Value.{standing_in}
use Rattle.macs_endpoint.specs.Ceilings.{Raise, RaiseRx, RaiseTx, Rises, first_raise}
use Rattle.macs_endpoint.specs.Needed.{raise_in}
use Rattle.macs_endpoint.specs.State.{no_logs, rx_side, tx_side}
use Rattle.macs_endpoint.specs.Value.{EndpointValue, IsRaiseWithin, IsRxRaiseWithin, IsSoundEndpoint, IsTxRaiseWithin}
use Rattle.macs_endpoint.specs.Value.{IsTxWithin, state_of}
use Rattle.macs_endpoint.proofs.Fitting.{kept-ahead}
use Rattle.macs_endpoint.proofs.Raises.{rx-first, tx-first}

-- ---- it may be raised

pub first-rises : (s : Standing) (tx_side : TxSide) (rx_side : RxSide) (raise : Raise)
    → first_raise s tx_side rx_side ≡ Some raise → Rises s raise
first-rises s tx_side rx_side (RaiseTx an) first =
    let block = s.identity.tx_block in
    let is = tx-first (transmit.need_of tx_side s.ceilings.tx block)
    (first_need_of rx_side s.ceilings.rx s.identity.rx_block) an first in
    let need = tx-need tx_side s.ceilings.tx block an is in
    (tx-ceiling tx_side s.ceilings.tx block an need, tx-below tx_side s.ceilings.tx block an need)
first-rises s tx_side rx_side (RaiseRx need) first =
    let block = s.identity.rx_block in
    let is = rx-first (transmit.need_of tx_side s.ceilings.tx s.identity.tx_block)
    (first_need_of rx_side s.ceilings.rx block) need first in
    let asks = asked rx_side s.ceilings.rx block need is.1 in
    let held = s.ceilings.rx need.sci need.an in (
      asked-stands held (λ old. old < block_beyond need.pn block) asks,
      if_some held (λ old. old < block_beyond need.pn block) asks,
    )

-- ---- and is not too far ahead then

tx_near : (block next top : ℕ) → transmit.is_needed block next top ≡ true → next ≤ top
    → IsTxRaiseWithin block (Some next) (Some top)
tx_near block next top test order =
    let parts = and_parts (nat_le (top - next) (block / 2)) (nat_lt top (2 ^ 32)) test in
    let near = leb-true (top - next) (block / 2) parts.0 in
    let below : top < 2 ^ 32 = ltb-true top (2 ^ 32) parts.1 in
    (below, omega (arith, near, order))

tx_order : (block next top : ℕ) → IsTxWithin block (Some next) (Some top) → next ≤ top
tx_order block next top within = within.1

rx_near : (block : ℕ) (sci : List ℕ) (an : ℕ) (numbers : Option Numbers) (need : Need) (ceiling : Option ℕ)
    → IsNeed block sci an numbers ceiling need
    → IsRxRaiseWithin block need.pn numbers ceiling
rx_near block sci an numbers need ceiling is =
    let same : need.pn ≡ is.seen = ap (λ (n : Need). n.pn) is.is in
    let above : is.top < block_beyond is.seen block = below-raised block sci an is.held.next is.top is.seen is.test in
    let seen : IsSomeAnd is.held.seen (λ (s : ℕ). is.seen ≤ s) =
    subst (λ (o : Option ℕ). IsSomeAnd o (λ (s : ℕ). is.seen ≤ s)) (sym is.has_seen) (omega arith) in
    subst (λ (n : Option Numbers). IsRxRaiseWithin block need.pn n ceiling) (sym is.has)
    (subst (λ (c : Option ℕ). IsRxRaiseWithin block need.pn (Some is.held) c) (sym is.has_ceiling)
    (subst (λ (n : ℕ). IsRxRaiseWithin block n (Some is.held) (Some is.top)) (sym same) (seen, above)))

module _ {D : Type 0} (e : EndpointValue D) (kept : IsSoundEndpoint e) where
  pub first-within : (raise : Raise) → raise_in e ≡ Some raise
      → IsRaiseWithin e.tx e.rx (standing_in e.store).identity raise
  first-within (RaiseTx an) first =
      let s = standing_in e.store in
      let block = s.identity.tx_block in
      let sends = tx_side (state_of e no_logs) in
      let is = tx-first (transmit.need_of sends s.ceilings.tx block)
      (first_need_of (rx_side (state_of e no_logs)) s.ceilings.rx s.identity.rx_block) an first in
      let need = tx-need sends s.ceilings.tx block an is in
      let ahead = (kept-ahead e kept).tx_ahead an in
      let order : need.next ≤ need.top = tx_order block need.next need.top
      (subst (λ (o : Option ℕ). IsTxWithin block o (Some need.top)) need.is_next
      (subst (λ (o : Option ℕ). IsTxWithin block (sends.next an) o) need.is_top ahead)) in
      subst (λ (c : ℕ → Option ℕ). IsTxRaiseWithin block (sends.next an) (c an)) (sym kept.channels.tx_ceilings)
      (subst (λ (o : Option ℕ). IsTxRaiseWithin block (sends.next an) o) (sym need.is_top)
      (subst (λ (o : Option ℕ). IsTxRaiseWithin block o (Some need.top)) (sym need.is_next)
      (tx_near block need.next need.top need.test order)))
  first-within (RaiseRx need) first =
      let s = standing_in e.store in
      let block = s.identity.rx_block in
      let receives = rx_side (state_of e no_logs) in
      let is = rx-first (transmit.need_of (tx_side (state_of e no_logs)) s.ceilings.tx s.identity.tx_block)
      (first_need_of receives s.ceilings.rx block) need first in
      let here = first-place receives.numbers s.ceilings.rx block receives.channels need is.1 in
      let numbers = receives.numbers need.sci need.an in
      subst (λ (c : List ℕ → ℕ → Option ℕ). IsRxRaiseWithin block need.pn numbers (c need.sci need.an))
      (sym kept.channels.rx_ceilings)
      (rx_near block need.sci need.an numbers need (s.ceilings.rx need.sci need.an)
      (is-need block need.sci need.an numbers (s.ceilings.rx need.sci need.an) need here))
