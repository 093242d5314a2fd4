-- An endpoint with other channels and the same work under way: numbers that rise carry it on.
use Rattle.std.proofs.Common.{◌≡◌, ◌≤◌, ◌⊎◌, inl, inr, ℕ, List, Option, Some, None, sym, subst, arith}
use Rattle.std.specs.Prelude.{IsSomeAnd}
use Rattle.macs_txsc.specs.Value as txsc
use Rattle.macs_txsc.specs.declared.channel.Tx.{Tx}
use Rattle.macs_rxsc.specs.Receive.{Numbers}
use Rattle.macs_rxsc.specs.Value as rxsc
use Rattle.macs_store.specs.Value.{standing_in}
use Rattle.macs_endpoint.specs.Ceilings.{Raise, RaiseRx, RaiseTx}
use Rattle.macs_endpoint.specs.Value.{EndpointValue, IsAtRest, IsKeeping, IsRaiseWithin, IsReserving, IsRxRaiseWithin}
use Rattle.macs_endpoint.specs.Value.{IsSoundEndpoint, IsTxRaiseWithin}
use Rattle.macs_endpoint.specs.declared.turn.Turn.{Turn}

-- ---- numbers that rise

-- a next number that is there stays and does not fall
abbrev pub NextRises : Option ℕ → Option ℕ → Type 0
NextRises None new = Unit {0}
NextRises (Some old) None = ⊥
NextRises (Some old) (Some new) = old ≤ new

-- a number that was seen stays so
abbrev pub SeenRises : Option Numbers → Option Numbers → Type 0
SeenRises None new = Unit {0}
SeenRises (Some old) None = ⊥
SeenRises (Some old) (Some new) = (pn : ℕ) → IsSomeAnd old.seen (λ seen. pn ≤ seen)
    → IsSomeAnd new.seen (λ seen. pn ≤ seen)

tx_carried : (block : ℕ) (old new ceiling : Option ℕ) → NextRises old new → IsTxRaiseWithin block old ceiling
    → IsTxRaiseWithin block new ceiling
tx_carried block None new ceiling rises within = absurd within
tx_carried block (Some old) None ceiling rises within = absurd rises
tx_carried block (Some old) (Some new) None rises within = absurd within
tx_carried block (Some old) (Some new) (Some ceiling) rises within = let near = within.1 in
    (within.0, omega (arith, rises, near))

rx_carried : (block pn : ℕ) (old new : Option Numbers) (ceiling : Option ℕ) → SeenRises old new
    → IsRxRaiseWithin block pn old ceiling
    → IsRxRaiseWithin block pn new ceiling
rx_carried block pn None new ceiling rises within = absurd within
rx_carried block pn (Some old) None ceiling rises within = absurd rises
rx_carried block pn (Some old) (Some new) None rises within = absurd within
rx_carried block pn (Some old) (Some new) (Some ceiling) rises within = (rises pn within.0, within.1)

-- ---- the same work under way

-- an endpoint with the work under way of another one
abbrev pub with_work : {D : Type 0} → EndpointValue D → EndpointValue D → EndpointValue D
with_work e other =
    record other { store = e.store; under_way = e.under_way; reserving = e.reserving; waiting = e.waiting }

pub work-carried : {D : Type 0} (e other : EndpointValue D)
    → ((raise : Raise) → IsRaiseWithin e.tx e.rx (standing_in e.store).identity raise
    → IsRaiseWithin other.tx other.rx (standing_in e.store).identity raise)
    → IsAtRest e ⊎ (IsReserving e ⊎ IsKeeping e)
    → IsAtRest (with_work e other) ⊎ (IsReserving (with_work e other) ⊎ IsKeeping (with_work e other))
work-carried e other rises (inl rest) =
    inl (record { store = rest.store; reserving = rest.reserving; under_way = rest.under_way })
work-carried e other rises (inr (inl work)) = inr (inl (record {
  running = work.running;
  busy = work.busy;
  raise = work.raise;
  reserving = work.reserving;
  under_way = work.under_way;
  leads = work.leads;
  within = rises work.raise work.within;
}))
work-carried e other rises (inr (inr work)) = inr (inr (record {
  running = work.running;
  busy = work.busy;
  reserving = work.reserving;
  first = work.first;
  rest = work.rest;
  waiting = work.waiting;
  under_way = work.under_way;
  in_range = work.in_range;
  after = work.after;
  leads = work.leads;
  accepted = work.accepted;
}))

-- whose turn it is does not count
pub turned-kept : {D : Type 0} (e : EndpointValue D) (turn : Turn) → IsSoundEndpoint e
    → IsSoundEndpoint (record e { turn = turn })
turned-kept e turn kept = record {
  identity = kept.identity;
  channels = kept.channels;
  within = kept.within;
  few = kept.few;
  tickets = kept.tickets;
  work = work-carried e (record e { turn = turn }) (λ raise within. within) kept.work;
}

-- ---- another transmit channel

module _ {D : Type 0} (e : EndpointValue D) (tx : Tx) (ceilings : txsc.ceilings_of tx ≡ txsc.ceilings_of e.tx)
    (rises : (an : ℕ) → NextRises ((txsc.tx_side_of e.tx).next an) ((txsc.tx_side_of tx).next an)) where
  raise_on_tx : (raise : Raise) → IsRaiseWithin e.tx e.rx (standing_in e.store).identity raise
      → IsRaiseWithin tx e.rx (standing_in e.store).identity raise
  raise_on_tx (RaiseTx an) within =
      let block = (standing_in e.store).identity.tx_block in
      subst (λ (c : ℕ → Option ℕ). IsTxRaiseWithin block ((txsc.tx_side_of tx).next an) (c an)) (sym ceilings)
      (tx_carried block ((txsc.tx_side_of e.tx).next an) ((txsc.tx_side_of tx).next an) (txsc.ceilings_of e.tx an)
      (rises an) within)
  raise_on_tx (RaiseRx need) within = within

  pub tx-carried : IsAtRest e ⊎ (IsReserving e ⊎ IsKeeping e)
      → IsAtRest (record e { tx = tx }) ⊎ (IsReserving (record e { tx = tx }) ⊎ IsKeeping (record e { tx = tx }))
  tx-carried work = work-carried e (record e { tx = tx }) raise_on_tx work

-- ---- other receive channels

module _ {D : Type 0} (e : EndpointValue D) (rx : rxsc.RxValue) (ceilings : rxsc.ceilings_of rx ≡ rxsc.ceilings_of e.rx)
    (rises : (sci : List ℕ) (an : ℕ)
    → SeenRises ((rxsc.rx_side_of e.rx).numbers sci an) ((rxsc.rx_side_of rx).numbers sci an)) where
  raise_on_rx : (raise : Raise) → IsRaiseWithin e.tx e.rx (standing_in e.store).identity raise
      → IsRaiseWithin e.tx rx (standing_in e.store).identity raise
  raise_on_rx (RaiseTx an) within = within
  raise_on_rx (RaiseRx need) within =
      let block = (standing_in e.store).identity.rx_block in
      subst (λ (c : List ℕ → ℕ → Option ℕ). IsRxRaiseWithin block need.pn
      ((rxsc.rx_side_of rx).numbers need.sci need.an) (c need.sci need.an)) (sym ceilings)
      (rx_carried block need.pn ((rxsc.rx_side_of e.rx).numbers need.sci need.an)
      ((rxsc.rx_side_of rx).numbers need.sci need.an)
      (rxsc.ceilings_of e.rx need.sci need.an) (rises need.sci need.an) within)

  pub rx-carried : IsAtRest e ⊎ (IsReserving e ⊎ IsKeeping e)
      → IsAtRest (record e { rx = rx }) ⊎ (IsReserving (record e { rx = rx }) ⊎ IsKeeping (record e { rx = rx }))
  rx-carried work = work-carried e (record e { rx = rx }) raise_on_rx work
