use Rattle.std.proofs.Common.{◌≡◌, ℕ, List, [], inl, Option, Some, None, refl, sym, ◌∙◌, ap}
use Rattle.std.proofs.Common.{subst, arith, rules}
use Rattle.std.specs.Option.{option_map}
use Rattle.macs_config.specs.Config.{Config}
use Rattle.macs_config.specs.Identity.{Identity, IsIdentity}
use Rattle.macs_txsc.specs.Transmit as transmit
use Rattle.macs_txsc.specs.Transmit.{InOrder}
use Rattle.macs_txsc.specs.Value as txsc
use Rattle.macs_txsc.specs.declared.channel.Tx.{Tx}
use Rattle.macs_rxsc.specs.Receive.{Numbers, first_numbers}
use Rattle.macs_rxsc.specs.Value.{association_in, channel_at}
use Rattle.macs_rxsc.specs.Value as rxsc
use Rattle.macs_rxsc.proofs.Needs.{unnumbered}
use Rattle.macs_store.specs.Value.{StoreValue, standing_in}
use Rattle.macs_store.specs.Standing.{Standing}
use Rattle.macs_endpoint.specs.Opening.{Begins}
use Rattle.macs_endpoint.specs.Parts.{raise_of}
use Rattle.macs_endpoint.specs.Queue.{QueueValue}
use Rattle.macs_endpoint.specs.Value.{EndpointValue, IsAtRest, IsRxWithin, IsSoundEndpoint, IsTxWithin}
use Rattle.macs_endpoint.specs.declared.turn.Turn.TheVariants.{Reservation}
use Rattle.macs_endpoint.specs.State.{rx_side_with, tx_side_with}
use Rattle.macs_endpoint.proofs.endpoint.Endpoint.with_store.Given.{Over}
use Rattle.macs_endpoint.proofs.endpoint.Endpoint.with_store.Goals.{After-new-3}
use Rattle.macs_endpoint.proofs.endpoint.Endpoint.with_store.Goals as goal

-- ---- numbers begin at their ceilings

tx_begins : (block : ℕ) (next ceiling : Option ℕ) → next ≡ ceiling → InOrder next ceiling
    → IsTxWithin block next ceiling
tx_begins block None None same ordered = tt
tx_begins block None (Some c) same ordered = absurd ordered
tx_begins block (Some n) None same ordered = absurd ordered
tx_begins block (Some n) (Some c) same ordered = let is : n ≡ c = cc in
    (ordered.0, ordered.1, omega (arith, is), ordered.2)

rx_started : (block : ℕ) (ceiling : Option ℕ) → IsRxWithin block (option_map first_numbers ceiling) ceiling
rx_started block None = tt
rx_started block (Some c) = (omega arith, omega arith)

rx_begins : (block : ℕ) (numbers : Option Numbers) (ceiling : Option ℕ) → numbers ≡ option_map first_numbers ceiling
    → IsRxWithin block numbers ceiling
rx_begins block numbers ceiling same =
    subst (λ (n : Option Numbers). IsRxWithin block n ceiling) (sym same) (rx_started block ceiling)

-- ---- the channels are new

pub take_up-requires-clause-new_tx : goal.take_up-requires-clause-new_tx
take_up-requires-clause-new_tx g c = record {
  side = c.new.ensures.side ∙ ap transmit.new_tx_side (c.sci.ensures ∙ ap (λ (i : Identity). i.sci) c.identity.ensures);
  ceilings = c.new.ensures.ceilings;
  counters = c.new.ensures.counters;
}

pub take_up-requires-clause-new_rx : goal.take_up-requires-clause-new_rx
take_up-requires-clause-new_rx g c = record {
  side = c.new-2.ensures.side;
  ceilings = c.new-2.ensures.ceilings;
  counters = c.new-2.ensures.counters;
  channel_counters = c.new-2.ensures.channel_counters;
}

-- ---- and have taken up what the store has

module _ (g : Over) (c : After-new-3 g) where
  abbrev store : StoreValue g.row.D.Denot
  store = c.args.store

  abbrev s : Standing
  s = standing_in store

  abbrev tx : Tx
  tx = c.take_up.new.self.tx

  abbrev rx : rxsc.RxValue
  rx = c.take_up.new.self.rx

  next : (txsc.tx_side_of tx).next ≡ s.ceilings.tx
  next = ap (λ side. side.next) c.take_up.ensures.tx

  numbers : (rxsc.rx_side_of rx).numbers ≡ (λ sci an. option_map first_numbers (s.ceilings.rx sci an))
  numbers = ap (λ side. side.numbers) c.take_up.ensures.rx

  abbrev having : QueueValue → EndpointValue g.row.D.Denot
  having queue = record {
    store = store;
    tx = tx;
    rx = rx;
    under_way = queue.under_way;
    reserving = option_map raise_of queue.reserving;
    waiting = queue.waiting;
    tickets = queue.given;
    turn = Reservation;
  }

  abbrev empty : QueueValue
  empty = record { waiting = []; given = 0; under_way = None; reserving = None }

  abbrev opened : EndpointValue g.row.D.Denot
  opened = having empty

  rests : IsAtRest opened
  rests = record {
    store = c.requires;
    reserving = refl;
    under_way = λ running. refl;
  }

  kept : IsSoundEndpoint opened
  kept =
      let made = c.take_up.ensures in
      record {
        identity = subst IsIdentity c.identity-2.ensures c.identity_in_range.ensures;
        channels = record {
          tx_is = made.tx ∙ ap (λ (n : ℕ → Option ℕ). tx_side_with s.identity s.config n) (sym next);
          rx_is = made.rx ∙ ap (λ (n : List ℕ → ℕ → Option Numbers). rx_side_with s.config n) (sym numbers);
          tx_ceilings = made.tx_ceilings;
          rx_ceilings = made.rx_ceilings;
        };
        within = record {
          tx_within = λ an. tx_begins s.identity.tx_block ((txsc.tx_side_of tx).next an) (txsc.ceilings_of tx an)
              (λ i. (next ∙ sym made.tx_ceilings) i an) (c.facts.ensures an).0;
          rx_within =
              λ sci an. rx_begins s.identity.rx_block ((rxsc.rx_side_of rx).numbers sci an) (rxsc.ceilings_of rx sci an)
              ((λ i. numbers i sci an) ∙ (λ i. option_map first_numbers (sym made.rx_ceilings i sci an)));
          few = λ sci an over. unnumbered (association_in (channel_at rx.channels sci) an)
              ((λ i. (made.rx i).rx sci an)
              ∙ subst (λ (k : Config). k.rx sci an ≡ None) c.config.ensures.config
              (c.facts-2.ensures.rx_numbers sci an over));
        };
        few = omega arith;
        tickets = omega arith;
        work = inl rests;
      }

pub invariant_of-result : goal.invariant_of-result
invariant_of-result g c =
    let at = (goal.at.invariant_of-result g c).After-new-3 in
    subst (λ (q : QueueValue). IsSoundEndpoint (having g at q)) (sym c.new-3.ensures) (kept g at)

pub returns : goal.returns
returns g c =
    let at = (goal.at.returns g c).After-new-3 in
    subst (λ (q : QueueValue). Begins (store g at) (having g at q)) (sym c.new-3.ensures) (record {
      from = refl;
      sound = kept g at;
      idle = (rests g at, refl);
      queue = (refl, refl);
      turn = refl;
      next = next g at;
      numbers = numbers g at;
      tx_counters = search rules;
      rx_counters = search rules;
      channel_counters = search rules;
    })
