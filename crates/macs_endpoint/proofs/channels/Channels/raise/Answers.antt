use Rattle.std.proofs.Common.{◌≡◌, ◌∙◌, Some, is_some, ap, sym, subst}
use Rattle.macs_rxsc.specs.Needs.{Need}
use Rattle.macs_store.specs.Value.{standing_in}
use Rattle.macs_endpoint.specs.Ceilings.{standing_with_raise}
use Rattle.macs_endpoint.specs.Parts.{raise_of}
use Rattle.macs_endpoint.specs.Value.{IsRaiseWithin}
use Rattle.macs_endpoint.specs.declared.refilling.Raise.{Raise}
use Rattle.macs_endpoint.specs.declared.refilling.Raise.TheVariants.{Rx, Tx}
use Rattle.macs_endpoint.proofs.Lifted.{rx-channels, rx-higher, rx-lifted, tx-channels, tx-higher, tx-lifted}
use Rattle.macs_endpoint.proofs.channels.Channels.raise.Given.{Over}
use Rattle.macs_endpoint.proofs.channels.Channels.raise.Goals.{In-Rx, In-Tx}
use Rattle.macs_endpoint.proofs.channels.Channels.raise.Goals as goal

module _ (g : Over) (c : In-Tx g) where
  tx_within : IsRaiseWithin c.args.self.now.tx c.args.self.now.rx c.requires.0.identity (raise_of (Tx c.in-Tx.an))
  tx_within = subst (λ (r : Raise).
      IsRaiseWithin c.args.self.now.tx c.args.self.now.rx c.requires.0.identity (raise_of r)) c.in-Tx.is c.requires.2

  tx_is : standing_in c.args.store.now ≡ standing_with_raise c.requires.0 (raise_of (Tx c.in-Tx.an))
  tx_is = subst (λ (r : Raise). standing_in c.args.store.now ≡ standing_with_raise c.requires.0 (raise_of r)) c.in-Tx.is
      c.requires.3

module _ (g : Over) (c : In-Rx g) where
  abbrev need : Need
  need = record { sci = c.in-Rx.need.sci; an = c.in-Rx.need.an; pn = c.in-Rx.need.pn }

  rx_within : IsRaiseWithin c.args.self.now.tx c.args.self.now.rx c.requires.0.identity (raise_of (Rx c.in-Rx.need))
  rx_within = subst (λ (r : Raise).
      IsRaiseWithin c.args.self.now.tx c.args.self.now.rx c.requires.0.identity (raise_of r)) c.in-Rx.is c.requires.2

  rx_is : standing_in c.args.store.now ≡ standing_with_raise c.requires.0 (raise_of (Rx c.in-Rx.need))
  rx_is = subst (λ (r : Raise). standing_in c.args.store.now ≡ standing_with_raise c.requires.0 (raise_of r)) c.in-Rx.is
      c.requires.3

pub unwrap-ceiling-requires : goal.unwrap-ceiling-requires
unwrap-ceiling-requires g c =
    let at = (goal.at.unwrap-ceiling-requires g c).In-Tx in
    ap is_some c.tx_ceiling.ensures
    ∙ tx-lifted c.args.self.now.tx c.args.self.now.rx c.requires.0 (standing_in c.args.store.now) c.requires.1
    c.in-Tx.an (tx_within g at) (tx_is g at)

pub raise-requires-clause-higher : goal.raise-requires-clause-higher
raise-requires-clause-higher g c =
    let at = (goal.at.raise-requires-clause-higher g c).In-Tx in
    tx-higher c.args.self.now.tx c.args.self.now.rx c.requires.0 (standing_in c.args.store.now) c.requires.1 c.in-Tx.an
    (tx_within g at) (tx_is g at)
    c.get.result (sym c.tx_ceiling.ensures ∙ c.unwrap-ceiling.ensures ∙ ap Some (sym c.get.ensures.value))

pub unwrap-ceiling-requires-in-Rx : goal.unwrap-ceiling-requires-in-Rx
unwrap-ceiling-requires-in-Rx g c =
    let at = (goal.at.unwrap-ceiling-requires-in-Rx g c).In-Rx in
    ap is_some c.rx_ceiling.ensures
    ∙ rx-lifted c.args.self.now.tx c.args.self.now.rx c.requires.0 (standing_in c.args.store.now) c.requires.1
    (need g at) (rx_within g at) (rx_is g at)

pub raise-requires-in-Rx-clause-higher : goal.raise-requires-in-Rx-clause-higher
raise-requires-in-Rx-clause-higher g c =
    let at = (goal.at.raise-requires-in-Rx-clause-higher g c).In-Rx in
    rx-higher c.args.self.now.tx c.args.self.now.rx c.requires.0 (standing_in c.args.store.now) c.requires.1 (need g at)
    (rx_within g at) (rx_is g at)
    c.get-in-Rx.result
    (sym c.rx_ceiling.ensures ∙ c.unwrap-ceiling-in-Rx.ensures ∙ ap Some (sym c.get-in-Rx.ensures.value))

pub returns-in-Tx-clause-channels : goal.returns-in-Tx-clause-channels
returns-in-Tx-clause-channels g c =
    let at = (goal.at.returns-in-Tx-clause-channels g c).In-Tx in
    tx-channels c.args.self.now.tx c.args.self.now.rx c.requires.0 (standing_in c.args.store.now) c.requires.1
    c.in-Tx.an (tx_within g at) (tx_is g at)
    c.raise.new.self c.get.result
    (sym c.tx_ceiling.ensures ∙ c.unwrap-ceiling.ensures ∙ ap Some (sym c.get.ensures.value)) c.raise.ensures.side
    c.raise.ensures.ceilings

pub returns-in-Rx-clause-channels : goal.returns-in-Rx-clause-channels
returns-in-Rx-clause-channels g c =
    let at = (goal.at.returns-in-Rx-clause-channels g c).In-Rx in
    rx-channels c.args.self.now.tx c.args.self.now.rx c.requires.0 (standing_in c.args.store.now) c.requires.1
    (need g at) (rx_within g at) (rx_is g at)
    c.raise-in-Rx.new.self c.get-in-Rx.result
    (sym c.rx_ceiling.ensures ∙ c.unwrap-ceiling-in-Rx.ensures ∙ ap Some (sym c.get-in-Rx.ensures.value))
    c.raise-in-Rx.ensures.side c.raise-in-Rx.ensures.ceilings
