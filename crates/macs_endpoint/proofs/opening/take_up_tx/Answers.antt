use Rattle.std.proofs.Common.{◌≡◌, ◌∙◌, ◌≤◌, ◌+◌, ℕ, None, ap, refl, subst, sym}
use Rattle.macs_config.specs.Config.{Config, IsConfig, this_edition}
use Rattle.macs_txsc.specs.declared.channel.Tx.{Tx}
use Rattle.macs_store.specs.Value.{standing_in}
use Rattle.macs_endpoint.proofs.Opened.{IsTxFilled, number_is, select-stands, tx-all-ceilings, tx-one-more}
use Rattle.macs_endpoint.proofs.Opened.{tx-next-empty, tx-passed, tx-selected, tx-unfilled, tx-unselected}
use Rattle.macs_endpoint.proofs.opening.take_up_tx.Goals as goal
use Rattle.macs_endpoint.proofs.opening.take_up_tx.Goals.{in-Some, in_default}

pub loop-an-init : goal.loop-an-init
loop-an-init g c =
    let s = standing_in c.args.store.now in
    tx-unfilled s s.identity.sci c.sci_mode.result c.args.tx.now c.set_mode.new.self refl
    (c.sci_mode.ensures ∙ ap (λ (k : Config). k.mode) c.config-config.ensures.config) c.requires.side
    c.set_mode.ensures.side
    c.requires.ceilings c.set_mode.ensures.ceilings c.requires.counters c.set_mode.ensures.counters

pub install_tx-requires-clause-empty : goal.install_tx-requires-clause-empty
install_tx-requires-clause-empty g c =
    tx-next-empty (standing_in c.args.store.now) c.facts-2.ensures c.loop-an.tx c.loop-an.an-index _ c.loop-an.invariant
    (number_is c.all-an-items.result c.loop-an.an-index c.an-item.result c.all-an-items.ensures c.loop-an-test.true)

pub loop-an-preserved : goal.loop-an-preserved
loop-an-preserved g c =
    let s = standing_in c.args.store.now in
    let number = number_is c.all-an-items.result c.loop-an.an-index c.an-item.result c.all-an-items.ensures
    c.loop-an-test.true in
    elim c.match-tx_ceiling.branch [
      | in-Some w ↦
          subst (λ (tx : Tx). IsTxFilled s tx (c.loop-an.an-index + 1)) (sym w.tx-is)
          (tx-one-more s c.facts-2.ensures c.loop-an.tx c.loop-an.an-index _ c.loop-an.invariant number
          w.in-Some.ceiling w.get.result w.install_tx.new.tx w.in-Some.ensures w.get.ensures.value
          w.install_tx.ensures.side
          w.install_tx.ensures.ceilings w.install_tx.ensures.counters)
      | in_default w ↦
          subst (λ (tx : Tx). IsTxFilled s tx (c.loop-an.an-index + 1)) (sym w.tx-is)
          (tx-passed s c.facts-2.ensures c.loop-an.tx c.loop-an.an-index _ c.loop-an.invariant number
          w.in_default.ensures)
    ]

pub select-requires : goal.select-requires
select-requires g c =
    let s = standing_in c.args.store.now in
    let is = subst (λ (k : Config). IsConfig this_edition c.config-config.result.now.identity k)
    c.config-config.ensures.config c.facts.ensures.config in
    select-stands s c.facts-2.ensures c.loop-an.tx c.loop-an.an-index
    c.loop-an.invariant c.loop-an-test.false
    (subst (λ (k : Config). (an : ℕ) → 4 ≤ an → k.tx an ≡ None) c.config-config.ensures.config
    c.facts.ensures.tx_numbers)
    c.in-Some-encoding.an is.encoding_stands
    (c.in-Some-encoding.ensures ∙ ap (λ (k : Config). k.encoding) c.config-config.ensures.config)

pub returns-in-Some-encoding-clause-side : goal.returns-in-Some-encoding-clause-side
returns-in-Some-encoding-clause-side g c =
    tx-selected (standing_in c.args.store.now) c.facts-2.ensures c.loop-an.tx c.loop-an.an-index
    c.loop-an.invariant c.loop-an-test.false
    (subst (λ (k : Config). (an : ℕ) → 4 ≤ an → k.tx an ≡ None) c.config-config.ensures.config
    c.facts.ensures.tx_numbers)
    c.in-Some-encoding.an _ (c.in-Some-encoding.ensures
    ∙ ap (λ (k : Config). k.encoding) c.config-config.ensures.config) c.select.ensures.side

pub returns-in-Some-encoding-clause-ceilings : goal.returns-in-Some-encoding-clause-ceilings
returns-in-Some-encoding-clause-ceilings g c =
    c.select.ensures.ceilings
    ∙ tx-all-ceilings (standing_in c.args.store.now) c.facts-2.ensures c.loop-an.tx c.loop-an.an-index
    c.loop-an.invariant c.loop-an-test.false
    (subst (λ (k : Config). (an : ℕ) → 4 ≤ an → k.tx an ≡ None) c.config-config.ensures.config
    c.facts.ensures.tx_numbers)

pub returns-in_default-encoding-clause-side : goal.returns-in_default-encoding-clause-side
returns-in_default-encoding-clause-side g c =
    tx-unselected (standing_in c.args.store.now) c.facts-2.ensures c.loop-an.tx c.loop-an.an-index
    c.loop-an.invariant c.loop-an-test.false
    (subst (λ (k : Config). (an : ℕ) → 4 ≤ an → k.tx an ≡ None) c.config-config.ensures.config
    c.facts.ensures.tx_numbers)
    (c.in_default-encoding.ensures ∙ ap (λ (k : Config). k.encoding) c.config-config.ensures.config)

pub returns-in_default-encoding-clause-ceilings : goal.returns-in_default-encoding-clause-ceilings
returns-in_default-encoding-clause-ceilings g c =
    tx-all-ceilings (standing_in c.args.store.now) c.facts-2.ensures c.loop-an.tx c.loop-an.an-index
    c.loop-an.invariant c.loop-an-test.false
    (subst (λ (k : Config). (an : ℕ) → 4 ≤ an → k.tx an ≡ None) c.config-config.ensures.config
    c.facts.ensures.tx_numbers)
