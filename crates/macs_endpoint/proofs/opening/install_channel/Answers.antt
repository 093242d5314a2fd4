use Rattle.std.proofs.Common.{◌≡◌, ◌≤◌, ◌+◌, ℕ, List, None, subst, sym}
use Rattle.macs_config.specs.Config.{Config}
use Rattle.macs_rxsc.specs.Value as rxsc
use Rattle.macs_store.specs.Value.{standing_in}
use Rattle.macs_endpoint.proofs.Opened.{IsRxFilled, number_is, rx-all, rx-all-ceilings, rx-one-more, rx-next-empty}
use Rattle.macs_endpoint.proofs.Opened.{rx-passed}
use Rattle.macs_endpoint.proofs.opening.install_channel.Goals as goal
use Rattle.macs_endpoint.proofs.opening.install_channel.Goals.{in-Some, in_default}

pub install_rx-requires-clause-empty : goal.install_rx-requires-clause-empty
install_rx-requires-clause-empty g c =
    rx-next-empty (standing_in c.args.store.now) c.facts-2.ensures c.args.sci c.args.rx.now c.loop-an.rx
    c.loop-an.an-index _ c.loop-an.invariant
    (number_is c.all-an-items.result c.loop-an.an-index c.an-item.result c.all-an-items.ensures c.loop-an-test.true)

pub loop-an-preserved : goal.loop-an-preserved
loop-an-preserved g c =
    let s = standing_in c.args.store.now in
    let number = number_is c.all-an-items.result c.loop-an.an-index c.an-item.result c.all-an-items.ensures
    c.loop-an-test.true in
    elim c.match-rx_ceiling.branch [
      | in-Some w ↦
          subst (λ (rx : rxsc.RxValue). IsRxFilled s c.args.sci c.args.rx.now rx (c.loop-an.an-index + 1)) (sym w.rx-is)
          (rx-one-more s c.facts-2.ensures c.args.sci c.args.rx.now c.loop-an.rx c.loop-an.an-index _
          c.loop-an.invariant number
          w.in-Some.ceiling w.get.result w.install_rx.new.rx w.in-Some.ensures w.get.ensures.value
          w.install_rx.ensures.side
          w.install_rx.ensures.ceilings w.install_rx.ensures.counters w.install_rx.ensures.channel_counters)
      | in_default w ↦
          subst (λ (rx : rxsc.RxValue). IsRxFilled s c.args.sci c.args.rx.now rx (c.loop-an.an-index + 1)) (sym w.rx-is)
          (rx-passed s c.facts-2.ensures c.args.sci c.args.rx.now c.loop-an.rx c.loop-an.an-index _
          c.loop-an.invariant number
          w.in_default.ensures)
    ]

pub returns-clause-side : goal.returns-clause-side
returns-clause-side g c =
    rx-all (standing_in c.args.store.now) c.facts-2.ensures c.args.sci c.args.rx.now c.loop-an.rx c.loop-an.an-index
    c.loop-an.invariant
    c.loop-an-test.false (subst (λ (k : Config). (sci : List ℕ) (an : ℕ) → 4 ≤ an → k.rx sci an ≡ None)
    c.config.ensures.config c.facts.ensures.rx_numbers)

pub returns-clause-ceilings : goal.returns-clause-ceilings
returns-clause-ceilings g c =
    rx-all-ceilings (standing_in c.args.store.now) c.facts-2.ensures c.args.sci c.args.rx.now c.loop-an.rx
    c.loop-an.an-index c.loop-an.invariant
    c.loop-an-test.false (subst (λ (k : Config). (sci : List ℕ) (an : ℕ) → 4 ≤ an → k.rx sci an ≡ None)
    c.config.ensures.config c.facts.ensures.rx_numbers)
