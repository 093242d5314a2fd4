use Rattle.std.proofs.Common.{◌∙◌, ◌≤◌, List, ℕ, ap, length, subst}
use Rattle.macs_config.specs.Config.{Config, IsConfig, this_edition}
use Rattle.macs_config.specs.Value.{config_of}
use Rattle.macs_store.specs.Value.{standing_in}
use Rattle.macs_endpoint.proofs.Opened.{add-free, added-empty, added-stands, is-next, nothing-opened, opened-ceilings}
use Rattle.macs_endpoint.proofs.Opened.{opened-more, opened-side}
use Rattle.macs_endpoint.proofs.opening.take_up_rx.Goals as goal

pub loop-sci-init : goal.loop-sci-init
loop-sci-init g c =
    nothing-opened (standing_in c.args.store.now) c.args.rx.now c.set_policy.new.rx c.requires.side
    c.set_policy.ensures.side
    c.requires.ceilings c.set_policy.ensures.ceilings c.requires.counters c.set_policy.ensures.counters
    c.requires.channel_counters c.set_policy.ensures.channel_counters

pub add-requires-clause-free : goal.add-requires-clause-free
add-requires-clause-free g c =
    let s = standing_in c.args.store.now in
    let next = is-next c.config-config.result.now.identity (config_of c.config-config.result.now) s.config
    c.deref-sci-items.result.now c.loop-sci.sci-index
    c.sci-item.result c.facts.ensures.config (c.deref-sci-items.ensures.0 ∙ c.channels.ensures)
    c.config-config.ensures.config c.loop-sci-test.true
    c.sci-item.is in
    add-free s s.config.channels c.loop-sci.sci-index c.sci-item.result next c.loop-sci.rx c.loop-sci.invariant

pub install_channel-requires-clause-stands : goal.install_channel-requires-clause-stands
install_channel-requires-clause-stands g c =
    let s = standing_in c.args.store.now in
    let next = is-next c.config-config.result.now.identity (config_of c.config-config.result.now) s.config
    c.deref-sci-items.result.now c.loop-sci.sci-index
    c.sci-item.result c.facts.ensures.config (c.deref-sci-items.ensures.0 ∙ c.channels.ensures)
    c.config-config.ensures.config c.loop-sci-test.true
    c.sci-item.is in
    added-stands s s.config.channels c.loop-sci.sci-index c.sci-item.result next c.loop-sci.rx c.loop-sci.invariant
    c.add.new.self c.add.ensures.side

pub install_channel-requires-clause-empty : goal.install_channel-requires-clause-empty
install_channel-requires-clause-empty g c =
    let s = standing_in c.args.store.now in
    let next = is-next c.config-config.result.now.identity (config_of c.config-config.result.now) s.config
    c.deref-sci-items.result.now c.loop-sci.sci-index
    c.sci-item.result c.facts.ensures.config (c.deref-sci-items.ensures.0 ∙ c.channels.ensures)
    c.config-config.ensures.config c.loop-sci-test.true
    c.sci-item.is in
    added-empty s s.config.channels c.loop-sci.sci-index c.sci-item.result next c.loop-sci.rx c.loop-sci.invariant
    c.add.new.self c.add.ensures.side

pub loop-sci-preserved : goal.loop-sci-preserved
loop-sci-preserved g c =
    let s = standing_in c.args.store.now in
    let next = is-next c.config-config.result.now.identity (config_of c.config-config.result.now) s.config
    c.deref-sci-items.result.now c.loop-sci.sci-index
    c.sci-item.result c.facts.ensures.config (c.deref-sci-items.ensures.0 ∙ c.channels.ensures)
    c.config-config.ensures.config c.loop-sci-test.true
    c.sci-item.is in
    opened-more s s.config.channels c.loop-sci.sci-index c.sci-item.result next c.loop-sci.rx c.loop-sci.invariant
    c.add.new.self c.add.ensures.side c.install_channel.new.rx c.install_channel.ensures.side c.add.ensures.ceilings
    c.install_channel.ensures.ceilings c.add.ensures.counters c.install_channel.ensures.counters
    c.add.ensures.channel_counters
    c.install_channel.ensures.channel_counters

pub returns-clause-side : goal.returns-clause-side
returns-clause-side g c =
    let s = standing_in c.args.store.now in
    let items = c.deref-sci-items.ensures.0 ∙ c.channels.ensures
    ∙ ap (λ (k : Config). k.channels) c.config-config.ensures.config in
    let is = subst (λ (k : Config). IsConfig this_edition c.config-config.result.now.identity k)
    c.config-config.ensures.config c.facts.ensures.config in
    opened-side s c.facts-2.ensures c.loop-sci.rx c.loop-sci.sci-index
    c.loop-sci.invariant
    (subst (λ (xs : List (List ℕ)). length xs ≤ c.loop-sci.sci-index) items c.loop-sci-test.false) is.rx_channels

pub returns-clause-ceilings : goal.returns-clause-ceilings
returns-clause-ceilings g c =
    let s = standing_in c.args.store.now in
    let items = c.deref-sci-items.ensures.0 ∙ c.channels.ensures
    ∙ ap (λ (k : Config). k.channels) c.config-config.ensures.config in
    let is = subst (λ (k : Config). IsConfig this_edition c.config-config.result.now.identity k)
    c.config-config.ensures.config c.facts.ensures.config in
    opened-ceilings s c.facts-2.ensures c.loop-sci.rx c.loop-sci.sci-index
    c.loop-sci.invariant
    (subst (λ (xs : List (List ℕ)). length xs ≤ c.loop-sci.sci-index) items c.loop-sci-test.false) is.rx_channels
