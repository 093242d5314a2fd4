use Rattle.std.proofs.Common.{◌∙◌, ap}
use Rattle.macs_rxsc.specs.Value.{ceilings_among, counters_among, rx_side_in}
use Rattle.macs_rxsc.proofs.Resting.{ceilings-resting, counters-resting, ordered-resting, shown-resting}
use Rattle.macs_rxsc.proofs.Shown.{kept_as}
use Rattle.macs_rxsc.proofs.receive.Rx.lower.Goals as goal

pub invariant_of-self : goal.invariant_of-self
invariant_of-self c =
    let items = c.self.inside.table.channels.items in
    let side = rx_side_in c.self.inside.policy.validate c.self.inside.policy.replay items in
    kept_as c.self.inside.policy.validate c.self.inside.policy.replay _ c.self.inside.counters _ _
    (ap (rx_side_in c.self.inside.policy.validate c.self.inside.policy.replay) c.lower.ensures
    ∙ shown-resting items c.self.inside.policy.validate c.self.inside.policy.replay)
    (ap ceilings_among c.lower.ensures ∙ ceilings-resting items)
    c.self.invariant.ascending
    (ordered-resting side (ceilings_among items) c.self.invariant.ordered)

pub returns-clause-side : goal.returns-clause-side
returns-clause-side c =
    rw (← c.self.view_is)
    (ap (rx_side_in c.self.inside.policy.validate c.self.inside.policy.replay) c.lower.ensures
    ∙ shown-resting c.self.inside.table.channels.items c.self.inside.policy.validate c.self.inside.policy.replay)

pub returns-clause-ceilings : goal.returns-clause-ceilings
returns-clause-ceilings c = rw (← c.self.view_is)
    (ap ceilings_among c.lower.ensures ∙ ceilings-resting c.self.inside.table.channels.items)

pub returns-clause-channel_counters : goal.returns-clause-channel_counters
returns-clause-channel_counters c = rw (← c.self.view_is)
    (ap counters_among c.lower.ensures ∙ counters-resting c.self.inside.table.channels.items)
