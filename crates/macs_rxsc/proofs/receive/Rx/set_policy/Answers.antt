use Rattle.std.proofs.Common.{◌∙◌, ap}
use Rattle.macs_rxsc.proofs.Shown.{kept_as, ceilings-slid, shown-slid}
use Rattle.macs_rxsc.specs.Value.{ceilings_among, rx_side_in}
use Rattle.macs_rxsc.proofs.Order.{ordered-windowed}
use Rattle.macs_rxsc.proofs.Shown.{counters-slid}
use Rattle.macs_rxsc.specs.Value.{counters_among}
use Rattle.macs_rxsc.proofs.receive.Rx.set_policy.Goals as goal

pub invariant_of-self : goal.invariant_of-self
invariant_of-self c =
    let items = c.self.inside.table.channels.items in
    let side = rx_side_in c.self.inside.policy.validate c.self.inside.policy.replay items in
    kept_as c.args.validate (record { on = c.args.on; window = c.args.window }) _ c.self.inside.counters _ _
    (ap (rx_side_in c.args.validate (record { on = c.args.on; window = c.args.window })) c.slide.ensures
    ∙ shown-slid items c.args.window c.args.validate (record { on = c.args.on; window = c.args.window })
    c.self.inside.policy.validate c.self.inside.policy.replay)
    (ap ceilings_among c.slide.ensures ∙ ceilings-slid items c.args.window)
    c.self.invariant.ascending
    (ordered-windowed side (ceilings_among items) c.self.invariant.ordered c.args.validate c.args.on c.args.window)

pub returns-clause-side : goal.returns-clause-side
returns-clause-side c =
    rw (← c.self.view_is)
    (ap (rx_side_in c.args.validate (record { on = c.args.on; window = c.args.window })) c.slide.ensures
    ∙ shown-slid c.self.inside.table.channels.items c.args.window c.args.validate
    (record { on = c.args.on; window = c.args.window }) c.self.inside.policy.validate c.self.inside.policy.replay)

pub returns-clause-ceilings : goal.returns-clause-ceilings
returns-clause-ceilings c = rw (← c.self.view_is)
    (ap ceilings_among c.slide.ensures ∙ ceilings-slid c.self.inside.table.channels.items c.args.window)

pub returns-clause-channel_counters : goal.returns-clause-channel_counters
returns-clause-channel_counters c = rw (← c.self.view_is)
    (ap counters_among c.slide.ensures ∙ counters-slid c.self.inside.table.channels.items c.args.window)
