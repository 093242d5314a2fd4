use Rattle.macs_rxsc.proofs.Shown.{kept_as}
use Rattle.macs_rxsc.specs.Value.{rx_side_in}
use Rattle.macs_config.proofs.Channels.{ascending-put_among}
use Rattle.macs_rxsc.proofs.receive.Rx.add.Goals as goal

pub invariant_of-self : goal.invariant_of-self
invariant_of-self c =
    let side =
    rx_side_in c.self.inside.policy.validate c.self.inside.policy.replay c.self.inside.table.channels.items in
    kept_as c.self.inside.policy.validate c.self.inside.policy.replay _ c.self.inside.counters _ _
    (c.add.ensures.side c.self.inside.policy.validate c.self.inside.policy.replay) c.add.ensures.ceilings
    (ascending-put_among c.args.sci side.channels (rw (← c.self.view_is) at c.requires.free) c.self.invariant.ascending)
    c.self.invariant.ordered

pub returns-clause-side : goal.returns-clause-side
returns-clause-side c =
    rw (← c.self.view_is) (c.add.ensures.side c.self.inside.policy.validate c.self.inside.policy.replay)
