use Rattle.macs_rxsc.proofs.Shown.{kept_as}
use Rattle.macs_rxsc.specs.Value.{ceilings_among, rx_side_in}
use Rattle.macs_rxsc.proofs.Order.{ordered-raised}
use Rattle.macs_rxsc.proofs.receive.Rx.raise.Goals as goal

pub invariant_of-self : goal.invariant_of-self
invariant_of-self c =
    let side =
    rx_side_in c.self.inside.policy.validate c.self.inside.policy.replay c.self.inside.table.channels.items in
    kept_as c.self.inside.policy.validate c.self.inside.policy.replay _ c.self.inside.counters _ _
    (c.raise.ensures.side c.self.inside.policy.validate c.self.inside.policy.replay) c.raise.ensures.ceilings
    c.self.invariant.ascending
    (ordered-raised side (ceilings_among c.self.inside.table.channels.items) c.self.invariant.ordered c.args.sci
    c.args.an c.args.ceiling
    (rw (← c.self.view_is) at c.requires.stands) (rw (← c.self.view_is) at c.requires.higher) c.requires.bounded)

pub returns-clause-side : goal.returns-clause-side
returns-clause-side c =
    rw (← c.self.view_is) (c.raise.ensures.side c.self.inside.policy.validate c.self.inside.policy.replay)
