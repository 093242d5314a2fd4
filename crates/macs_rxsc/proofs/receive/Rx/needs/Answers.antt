use Rattle.macs_rxsc.proofs.Told.{need_higher, need_stands}
use Rattle.macs_rxsc.specs.Value.{ceilings_among, rx_side_in}
use Rattle.macs_rxsc.proofs.receive.Rx.needs.Goals as goal

pub returns-clause-stands : goal.returns-clause-stands
returns-clause-stands c =
    let items = c.self.inside.table.channels.items in
    rw (← c.self.view_is) (need_stands (rx_side_in c.self.inside.policy.validate c.self.inside.policy.replay items)
    (ceilings_among items) c.args.rx_block c.self.invariant.ordered _
    (c.need.ensures c.self.inside.policy.validate c.self.inside.policy.replay))

pub returns-clause-higher : goal.returns-clause-higher
returns-clause-higher c =
    let items = c.self.inside.table.channels.items in
    rw (← c.self.view_is)
    (need_higher (rx_side_in c.self.inside.policy.validate c.self.inside.policy.replay items) (ceilings_among items)
    c.args.rx_block _ (c.need.ensures c.self.inside.policy.validate c.self.inside.policy.replay))
