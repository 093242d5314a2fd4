use Rattle.std.proofs.Common.{None}
use Rattle.macs_rxsc.proofs.Shown.{kept_as}
use Rattle.macs_rxsc.specs.Value.{ceilings_among, rx_side_in}
use Rattle.macs_rxsc.proofs.Needs.{among}
use Rattle.macs_rxsc.proofs.Order.{ordered-put}
use Rattle.macs_rxsc.proofs.receive.Rx.remove.Goals as goal

pub put-requires : goal.put-requires
put-requires c = among c.self.inside.table.channels.items c.args.sci c.args.an (rw (← c.self.view_is) at c.requires)

pub invariant_of-self : goal.invariant_of-self
invariant_of-self c =
    let side =
    rx_side_in c.self.inside.policy.validate c.self.inside.policy.replay c.self.inside.table.channels.items in
    kept_as c.self.inside.policy.validate c.self.inside.policy.replay _ c.self.inside.counters _ _
    (c.put.ensures.side c.self.inside.policy.validate c.self.inside.policy.replay) c.put.ensures.ceilings
    c.self.invariant.ascending
    (ordered-put side (ceilings_among c.self.inside.table.channels.items) c.self.invariant.ordered c.args.sci c.args.an
    None None None tt)

pub returns-clause-side : goal.returns-clause-side
returns-clause-side c =
    rw (← c.self.view_is) (c.put.ensures.side c.self.inside.policy.validate c.self.inside.policy.replay)
