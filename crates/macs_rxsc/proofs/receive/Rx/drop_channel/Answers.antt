use Rattle.std.proofs.Common.{filter, not, bytes_eq}
use Rattle.macs_rxsc.proofs.Shown.{kept_as}
use Rattle.macs_rxsc.specs.Value.{ceilings_among, rx_side_in}
use Rattle.macs_config.proofs.Channels.{ascending-filter}
use Rattle.macs_rxsc.proofs.Order.{ordered-gone}
use Rattle.macs_rxsc.proofs.receive.Rx.drop_channel.Goals as goal

pub invariant_of-self : goal.invariant_of-self
invariant_of-self c =
    let side =
    rx_side_in c.self.inside.policy.validate c.self.inside.policy.replay c.self.inside.table.channels.items in
    kept_as c.self.inside.policy.validate c.self.inside.policy.replay _ c.self.inside.counters _ _
    (c.drop_channel.ensures.side c.self.inside.policy.validate c.self.inside.policy.replay)
    c.drop_channel.ensures.ceilings
    (ascending-filter _ side.channels c.self.invariant.ascending)
    (ordered-gone side (ceilings_among c.self.inside.table.channels.items) c.self.invariant.ordered c.args.sci
    (filter (λ other. not (bytes_eq other c.args.sci)) side.channels))

pub returns-clause-side : goal.returns-clause-side
returns-clause-side c =
    rw (← c.self.view_is) (c.drop_channel.ensures.side c.self.inside.policy.validate c.self.inside.policy.replay)
