use Rattle.macs_rxsc.proofs.Shown.{kept_as}
use Rattle.macs_rxsc.specs.Value.{ceilings_among, rx_side_in}
use Rattle.macs_rxsc.proofs.Order.{ordered-received}
use Rattle.macs_rxsc.proofs.receive.Rx.receive.Goals as goal

pub invariant_of-self : goal.invariant_of-self
invariant_of-self c =
    let side =
    rx_side_in c.self.inside.policy.validate c.self.inside.policy.replay c.self.inside.table.channels.items in
    kept_as c.self.inside.policy.validate c.self.inside.policy.replay _ _ _ _
    c.receive-verdict.ensures.side c.receive-verdict.ensures.ceilings c.self.invariant.ascending
    (ordered-received side (ceilings_among c.self.inside.table.channels.items) c.args.frame.now _
    c.self.invariant.ordered c.receive-verdict.ensures.outcome)

pub returns-clause-verdict : goal.returns-clause-verdict
returns-clause-verdict c = rw (← c.self.view_is) c.receive-verdict.ensures.outcome
