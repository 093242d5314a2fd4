use Rattle.std.proofs.Common.{Some}
use Rattle.macs_rxsc.proofs.Shown.{kept_as}
use Rattle.macs_rxsc.specs.Value.{ceilings_among, rx_side_in}
use Rattle.macs_rxsc.proofs.Order.{ordered-put, started_stands}
use Rattle.macs_rxsc.specs.Receive.{first_numbers}
use Rattle.macs_rxsc.proofs.receive.Rx.install.Goals as goal

pub invariant_of-self : goal.invariant_of-self
invariant_of-self c =
    let side =
    rx_side_in c.self.inside.policy.validate c.self.inside.policy.replay c.self.inside.table.channels.items in
    kept_as c.self.inside.policy.validate c.self.inside.policy.replay _ c.self.inside.counters _ _
    (c.put.ensures.side c.self.inside.policy.validate c.self.inside.policy.replay) c.put.ensures.ceilings
    c.self.invariant.ascending
    (ordered-put side (ceilings_among c.self.inside.table.channels.items) c.self.invariant.ordered c.args.sci c.args.an
    (Some (record { key = c.new.result; offset = c.args.offset })) (Some (first_numbers c.args.next))
    (Some c.args.ceiling)
    (started_stands side.replay.window (record { key = c.new.result; offset = c.args.offset }) c.args.next
    c.args.ceiling c.requires.numbered c.requires.ordered c.requires.bounded))

pub returns-clause-side : goal.returns-clause-side
returns-clause-side c = rw (← c.self.view_is, ← c.new.ensures)
    (c.put.ensures.side c.self.inside.policy.validate c.self.inside.policy.replay)
