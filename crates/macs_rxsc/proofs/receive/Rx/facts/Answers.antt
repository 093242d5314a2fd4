use Rattle.macs_rxsc.proofs.Needs.{among}
use Rattle.macs_rxsc.proofs.Told.{counted}
use Rattle.macs_rxsc.proofs.receive.Rx.facts.Goals as goal

pub returns-clause-stands : goal.returns-clause-stands
returns-clause-stands c = rw (← c.self.view_is) (among c.self.inside.table.channels.items)

pub returns-clause-counted : goal.returns-clause-counted
returns-clause-counted c = rw (← c.self.view_is) (counted c.self.inside.table.channels.items)
