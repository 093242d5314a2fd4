use Rattle.macs_store.proofs.standing.Standing.facts.Goals as goal

pub returns-clause-stands : goal.returns-clause-stands
returns-clause-stands c =
    rw (← c.self.view_is) (c.snapshot_stands_for_itself.ensures.stands _ c.facts.ensures.config c.self.invariant.0
    c.facts.ensures.tx_numbers
    c.facts.ensures.rx_numbers)

pub returns-clause-few : goal.returns-clause-few
returns-clause-few c =
    rw (← c.self.view_is) (c.snapshot_stands_for_itself.ensures.few _ c.facts.ensures.config.channels_fit)
