use Rattle.macs_endpoint.proofs.refilling.start_ceiling.Goals as goal

pub returns-in-Tx : goal.returns-in-Tx
returns-in-Tx g c = rw c.in-Tx.is c.start_tx.ensures

pub returns-in-Rx : goal.returns-in-Rx
returns-in-Rx g c = rw c.in-Rx.is c.start_rx.ensures
