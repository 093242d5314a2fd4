use Rattle.macs_store.specs.Value.{standing_in}
use Rattle.macs_endpoint.proofs.Opened.{IsTxFilled}
use Rattle.macs_endpoint.proofs.opening.take_up_tx.Given as goal

abbrev pub invariant-loop-an : goal.invariant-loop-an
invariant-loop-an g l = IsTxFilled (standing_in l.store) l.tx l.an-index
