use Rattle.macs_texts.proofs.Adding.{and_then}
use Rattle.macs_texts.proofs.measuring.keys_metric.Goals as goal

pub returns : goal.returns
returns c = and_then c.args.paper.now c.describe.new.paper c.sample-2.new.paper _ _ c.describe.ensures
    (and_then c.describe.new.paper c.sample.new.paper c.sample-2.new.paper _ _
    (rw (c.keys_left.ensures, c.spent_tx.ensures) at c.sample.ensures)
    (rw (c.keys_left-2.ensures, c.spent_rx.ensures) at c.sample-2.ensures))
