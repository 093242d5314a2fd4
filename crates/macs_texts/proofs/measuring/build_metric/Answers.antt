use Rattle.macs_texts.proofs.Adding.{and_then}
use Rattle.macs_texts.proofs.measuring.build_metric.Goals as goal

pub returns : goal.returns
returns c = and_then c.args.paper.now c.describe.new.paper c.build_sample.new.paper _ _ c.describe.ensures
    c.build_sample.ensures
