use Rattle.macs_texts.proofs.Adding.{and_then}
use Rattle.macs_texts.proofs.reserved_metrics.rx_metric.Goals as goal

pub returns : goal.returns
returns g c = and_then c.args.paper.now c.describe.new.paper c.channels_samples.new.paper _ _ c.describe.ensures
    c.channels_samples.ensures
