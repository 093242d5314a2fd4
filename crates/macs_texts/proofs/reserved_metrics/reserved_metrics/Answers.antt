use Rattle.macs_texts.proofs.Adding.{and_then}
use Rattle.macs_texts.proofs.reserved_metrics.reserved_metrics.Goals as goal

pub returns : goal.returns
returns g c = and_then c.args.paper.now c.tx_metric.new.paper c.rx_metric.new.paper _ _ c.tx_metric.ensures
    c.rx_metric.ensures
