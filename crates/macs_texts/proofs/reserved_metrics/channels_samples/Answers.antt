use Rattle.std.proofs.Common.{refl}
use Rattle.macs_endpoint.specs.Reserved.{reserved_of}
use Rattle.macs_texts.specs.Measuring.{own_label, rx_reserved_samples}
use Rattle.macs_texts.proofs.Adding.{next-item}
use Rattle.macs_texts.proofs.reserved_metrics.channels_samples.Goals as goal

pub loop-sci-preserved : goal.loop-sci-preserved
loop-sci-preserved g c =
    next-item (rx_reserved_samples (own_label c.args.own) (reserved_of c.args.endpoint.now))
    c.deref-sci-items.result.now _ c.loop-sci.sci-index _ c.sci-item.result
    c.args.paper.now c.loop-sci.paper c.rx_samples.new.paper refl c.loop-sci-test.true c.sci-item.is
    c.loop-sci.invariant c.rx_samples.ensures
