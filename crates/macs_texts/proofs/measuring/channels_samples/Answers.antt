use Rattle.std.proofs.Common.{refl}
use Rattle.macs_rxsc.specs.Value.{channel_counters_of}
use Rattle.macs_texts.specs.Measuring.{channel_samples, own_label}
use Rattle.macs_texts.proofs.Adding.{next-item}
use Rattle.macs_texts.proofs.measuring.channels_samples.Goals as goal

pub loop-sci-preserved : goal.loop-sci-preserved
loop-sci-preserved g c =
    next-item (channel_samples (own_label c.args.own) (channel_counters_of c.args.endpoint.now.rx))
    c.deref-sci-items.result.now _ c.loop-sci.sci-index _ c.sci-item.result
    c.args.paper.now c.loop-sci.paper c.channel_samples.new.paper refl c.loop-sci-test.true c.sci-item.is
    c.loop-sci.invariant c.channel_samples.ensures
