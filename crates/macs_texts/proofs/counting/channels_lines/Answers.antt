use Rattle.std.proofs.Common.{refl}
use Rattle.macs_rxsc.specs.Value.{channel_counters_of}
use Rattle.macs_texts.specs.Counting.{channel_text}
use Rattle.macs_texts.proofs.Adding.{next-item}
use Rattle.macs_texts.proofs.counting.channels_lines.Goals as goal

pub loop-sci-preserved : goal.loop-sci-preserved
loop-sci-preserved g c =
    next-item (channel_text (channel_counters_of c.args.endpoint.now.rx)) c.deref-sci-items.result.now _
    c.loop-sci.sci-index _ c.sci-item.result
    c.args.paper.now c.loop-sci.paper c.channel_lines.new.paper refl c.loop-sci-test.true c.sci-item.is
    c.loop-sci.invariant c.channel_lines.ensures
