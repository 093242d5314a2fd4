use Rattle.std.proofs.Common.{refl}
use Rattle.macs_endpoint.specs.State.{no_logs}
use Rattle.macs_endpoint.specs.Value.{state_of}
use Rattle.macs_texts.specs.Showing.{channel_text}
use Rattle.macs_texts.proofs.Adding.{next-item}
use Rattle.macs_texts.proofs.showing.channel_texts.Goals as goal

pub loop-sci-preserved : goal.loop-sci-preserved
loop-sci-preserved g c =
    next-item (channel_text (state_of c.args.endpoint.now no_logs)) c.deref-sci-items.result.now _ c.loop-sci.sci-index
    _ c.sci-item.result
    c.args.paper.now c.loop-sci.paper c.channel_text.new.paper refl c.loop-sci-test.true c.sci-item.is
    c.loop-sci.invariant c.channel_text.ensures
