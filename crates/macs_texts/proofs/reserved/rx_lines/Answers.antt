use Rattle.std.proofs.Common.{refl}
use Rattle.macs_endpoint.specs.Reserved.{reserved_of}
use Rattle.macs_texts.specs.ReservedTexts.{channel_text}
use Rattle.macs_texts.proofs.Adding.{next-item}
use Rattle.macs_texts.proofs.reserved.rx_lines.Goals as goal

pub loop-sci-preserved : goal.loop-sci-preserved
loop-sci-preserved g c =
    next-item (channel_text (reserved_of c.args.endpoint.now)) c.deref-sci-items.result.now _
    c.loop-sci.sci-index _ c.sci-item.result
    c.args.paper.now c.loop-sci.paper c.channel_lines.new.paper refl c.loop-sci-test.true c.sci-item.is
    c.loop-sci.invariant c.channel_lines.ensures
