use Rattle.std.proofs.Common.{refl}
use Rattle.macs_config.specs.Value.{config_of}
use Rattle.macs_texts.specs.KeyTexts.{channel_keys}
use Rattle.macs_texts.proofs.Adding.{next-item}
use Rattle.macs_texts.proofs.keys.rx_keys.Goals as goal

pub loop-sci-preserved : goal.loop-sci-preserved
loop-sci-preserved c =
    next-item (channel_keys (config_of c.args.config.now)) c.deref-sci-items.result.now _ c.loop-sci.sci-index _
    c.sci-item.result
    c.args.paper.now c.loop-sci.paper c.channel_keys.new.paper refl c.loop-sci-test.true c.sci-item.is
    c.loop-sci.invariant c.channel_keys.ensures
