use Rattle.std.proofs.Common.{arith}
use Rattle.macs_rxsc.proofs.Places.{mapped_more}
use Rattle.macs_rxsc.specs.Value.{channel_under}
use Rattle.macs_rxsc.proofs.table.slide_all.Goals as goal

pub loop-channel-preserved : goal.loop-channel-preserved
loop-channel-preserved c =
    mapped_more (channel_under c.args.window) c.args.channels.now c.loop-channel.channels c.loop-channel.channel-index
    c.channel-item.result c.slide.new.self
    (omega arith) c.loop-channel.invariant c.slide.ensures
