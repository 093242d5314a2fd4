use Rattle.std.proofs.Common.{arith}
use Rattle.macs_rxsc.proofs.Places.{mapped_more}
use Rattle.macs_rxsc.specs.Value.{channel_at_rest}
use Rattle.macs_rxsc.proofs.table.lower_all.Goals as goal

pub loop-channel-preserved : goal.loop-channel-preserved
loop-channel-preserved c =
    mapped_more channel_at_rest c.args.channels.now c.loop-channel.channels c.loop-channel.channel-index
    c.channel-item.result c.lower.new.self
    (omega arith) c.loop-channel.invariant c.lower.ensures
