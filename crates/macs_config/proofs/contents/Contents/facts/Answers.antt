use Rattle.std.proofs.Common.{◌≤◌, length}
use Rattle.std.proofs.lemmas.List.{take_all}
use Rattle.macs_config.proofs.StoredChannels.{rx_at-above}
use Rattle.macs_config.proofs.contents.Contents.facts.Goals as goal

pub returns-clause-rx : goal.returns-clause-rx
returns-clause-rx c =
    let channels = c.args.self.now.channels.items in
    let whole : length channels ≤ c.loop-channel.channel-index =
    rw c.deref-channel-items.ensures.0 at c.loop-channel-test.false in
    rx_at-above channels (rw (take_all c.loop-channel.channel-index channels whole) at c.loop-channel.invariant)
