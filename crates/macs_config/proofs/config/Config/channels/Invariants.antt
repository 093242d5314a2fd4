use Rattle.std.proofs.Common.{◌≡◌, map, take}
use Rattle.macs_config.specs.declared.contents.Channel.{Channel}
use Rattle.macs_config.proofs.config.Config.channels.Given as goal

abbrev pub invariant-loop-channel : goal.invariant-loop-channel
invariant-loop-channel l =
    l.scis.items ≡ map (λ (channel : Channel). channel.sci) (take l.channel-index l.self.contents.channels.items)
