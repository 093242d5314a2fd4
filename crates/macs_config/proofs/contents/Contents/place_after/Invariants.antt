use Rattle.std.proofs.Common.{◌≡◌, ◌++◌, take, drop, map}
use Rattle.macs_config.specs.Config.{put_among}
use Rattle.macs_config.specs.declared.contents.Channel.{Channel}
use Rattle.macs_config.proofs.contents.Contents.place_after.Given as goal

abbrev pub invariant-loop-place : goal.invariant-loop-place
invariant-loop-place l = put_among l.sci (map (λ (channel : Channel). channel.sci) l.self.channels.items)
    ≡ take l.place (map (λ (channel : Channel). channel.sci) l.self.channels.items)
    ++ put_among l.sci (drop l.place (map (λ (channel : Channel). channel.sci) l.self.channels.items))
