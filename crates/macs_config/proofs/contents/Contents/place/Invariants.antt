use Rattle.std.proofs.Common.{◌≡◌, false, take, map}
use Rattle.macs_config.specs.Config.{is_among}
use Rattle.macs_config.specs.declared.contents.Channel.{Channel}
use Rattle.macs_config.proofs.contents.Contents.place.Given as goal

abbrev pub invariant-loop-place : goal.invariant-loop-place
invariant-loop-place l =
    is_among (take l.place (map (λ (channel : Channel). channel.sci) l.self.channels.items)) l.sci ≡ false
