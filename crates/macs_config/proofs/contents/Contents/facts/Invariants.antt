use Rattle.std.proofs.Common.{take}
use Rattle.std.specs.List.{All}
use Rattle.macs_config.proofs.StoredChannels.{EndsAtFour}
use Rattle.macs_config.proofs.contents.Contents.facts.Given as goal

abbrev pub invariant-loop-channel : goal.invariant-loop-channel
invariant-loop-channel l = All EndsAtFour (take l.channel-index l.self.channels.items)
