use Rattle.std.proofs.Common.{◌≡◌, ◌++◌, map, take, drop}
use Rattle.macs_rxsc.specs.Value.{channel_under}
use Rattle.macs_rxsc.proofs.table.slide_all.Given as goal

abbrev pub invariant-loop-channel : goal.invariant-loop-channel
invariant-loop-channel l =
    l.channels ≡ map (channel_under l.window) (take l.channel-index l.initial.channels)
    ++ drop l.channel-index l.initial.channels
