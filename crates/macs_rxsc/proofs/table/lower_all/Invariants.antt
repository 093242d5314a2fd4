use Rattle.std.proofs.Common.{◌≡◌, ◌++◌, map, take, drop}
use Rattle.macs_rxsc.specs.Value.{channel_at_rest}
use Rattle.macs_rxsc.proofs.table.lower_all.Given as goal

abbrev pub invariant-loop-channel : goal.invariant-loop-channel
invariant-loop-channel l =
    l.channels ≡ map channel_at_rest (take l.channel-index l.initial.channels)
    ++ drop l.channel-index l.initial.channels
