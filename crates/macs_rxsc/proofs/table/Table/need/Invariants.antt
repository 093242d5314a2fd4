use Rattle.std.proofs.Common.{◌≡◌, drop}
use Rattle.macs_rxsc.proofs.Needs.{needs_among}
use Rattle.macs_rxsc.specs.Needs.{first_need}
use Rattle.macs_rxsc.proofs.table.Table.need.Given as goal

abbrev pub invariant-loop-channel : goal.invariant-loop-channel
invariant-loop-channel l =
    first_need (needs_among l.block l.self.channels.items)
    ≡ first_need (needs_among l.block (drop l.channel-index l.self.channels.items))
