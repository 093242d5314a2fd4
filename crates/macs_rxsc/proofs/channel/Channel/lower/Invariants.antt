use Rattle.std.proofs.Common.{◌≡◌, ◌++◌, map, take, drop}
use Rattle.std.specs.Option.{option_map}
use Rattle.macs_rxsc.specs.Value.{association_at_rest}
use Rattle.macs_rxsc.proofs.channel.Channel.lower.Given as goal

abbrev pub invariant-loop-association : goal.invariant-loop-association
invariant-loop-association l =
    l.association-items ≡ map (option_map association_at_rest)
    (take l.association-index l.fn.self.associations) ++ drop l.association-index l.fn.self.associations
