-- No key of those so far comes again.
use Rattle.std.proofs.Common.{◌≡◌, drop}
use Rattle.macs_config.specs.Config.{are_distinct}
use Rattle.macs_commands.specs.Reading.{keys_of}
use Rattle.macs_commands.proofs.links.soundness.keys_differ.Given as goal

abbrev pub invariant-loop-i : goal.invariant-loop-i
invariant-loop-i l = are_distinct (keys_of l.fn.pairs) ≡ are_distinct (keys_of (drop l.i l.fn.pairs))
