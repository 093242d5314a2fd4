use Rattle.std.proofs.Common.{◌≡◌, length}
use Rattle.macs_config.specs.Config.{are_distinct}
use Rattle.macs_config.proofs.restore.are_distinct.Given as goal

abbrev pub invariant-loop-first : goal.invariant-loop-first
invariant-loop-first l = are_distinct l.fingerprints ≡ are_distinct l.rest

abbrev pub decreases-loop-first : goal.decreases-loop-first
decreases-loop-first l = length l.rest
