use Rattle.macs_fixtures.proofs.BlockFlags.{Spoiled}
use Rattle.macs_fixtures.proofs.blocks.spoil.Given as goal

abbrev pub invariant-loop-n : goal.invariant-loop-n
invariant-loop-n g l = Spoiled l.block l.n l.pending l.left l.fn.durable.items l.written l.durable.items
