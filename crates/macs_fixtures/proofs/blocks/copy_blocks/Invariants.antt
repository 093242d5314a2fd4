use Rattle.macs_fixtures.proofs.BlockFlags.{Copied}
use Rattle.macs_fixtures.proofs.blocks.copy_blocks.Given as goal

abbrev pub invariant-loop-n : goal.invariant-loop-n
invariant-loop-n g l = Copied l.block l.n l.flags l.which l.fn.to.items l.from l.to.items
