use Rattle.macs_gf.proofs.GhashBlocks.{blocks_of-append}
use Rattle.macs_gf.proofs.laws.padding_splits.Goals as goal

pub returns-clause-blocks : goal.returns-clause-blocks
returns-clause-blocks c = blocks_of-append
