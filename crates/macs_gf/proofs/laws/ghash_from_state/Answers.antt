use Rattle.std.proofs.Common.{arith}
use Rattle.macs_gf.proofs.GhashPowers.{ghash_split}
use Rattle.macs_gf.proofs.laws.ghash_from_state.Goals as goal

pub returns : goal.returns
returns c = ghash_split c.args.h c.args.y c.args.blocks.now (omega arith) (omega arith)
