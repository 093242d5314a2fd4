use Rattle.std.proofs.Common.{arith}
use Rattle.macs_ghash.proofs.Overflow.{overflow-shifts, spread}
use Rattle.macs_ghash.proofs.reduction.overflow.Goals as goal

pub returns : goal.returns
unfolding spread
returns c = overflow-shifts c.args.block (omega arith)
