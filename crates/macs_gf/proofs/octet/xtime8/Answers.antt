use Rattle.std.proofs.Common.{arith}
use Rattle.macs_gf.proofs.OctetProduct.{double_reduced, double_short}
use Rattle.macs_gf.proofs.octet.xtime8.Goals as goal

pub returns-else-a-lt128 : goal.returns-else-a-lt128
returns-else-a-lt128 c = double_reduced c.args.a (omega arith) (omega arith)

pub returns-then-a-lt128 : goal.returns-then-a-lt128
returns-then-a-lt128 c = double_short c.args.a (omega arith)
