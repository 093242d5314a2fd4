use Rattle.std.proofs.Common.{arith}
use Rattle.macs_gf.proofs.OctetInverse.{inverse-is}
use Rattle.macs_gf.proofs.laws.octet_inverse.Goals as goal

pub returns : goal.returns
returns c = λ b. inverse-is c.args.a b (omega arith)
