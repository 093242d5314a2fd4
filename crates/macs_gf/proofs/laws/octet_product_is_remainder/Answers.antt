use Rattle.std.proofs.Common.{arith}
use Rattle.macs_gf.proofs.Quotient.{octet_product-IsRemainder}
use Rattle.macs_gf.proofs.laws.octet_product_is_remainder.Goals as goal

pub returns : goal.returns
returns c = octet_product-IsRemainder c.args.a c.args.b (omega arith)
