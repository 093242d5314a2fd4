use Rattle.std.proofs.Common.{arith}
use Rattle.macs_gf.proofs.OctetField.{octet_product-comm}
use Rattle.macs_gf.proofs.laws.octet_product_commutes.Goals as goal

pub returns : goal.returns
returns c = octet_product-comm c.args.a c.args.b (omega arith) (omega arith)
