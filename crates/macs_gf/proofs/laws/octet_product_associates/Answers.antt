use Rattle.std.proofs.Common.{arith}
use Rattle.macs_gf.proofs.OctetField.{octet_product-assoc}
use Rattle.macs_gf.proofs.laws.octet_product_associates.Goals as goal

pub returns : goal.returns
returns c = octet_product-assoc c.args.a c.args.b c.args.c (omega arith) (omega arith) (omega arith)
