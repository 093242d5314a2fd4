use Rattle.std.proofs.Common.{arith}
use Rattle.macs_gf.proofs.BlockField.{product-assoc}
use Rattle.macs_gf.proofs.laws.block_product_associates.Goals as goal

pub returns : goal.returns
returns c = product-assoc c.args.a c.args.b c.args.c (omega arith) (omega arith)
