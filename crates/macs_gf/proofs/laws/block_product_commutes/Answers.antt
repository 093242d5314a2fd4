use Rattle.std.proofs.Common.{arith}
use Rattle.macs_gf.proofs.BlockField.{product-comm}
use Rattle.macs_gf.proofs.laws.block_product_commutes.Goals as goal

pub returns : goal.returns
returns c = product-comm c.args.a c.args.b (omega arith) (omega arith)
