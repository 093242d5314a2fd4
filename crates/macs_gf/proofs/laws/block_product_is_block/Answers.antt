use Rattle.std.proofs.Common.{arith}
use Rattle.macs_gf.proofs.BlockField.{product-lt}
use Rattle.macs_gf.proofs.laws.block_product_is_block.Goals as goal

pub returns : goal.returns
returns c = product-lt c.args.a c.args.b (omega arith)
