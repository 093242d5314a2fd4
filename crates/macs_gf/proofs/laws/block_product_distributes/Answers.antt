use Rattle.macs_gf.proofs.BlockField.{product-xor_left, product-xor_right}
use Rattle.macs_gf.proofs.laws.block_product_distributes.Goals as goal

pub returns-clause-left : goal.returns-clause-left
returns-clause-left c = product-xor_left 128 c.args.a c.args.b c.args.c

pub returns-clause-right : goal.returns-clause-right
returns-clause-right c = product-xor_right 128 c.args.a c.args.b c.args.c
