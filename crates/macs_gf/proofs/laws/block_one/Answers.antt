use Rattle.std.proofs.Common.{arith}
use Rattle.macs_gf.proofs.BlockField.{one, one-product, product-one}
use Rattle.macs_gf.proofs.laws.block_one.Goals as goal

pub returns-clause-left : goal.returns-clause-left
unfolding one
returns-clause-left c = one-product c.args.a (omega arith)

pub returns-clause-right : goal.returns-clause-right
unfolding one
returns-clause-right c = product-one c.args.a (omega arith)
