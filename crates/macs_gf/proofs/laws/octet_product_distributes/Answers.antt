use Rattle.macs_gf.proofs.OctetField.{additive-left, additive-right}
use Rattle.macs_gf.proofs.laws.octet_product_distributes.Goals as goal

pub returns-clause-left : goal.returns-clause-left
returns-clause-left c = (additive-left c.args.c).of_sum c.args.a c.args.b

pub returns-clause-right : goal.returns-clause-right
returns-clause-right c = (additive-right c.args.a).of_sum c.args.b c.args.c
