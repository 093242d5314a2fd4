use Rattle.std.proofs.Common.{◌∙◌, arith, lit<}
use Rattle.macs_gf.proofs.OctetField.{octet_product-comm, one-octet_product}
use Rattle.macs_gf.proofs.laws.octet_one.Goals as goal

pub returns-clause-left : goal.returns-clause-left
returns-clause-left c = one-octet_product c.args.a (omega arith)

pub returns-clause-right : goal.returns-clause-right
returns-clause-right c = octet_product-comm c.args.a 1 (omega arith) (lit< tt)
    ∙ one-octet_product c.args.a (omega arith)
