use Rattle.std.proofs.Common.{sym, subst}
use Rattle.macs_record.specs.Heads.{Head, IsHeadOf}
use Rattle.macs_c.proofs.formatting.head_sector.Goals as goal

pub returns : goal.returns
returns c =
    subst (λ (head : Head). IsHeadOf head c.encode_head.result) c.first_head-head.ensures
    (record { range = c.head_in_range.ensures; octets = sym c.encode_head.ensures })
