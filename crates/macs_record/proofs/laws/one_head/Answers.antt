use Rattle.macs_record.proofs.OneHead.{one_head}
use Rattle.macs_record.proofs.laws.one_head.Goals as goal

pub returns : goal.returns
returns c = one_head
