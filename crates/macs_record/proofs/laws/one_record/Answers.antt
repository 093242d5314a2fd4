use Rattle.macs_record.proofs.OneRecord.{one_record}
use Rattle.macs_record.proofs.laws.one_record.Goals as goal

pub returns : goal.returns
returns c = one_record
