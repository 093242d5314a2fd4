use Rattle.macs_record.proofs.Lengths.{head_sector_length}
use Rattle.macs_record.proofs.laws.head_sector_length.Goals as goal

pub returns : goal.returns
returns c = head_sector_length
