use Rattle.macs_record.proofs.Lengths.{sector_length}
use Rattle.macs_record.proofs.laws.sector_length.Goals as goal

pub returns : goal.returns
returns c = sector_length
