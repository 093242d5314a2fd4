use Rattle.macs_frame.proofs.Readings.{verified_by_its_parts}
use Rattle.macs_frame.proofs.laws.verified_by_its_parts.Goals as goal

pub returns : goal.returns
returns c = verified_by_its_parts
