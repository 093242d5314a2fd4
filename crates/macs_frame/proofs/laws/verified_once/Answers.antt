use Rattle.macs_frame.proofs.Readings.{verified_once}
use Rattle.macs_frame.proofs.laws.verified_once.Goals as goal

pub returns : goal.returns
returns c = verified_once
