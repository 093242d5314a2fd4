use Rattle.macs_frame.proofs.Readings.{opens_once}
use Rattle.macs_frame.proofs.laws.opens_once.Goals as goal

pub returns : goal.returns
returns c = opens_once
