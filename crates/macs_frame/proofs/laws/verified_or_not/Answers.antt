use Rattle.macs_frame.proofs.Decisions.{verified_or_not}
use Rattle.macs_frame.proofs.laws.verified_or_not.Goals as goal

pub returns : goal.returns
returns c = verified_or_not
