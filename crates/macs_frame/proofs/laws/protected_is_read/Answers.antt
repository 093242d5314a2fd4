use Rattle.macs_frame.proofs.Protection.{protected_is_read}
use Rattle.macs_frame.proofs.laws.protected_is_read.Goals as goal

pub returns : goal.returns
returns c = protected_is_read
