use Rattle.macs_frame.proofs.Protection.{protected_length}
use Rattle.macs_frame.proofs.laws.protected_length.Goals as goal

pub returns : goal.returns
returns c = protected_length
