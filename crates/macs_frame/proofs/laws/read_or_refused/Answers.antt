use Rattle.macs_frame.proofs.Decisions.{read_or_refused}
use Rattle.macs_frame.proofs.laws.read_or_refused.Goals as goal

pub returns : goal.returns
returns c = read_or_refused
