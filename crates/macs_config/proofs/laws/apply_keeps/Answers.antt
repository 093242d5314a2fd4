use Rattle.macs_config.proofs.Kept.{apply-keeps}
use Rattle.macs_config.proofs.laws.apply_keeps.Goals as goal

pub returns : goal.returns
returns c = apply-keeps
