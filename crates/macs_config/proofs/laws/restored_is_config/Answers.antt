use Rattle.macs_config.proofs.Replayed.{restored-is-config}
use Rattle.macs_config.proofs.laws.restored_is_config.Goals as goal

pub returns : goal.returns
returns c = restored-is-config
