use Rattle.macs_config.proofs.Editions.{larger-restores}
use Rattle.macs_config.proofs.laws.larger_restores.Goals as goal

pub returns : goal.returns
returns c = larger-restores
