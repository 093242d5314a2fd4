use Rattle.macs_config.proofs.Editions.{larger-has}
use Rattle.macs_config.proofs.laws.larger_has.Goals as goal

pub returns : goal.returns
returns c = larger-has
