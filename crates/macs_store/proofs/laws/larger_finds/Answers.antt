use Rattle.macs_store.proofs.LargerEditions.{larger-finds, of-edition}
use Rattle.macs_store.proofs.laws.larger_finds.Goals as goal

pub returns-clause-edition : goal.returns-clause-edition
returns-clause-edition c = of-edition

pub returns-clause-same : goal.returns-clause-same
returns-clause-same c = larger-finds
