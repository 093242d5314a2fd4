use Rattle.macs_rxsc.proofs.Order.{all-numbered}
use Rattle.macs_rxsc.proofs.laws.ordered_are_numbered.Goals as goal

pub returns : goal.returns
returns c = λ side ceilings ordered. all-numbered side ceilings ordered
