use Rattle.macs_rxsc.proofs.Order.{in-order}
use Rattle.macs_rxsc.proofs.laws.numbers_in_order.Goals as goal

pub returns : goal.returns
returns c = λ side ceilings sci an ceiling numbers is has_numbers has_ceiling.
    in-order side.replay.window (side.rx sci an) (side.numbers sci an) (ceilings sci an) numbers ceiling is
    has_numbers has_ceiling
