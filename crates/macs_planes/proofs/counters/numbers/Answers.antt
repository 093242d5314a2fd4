use Rattle.macs_planes.proofs.NumberedBlocks.{numbers_at}
use Rattle.macs_planes.proofs.counters.numbers.Goals as goal

pub returns : goal.returns
returns c = λ m n h k. numbers_at c.number_bits.result c.number_bits-2.result c.number_bits-3.result
    c.number_bits-4.result m n h k c.number_bits.ensures c.number_bits-2.ensures c.number_bits-3.ensures
    c.number_bits-4.ensures
