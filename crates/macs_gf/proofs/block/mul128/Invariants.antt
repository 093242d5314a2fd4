use Rattle.std.proofs.Common.{◌≡◌}
use Rattle.macs_gf.specs.Gf128.{block_product_below, times_power}
use Rattle.macs_gf.proofs.block.mul128.Given as goal

abbrev pub invariant-loop-i : goal.invariant-loop-i
invariant-loop-i l =
    (l.product ≡ block_product_below l.a l.b l.i) × (l.multiple ≡ times_power l.i l.b)
