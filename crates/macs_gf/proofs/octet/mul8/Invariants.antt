use Rattle.std.proofs.Common.{◌≡◌, ◌*◌, ◌^◌}
use Rattle.macs_gf.specs.Gf256.{aes_modulus}
use Rattle.macs_gf.specs.Polynomial.{product_below, remainder}
use Rattle.macs_gf.proofs.octet.mul8.Given as goal

abbrev pub invariant-loop-i : goal.invariant-loop-i
invariant-loop-i l =
    (l.product ≡ remainder aes_modulus (product_below l.a l.b l.i) 8)
    × (l.multiple ≡ remainder aes_modulus (l.a * 2 ^ l.i) 8)
