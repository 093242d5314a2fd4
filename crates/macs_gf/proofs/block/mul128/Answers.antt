use Rattle.std.proofs.Common.{◌≡◌, ◌-◌, ◌∙◌, ap, arith, sym}
use Rattle.std.proofs.lemmas.Nat.Bits.{shr_and_one, bit_at-lt}
use Rattle.macs_gf.specs.Gf128.{block_bit, times_x}
use Rattle.macs_gf.proofs.BlockProduct.{power_first, power_next, product_first, product_next_one, product_next_zero}
use Rattle.macs_gf.proofs.block.mul128.Goals as goal
use Rattle.macs_gf.proofs.block.mul128.Goals.{then-a-i-eq1, else-a-i-eq1}

pub loop-i-init : goal.loop-i-init
loop-i-init c = (product_first c.args.a c.args.b, power_first c.args.b)

pub loop-i-preserved : goal.loop-i-preserved
loop-i-preserved c =
    let a = c.args.a in
    let b = c.args.b in
    let i = c.loop-i.i in
    let held = c.loop-i.invariant in (
      elim c.if-a-i-eq1.branch [
        | then-a-i-eq1 w ↦
            let bit : block_bit a i ≡ 1 = sym (shr_and_one a (127 - i)) ∙ w.if-a-i-eq1.true in
            let next = product_next_one a b i bit in
            let is = w.product-is in
            cc
        | else-a-i-eq1 w ↦
            let bit : block_bit a i ≡ 0 = omega (arith, shr_and_one a (127 - i), bit_at-lt a (127 - i)) in
            let next = product_next_zero a b i bit in
            let is = w.product-is in
            cc
      ],
      c.xtime128-multiple.ensures ∙ ap times_x held.1 ∙ sym (power_next i b),
    )
