use Rattle.std.proofs.Common.{◌≡◌, ◌∙◌, arith, sym}
use Rattle.std.proofs.lemmas.Nat.Bits.{shr_and_one, bit_at-lt}
use Rattle.std.specs.Int.{bit_at}
use Rattle.macs_gf.specs.Gf256.{octet_product}
use Rattle.macs_gf.proofs.OctetProduct.{multiple_first, multiple_next, product_first, product_next_one}
use Rattle.macs_gf.proofs.OctetProduct.{product_next_zero}
use Rattle.macs_gf.proofs.octet.mul8.Goals as goal
use Rattle.macs_gf.proofs.octet.mul8.Goals.{then-b-i-eq1, else-b-i-eq1}

pub loop-i-init : goal.loop-i-init
loop-i-init c = (product_first c.args.a c.args.b, multiple_first c.args.a (omega arith))

pub loop-i-preserved : goal.loop-i-preserved
loop-i-preserved c =
    let a = c.args.a in
    let b = c.args.b in
    let i = c.loop-i.i in
    let held = c.loop-i.invariant in (
      elim c.if-b-i-eq1.branch [
        | then-b-i-eq1 w ↦
            let bit : bit_at b i ≡ 1 = sym (shr_and_one b i) ∙ w.if-b-i-eq1.true in
            w.product-is ∙ product_next_one a b i _ _ bit held.0 held.1
        | else-b-i-eq1 w ↦
            let bit : bit_at b i ≡ 0 = omega (arith, shr_and_one b i, bit_at-lt b i) in
            w.product-is ∙ product_next_zero a b i _ bit held.0
      ],
      c.xtime8-multiple.ensures ∙ multiple_next a i _ (omega arith) (omega arith) (omega arith) held.1,
    )

pub returns : goal.returns
unfolding octet_product
returns c =
    let all : c.loop-i.i ≡ 8 = omega arith in
    rw all at c.loop-i.invariant.0
