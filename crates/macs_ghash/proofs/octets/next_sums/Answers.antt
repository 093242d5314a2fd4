use Rattle.std.proofs.Common.{◌%◌, ◌*◌, ◌∙◌, ap, ap₂, arith, bit_or, bit_xor, refl}
use Rattle.macs_ghash.specs.Tables.{octets_in}
use Rattle.macs_ghash.proofs.OctetLanes.{pushed_equal, pushed_joined}
use Rattle.macs_ghash.proofs.octets.next_sums.Goals as goal

pub returns-clause-low : goal.returns-clause-low
returns-clause-low c = λ g j h k.
    c.sum.ensures g j h k
    ∙ ap₂ bit_xor
    (c.further.ensures g j h k ∙ pushed_equal 0 0 (octets_in c.sum-low.result g)
    (λ i. bit_xor (octets_in c.args.sums.low g i) (octets_in c.args.right g i % 16 * 16)) j refl
    (λ i l. c.sum-low.ensures g i h (omega arith)
    ∙ ap (bit_xor (octets_in c.args.sums.low g i)) (c.raised.ensures g i h (omega arith))))
    (c.sum-added.ensures g j h k ∙ ap (bit_xor (octets_in c.args.left g j)) (c.left_halves.ensures g j h k))

pub returns-clause-high : goal.returns-clause-high
returns-clause-high c = λ g j h k.
    let fifteen = c.sum-low.ensures g 15 h (omega arith)
    ∙ ap (bit_xor (octets_in c.args.sums.low g 15)) (c.raised.ensures g 15 h (omega arith)) in
    c.either.ensures g j h k
    ∙ ap₂ bit_or (c.last_first.ensures g j h k) (c.further-2.ensures g j h k)
    ∙ pushed_joined (octets_in c.sum-low.result g 15) (octets_in c.args.sums.high g) j
    ∙ pushed_equal (octets_in c.sum-low.result g 15) _ (octets_in c.args.sums.high g) (octets_in c.args.sums.high g) j
    fifteen (λ i l. refl)
