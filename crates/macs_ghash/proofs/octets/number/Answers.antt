use Rattle.std.proofs.Common.{◌∙◌, ◌<◌, ℕ, ap₂, bit_xor, get_or, subst, sym}
use Rattle.macs_ghash.specs.Tables.{block_of_octets, octets_in}
use Rattle.macs_ghash.proofs.OctetLanes.{block_number}
use Rattle.macs_ghash.proofs.OctetSteps.{block_equal}
use Rattle.macs_ghash.proofs.OctetSums.{sum_first, sum_next}
use Rattle.macs_ghash.proofs.octets.number.Goals as goal

pub loop-g-init : goal.loop-g-init
loop-g-init c = sym (sum_first (λ g. block_of_octets (octets_in c.args.x g)))

pub loop-g-preserved : goal.loop-g-preserved
loop-g-preserved c =
    let e = c.sixteen_of.ensures in
    let g : ℕ = c.loop-g.g in
    ap₂ bit_xor c.loop-g.invariant
    (c.from_be_bytes-total.ensures
    ∙ block_number c.sixteen_of.result e.size (λ j h. subst (λ (v : ℕ). v < 256) (sym (e.octets j h)) (e.small j h))
    ∙ block_equal (λ j. get_or c.sixteen_of.result j 0) (octets_in c.args.x g) e.octets)
    ∙ sym (sum_next (λ g. block_of_octets (octets_in c.args.x g)) g)
