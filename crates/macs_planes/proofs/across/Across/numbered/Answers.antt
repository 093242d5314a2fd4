use Rattle.std.proofs.Common.{◌+◌, ◌*◌, ◌/◌, ◌%◌, ◌∙◌, ℕ, ap₂, ap, bit_xor, refl, slice_index}
use Rattle.macs_planes.specs.Across.{octet_at, turned_back}
use Rattle.macs_planes.proofs.AcrossLanes.{below_eight_bit, bit_within, lane_within, place_of_block, place_within}
use Rattle.macs_planes.proofs.NumberedBlocks.{numbered_blocks}
use Rattle.macs_planes.proofs.Turned.{not_turned}
use Rattle.macs_planes.specs.declared.places.TheConstants.{LANES}
use Rattle.macs_planes.proofs.across.Across.numbered.Goals as goal

pub returns : goal.returns
returns c = numbered_blocks c.xor-rows.result c.args.first.now c.told-first c.requires
    (λ n j h k.
    let m : ℕ = 16 * (n / 8) + j in
    let within = place_within LANES n j refl h k in
    c.xor-rows.ensures (m / 2) (8 * (m % 2) + n % 8) (lane_within LANES m within)
    (bit_within m (n % 8) (below_eight_bit n))
    ∙ ap₂ bit_xor (ap (λ b. octet_at b m (n % 8)) c.planes.ensures
    ∙ c.of-same.ensures.octets m (n % 8) within (below_eight_bit n)
    ∙ ap (slice_index (turned_back 0 c.args.first.now)) (place_of_block n j k)
    ∙ not_turned c.args.first.now j k) (c.numbers.ensures m (n % 8) within (below_eight_bit n)))
