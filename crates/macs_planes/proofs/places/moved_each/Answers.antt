use Rattle.std.proofs.Common.{◌∙◌, ◌+◌, ◌*◌, ◌/◌, ◌%◌, ℕ, [], ◌∷◌, arith, refl, slice_index}
use Rattle.macs_aes.specs.Blocks.{octet_basis}
use Rattle.macs_aes.proofs.Circuit.{octet_of, octet_was}
use Rattle.macs_planes.proofs.AcrossLanes.{bit_within, lane_within, same_elsewhere, same_octet_bits, sixteen_within}
use Rattle.macs_planes.specs.declared.places.TheConstants.{LANES}
use Rattle.macs_planes.proofs.places.moved_each.Goals as goal

pub returns : goal.returns
returns c = λ m n h k.
    let x = c.x.inside in
    let l : ℕ = 16 * (m / 16) + slice_index c.args.places.now m in
    let within = sixteen_within LANES m (slice_index c.args.places.now m) refl h (c.requires m (omega arith)) in
    octet_of LANES octet_basis (c.moved.result ∷ c.moved-2.result ∷ c.moved-3.result ∷ c.moved-4.result
    ∷ c.moved-5.result ∷ c.moved-6.result ∷ c.moved-7.result ∷ c.moved-8.result ∷ []) (m / 2) (8 * (m % 2) + n)
    (lane_within LANES m h) (bit_within m n k)
    ∙ same_elsewhere c.moved.result c.moved-2.result c.moved-3.result c.moved-4.result c.moved-5.result
    c.moved-6.result c.moved-7.result c.moved-8.result
    x.p0 x.p1 x.p2 x.p3 x.p4 x.p5 x.p6 x.p7 (m / 2) (8 * (m % 2) + n) (l / 2) (8 * (l % 2) + n)
    (same_octet_bits c.moved.result x.p0 m l n k (c.moved.ensures.octets m h)) (same_octet_bits c.moved-2.result x.p1 m
    l n k (c.moved-2.ensures.octets m h)) (same_octet_bits c.moved-3.result x.p2 m l n k
    (c.moved-3.ensures.octets m h)) (same_octet_bits c.moved-4.result x.p3 m l n k (c.moved-4.ensures.octets m h))
    (same_octet_bits c.moved-5.result x.p4 m l n k (c.moved-5.ensures.octets m h)) (same_octet_bits c.moved-6.result
    x.p5 m l n k (c.moved-6.ensures.octets m h)) (same_octet_bits c.moved-7.result x.p6 m l n k
    (c.moved-7.ensures.octets m h)) (same_octet_bits c.moved-8.result x.p7 m l n k (c.moved-8.ensures.octets m h))
    ∙ octet_was LANES octet_basis (x.p0 ∷ x.p1 ∷ x.p2 ∷ x.p3 ∷ x.p4 ∷ x.p5 ∷ x.p6 ∷ x.p7 ∷ []) c.args.x.now (l / 2)
    (8 * (l % 2) + n) c.x.view_is (lane_within LANES l within) (bit_within l n k)
