use Rattle.std.proofs.Common.{◌≡◌, ◌+◌, ◌*◌, ◌/◌, ◌%◌, ◌<◌, ◌∙◌, ℕ, List, [], ◌∷◌, arith, get_or, refl}
use Rattle.macs_planes.specs.Across.{block_across, octet_at, octet_of_words}
use Rattle.macs_aes.specs.Blocks.{octet_basis}
use Rattle.macs_aes.specs.Columns.{IsCrossed}
use Rattle.macs_planes.proofs.AcrossLanes.{across_filled, below_eight_bit, bit_within, eighth_more, eighth_put}
use Rattle.macs_planes.proofs.AcrossLanes.{lane_within, stored_word}
use Rattle.macs_aes.proofs.Circuit.{octet_was}
use Rattle.macs_planes.specs.declared.places.TheConstants.{LANES}
use Rattle.macs_planes.proofs.across.store_all.Goals as goal

pub returns : goal.returns
returns c =
    let x = c.x.inside in
    let rows = c.args.x.now in
    let planes : List (List ℕ) = x.p0 ∷ x.p1 ∷ x.p2 ∷ x.p3 ∷ x.p4 ∷ x.p5 ∷ x.p6 ∷ x.p7 ∷ [] in
    let q = c.cross-crossed.result in
    let e = c.cross-crossed.ensures in
    let word : (i : ℕ) → i < 8 → (words : List ℕ) → IsCrossed LANES i planes words → (m : ℕ) → m < 2 * LANES
    → octet_of_words words m ≡ octet_at rows m i =
    λ i h words is m below. stored_word LANES x.p0 x.p1 x.p2 x.p3 x.p4 x.p5 x.p6 x.p7 words m i below h is
    ∙ octet_was LANES octet_basis planes rows (m / 2) (8 * (m % 2) + i) c.x.view_is (lane_within LANES m below)
    (bit_within m i h) in
    let none : (n : ℕ) → n < LANES → n % 8 < 0
    → get_or c.args.blocks.now n [] ≡ block_across rows n = λ n h k. absurd (omega arith) in
    let one = eighth_more LANES rows _ _ 0 none c.put_apart.ensures.others (eighth_put LANES 0 rows _ q.q0 refl
    c.put_apart.ensures.sizes c.put_apart.ensures.octets (word 0 (omega arith) q.q0 e.q0)) in
    let two = eighth_more LANES rows _ _ 1 one c.put_apart-2.ensures.others (eighth_put LANES 1 rows _ q.q1 refl
    c.put_apart-2.ensures.sizes c.put_apart-2.ensures.octets (word 1 (omega arith) q.q1 e.q1)) in
    let three = eighth_more LANES rows _ _ 2 two c.put_apart-3.ensures.others (eighth_put LANES 2 rows _ q.q2 refl
    c.put_apart-3.ensures.sizes c.put_apart-3.ensures.octets (word 2 (omega arith) q.q2 e.q2)) in
    let four = eighth_more LANES rows _ _ 3 three c.put_apart-4.ensures.others (eighth_put LANES 3 rows _ q.q3 refl
    c.put_apart-4.ensures.sizes c.put_apart-4.ensures.octets (word 3 (omega arith) q.q3 e.q3)) in
    let five = eighth_more LANES rows _ _ 4 four c.put_apart-5.ensures.others (eighth_put LANES 4 rows _ q.q4 refl
    c.put_apart-5.ensures.sizes c.put_apart-5.ensures.octets (word 4 (omega arith) q.q4 e.q4)) in
    let six = eighth_more LANES rows _ _ 5 five c.put_apart-6.ensures.others (eighth_put LANES 5 rows _ q.q5 refl
    c.put_apart-6.ensures.sizes c.put_apart-6.ensures.octets (word 5 (omega arith) q.q5 e.q5)) in
    let seven = eighth_more LANES rows _ _ 6 six c.put_apart-7.ensures.others (eighth_put LANES 6 rows _ q.q6 refl
    c.put_apart-7.ensures.sizes c.put_apart-7.ensures.octets (word 6 (omega arith) q.q6 e.q6)) in
    let eight = eighth_more LANES rows _ _ 7 seven c.put_apart-8.ensures.others (eighth_put LANES 7 rows _ q.q7 refl
    c.put_apart-8.ensures.sizes c.put_apart-8.ensures.octets (word 7 (omega arith) q.q7 e.q7)) in
    across_filled LANES rows _ c.put_apart-8.ensures.size (λ n h. eight n h (below_eight_bit n))
