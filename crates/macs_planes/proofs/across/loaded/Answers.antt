use Rattle.std.proofs.Common.{◌≡◌, ◌+◌, ◌*◌, ◌/◌, ◌%◌, ◌<◌, ◌∙◌, ℕ, List, [], ◌∷◌, ap, ap₂, arith, get_or, refl, subst}
use Rattle.macs_planes.specs.Across.{octet_of_words}
use Rattle.macs_aes.specs.Bits.{IsBlock}
use Rattle.macs_aes.specs.Blocks.{octet, octet_basis, zeros, blocks_in}
use Rattle.macs_planes.proofs.AcrossLanes.{across_blocks, below_eight_bit, bit_within, block_itself, blocks_whole}
use Rattle.macs_planes.proofs.AcrossLanes.{lane_within, loaded_octet, place_of_block, place_within, sixteen_of_block}
use Rattle.macs_aes.proofs.Circuit.{octet_of}
use Rattle.macs_gf.proofs.Sixteen.{below_eight}
use Rattle.macs_planes.specs.declared.places.TheConstants.{LANES}
use Rattle.macs_planes.proofs.across.loaded.Goals as goal

pub returns : goal.returns
returns c =
    let blocks = c.args.blocks.now in
    let q = c.cross-crossed.result in
    let e = c.cross-crossed.ensures in
    let planes : List (List ℕ) = q.q0 ∷ q.q1 ∷ q.q2 ∷ q.q3 ∷ q.q4 ∷ q.q5 ∷ q.q6 ∷ q.q7 ∷ [] in
    let vectors : List (List ℕ) =
    c.side_by_side.result ∷ c.side_by_side-2.result ∷ c.side_by_side-3.result ∷ c.side_by_side-4.result
    ∷ c.side_by_side-5.result ∷ c.side_by_side-6.result ∷ c.side_by_side-7.result ∷ c.side_by_side-8.result ∷ [] in
    let octets : (i : ℕ) → i < 8 → (m : ℕ) → m < 2 * LANES
    → octet_of_words (get_or vectors i (zeros LANES)) m ≡ octet blocks (8 * (m / 16) + i) (m % 16) =
    below_eight (λ i. (m : ℕ) → m < 2 * LANES
    → octet_of_words (get_or vectors i (zeros LANES)) m ≡ octet blocks (8 * (m / 16) + i) (m % 16))
    c.side_by_side.ensures.octets c.side_by_side-2.ensures.octets c.side_by_side-3.ensures.octets
    c.side_by_side-4.ensures.octets c.side_by_side-5.ensures.octets c.side_by_side-6.ensures.octets
    c.side_by_side-7.ensures.octets c.side_by_side-8.ensures.octets in
    let whole : (i : ℕ) → i < 8 → (g : ℕ) → g < LANES / 8 → IsBlock (get_or blocks (8 * g + i) []) =
    below_eight (λ i. (g : ℕ) → g < LANES / 8 → IsBlock (get_or blocks (8 * g + i) [])) c.side_by_side.ensures.whole
    c.side_by_side-2.ensures.whole c.side_by_side-3.ensures.whole c.side_by_side-4.ensures.whole
    c.side_by_side-5.ensures.whole c.side_by_side-6.ensures.whole c.side_by_side-7.ensures.whole
    c.side_by_side-8.ensures.whole in
    across_blocks LANES (blocks_in LANES octet_basis planes) blocks
    (blocks_whole LANES blocks c.told-blocks (λ n h. subst (λ (k : ℕ). IsBlock (get_or blocks k [])) (block_itself n)
    (whole (n % 8) (below_eight_bit n) (n / 8) (omega arith))))
    (λ n j h k.
    let m : ℕ = (16 * (n / 8) + j) in
    let within : m < 2 * LANES = place_within LANES n j refl h k in
    let bit : n % 8 < 8 = below_eight_bit n in
    octet_of LANES octet_basis planes (m / 2) (8 * (m % 2) + n % 8) (lane_within LANES m within)
    (bit_within m (n % 8) bit)
    ∙ loaded_octet LANES vectors q.q0 q.q1 q.q2 q.q3 q.q4 q.q5 q.q6 q.q7 m (n % 8) within bit e.q0 e.q1 e.q2 e.q3 e.q4
    e.q5 e.q6 e.q7
    ∙ octets (n % 8) bit m within
    ∙ ap₂ (λ (q r : ℕ). octet blocks (8 * q + n % 8) r) (sixteen_of_block n j k) (place_of_block n j k)
    ∙ ap (λ (b : ℕ). octet blocks b j) (block_itself n))
