-- Blocks across lanes: steps of each octet, and blocks loaded and stored.
use Rattle.std.proofs.Common.{◌≡◌, ◌≢◌, ℕ, ◌+◌, ◌*◌, ◌/◌, ◌%◌, ◌<◌, ◌∙◌, List, [], ◌∷◌, map, get_or, length}
use Rattle.std.proofs.Common.{slice_index, bit_xor, ap, ap₂, sym, refl, arith, inl, inr}
use Rattle.std.specs.Int.{bit_at}
use Rattle.std.specs.List.{range_with_len}
use Rattle.std.proofs.lemmas.Bool.{cases_lt}
use Rattle.std.proofs.lemmas.List.FromFn.{fill_by_all}
use Rattle.macs_gf.specs.Gf256.{octet_product}
use Rattle.macs_aes.specs.Cipher.{mixed_octet, xor_tables}
use Rattle.macs_planes.specs.Across.{block_across, blocks_across, octet_across, octet_at, octet_of_words}
use Rattle.macs_aes.specs.Bits.{IsBlock}
use Rattle.macs_aes.specs.BlockSteps.{AreBlocks}
use Rattle.macs_aes.specs.Blocks.{bit_in, octet, octet_basis, octet_in, zeros}
use Rattle.macs_aes.specs.Columns.{IsCrossed}
use Rattle.macs_aes.proofs.Bytes.{half_is, half_bits, stored_octet}
use Rattle.macs_aes.proofs.EachBlock.{map_map, map_same, mixed_is}
use Rattle.macs_planes.proofs.Octets.{bit_of_octet}

-- ---- where an octet is

pub lane_within : (lanes m : ℕ) → m < 2 * lanes → m / 2 < lanes
lane_within lanes m h = omega arith

pub bit_within : (m n : ℕ) → n < 8 → 8 * (m % 2) + n < 16
bit_within m n h = omega arith

pub place_within : (lanes n j : ℕ) → lanes % 8 ≡ 0 → n < lanes → j < 16 → 16 * (n / 8) + j < 2 * lanes
place_within lanes n j whole h k = omega arith

pub sixteen_within : (lanes m j : ℕ) → lanes % 8 ≡ 0 → m < 2 * lanes → j < 16 → 16 * (m / 16) + j < 2 * lanes
sixteen_within lanes m j whole h k = omega arith

pub below_eight_bit : (n : ℕ) → n % 8 < 8
below_eight_bit n = omega arith

-- ---- a step that makes each octet from those of its block

pub across_step : (lanes : ℕ) (step : List ℕ → List ℕ) (f : (ℕ → ℕ) → ℕ → ℕ) (new old : List (List ℕ))
    → ((g : ℕ → ℕ) → map (f g) (range_with_len 0 16) ≡ step (map g (range_with_len 0 16)))
    → ((n j : ℕ) → n < lanes → j < 16 → octet_across new n j ≡ f (octet_across old n) j)
    → blocks_across lanes new ≡ map step (blocks_across lanes old)
unfolding blocks_across block_across
across_step lanes step f new old is each =
    map_same (block_across new) (λ n. step (block_across old n)) 0 lanes
    (λ n l u. map_same (octet_across new n) (f (octet_across old n)) 0 16
    (λ j l2 u2. each n j (omega arith) (omega arith)) ∙ is (octet_across old n))
    ∙ sym (map_map step (block_across old) 0 lanes)

-- the same, from octets of the planes
pub across_step_at : (lanes : ℕ) (step : List ℕ → List ℕ) (f : (ℕ → ℕ) → ℕ → ℕ) (new old : List (List ℕ))
    → lanes % 8 ≡ 0
    → ((g : ℕ → ℕ) → map (f g) (range_with_len 0 16) ≡ step (map g (range_with_len 0 16)))
    → ((n j : ℕ) → n < lanes → j < 16 → 16 * (n / 8) + j < 2 * lanes → n % 8 < 8
    → octet_at new (16 * (n / 8) + j) (n % 8) ≡ f (octet_across old n) j)
    → blocks_across lanes new ≡ map step (blocks_across lanes old)
across_step_at lanes step f new old whole is each =
    across_step lanes step f new old is (λ n j h k. each n j h k (place_within lanes n j whole h k) (below_eight_bit n))

pub xor_key_is : (key : List ℕ) (g : ℕ → ℕ)
    → map (λ j. bit_xor (g j) (slice_index key j)) (range_with_len 0 16) ≡ xor_tables (map g (range_with_len 0 16)) key
xor_key_is key g = refl

-- ---- eight planes with the same bits elsewhere

pub same_elsewhere : (a0 a1 a2 a3 a4 a5 a6 a7 b0 b1 b2 b3 b4 b5 b6 b7 : List ℕ) (i j l k : ℕ)
    → bit_in a0 i j ≡ bit_in b0 l k → bit_in a1 i j ≡ bit_in b1 l k → bit_in a2 i j ≡ bit_in b2 l k
    → bit_in a3 i j ≡ bit_in b3 l k
    → bit_in a4 i j ≡ bit_in b4 l k → bit_in a5 i j ≡ bit_in b5 l k → bit_in a6 i j ≡ bit_in b6 l k
    → bit_in a7 i j ≡ bit_in b7 l k
    → octet_in octet_basis (a0 ∷ a1 ∷ a2 ∷ a3 ∷ a4 ∷ a5 ∷ a6 ∷ a7 ∷ []) i j
    ≡ octet_in octet_basis (b0 ∷ b1 ∷ b2 ∷ b3 ∷ b4 ∷ b5 ∷ b6 ∷ b7 ∷ []) l k
same_elsewhere a0 a1 a2 a3 a4 a5 a6 a7 b0 b1 b2 b3 b4 b5 b6 b7 i j l k e0 e1 e2 e3 e4 e5 e6 e7 = cc

-- a bit of a plane by the octets of its words
pub bit_by_octet : (words : List ℕ) (m n : ℕ) → n < 8
    → bit_at (octet_of_words words m) n ≡ bit_in words (m / 2) (8 * (m % 2) + n)
unfolding bit_in
bit_by_octet words m n h = bit_of_octet (get_or words (m / 2) 0) (m % 2) n h

pub same_octet_bits : (x y : List ℕ) (m l n : ℕ) → n < 8 → octet_of_words x m ≡ octet_of_words y l
    → bit_in x (m / 2) (8 * (m % 2) + n) ≡ bit_in y (l / 2) (8 * (l % 2) + n)
same_octet_bits x y m l n h e = sym (bit_by_octet x m n h) ∙ ap (λ (v : ℕ). bit_at v n) e ∙ bit_by_octet y l n h

-- ---- blocks loaded

-- a bit of crossed vectors
crossed_bit : (lanes : ℕ) (qs : List (List ℕ)) (p : List ℕ) (k m n : ℕ) → IsCrossed lanes k qs p → m < 2 * lanes → n < 8
    → bit_in p (m / 2) (8 * (m % 2) + n) ≡ bit_in (get_or qs n (zeros lanes)) (m / 2) (8 * (m % 2) + k)
crossed_bit lanes qs p k m n c h l =
    let e1 : (8 * (m % 2) + n) % 8 ≡ n = omega arith in
    let e2 : (8 * (m % 2) + n) / 8 ≡ m % 2 = omega arith in
    c (m / 2) (8 * (m % 2) + n) (omega arith) (omega arith)
    ∙ ap₂ (λ (a b : ℕ). bit_in (get_or qs a (zeros lanes)) (m / 2) (8 * b + k)) e1 e2

-- the octets of the planes are those of the vectors
pub loaded_octet : (lanes : ℕ) (qs : List (List ℕ)) (p0 p1 p2 p3 p4 p5 p6 p7 : List ℕ) (m n : ℕ) → m < 2 * lanes → n < 8
    → IsCrossed lanes 0 qs p0 → IsCrossed lanes 1 qs p1 → IsCrossed lanes 2 qs p2 → IsCrossed lanes 3 qs p3
    → IsCrossed lanes 4 qs p4 → IsCrossed lanes 5 qs p5 → IsCrossed lanes 6 qs p6 → IsCrossed lanes 7 qs p7
    → octet_in octet_basis (p0 ∷ p1 ∷ p2 ∷ p3 ∷ p4 ∷ p5 ∷ p6 ∷ p7 ∷ []) (m / 2) (8 * (m % 2) + n)
    ≡ octet_of_words (get_or qs n (zeros lanes)) m
unfolding bit_in half_bits
loaded_octet lanes qs p0 p1 p2 p3 p4 p5 p6 p7 m n h k c0 c1 c2 c3 c4 c5 c6 c7 =
    let e0 = crossed_bit lanes qs p0 0 m n c0 h k in let e1 = crossed_bit lanes qs p1 1 m n c1 h k in
    let e2 = crossed_bit lanes qs p2 2 m n c2 h k in let e3 = crossed_bit lanes qs p3 3 m n c3 h k in
    let e4 = crossed_bit lanes qs p4 4 m n c4 h k in let e5 = crossed_bit lanes qs p5 5 m n c5 h k in
    let e6 = crossed_bit lanes qs p6 6 m n c6 h k in let e7 = crossed_bit lanes qs p7 7 m n c7 h k in
    let e = half_is (get_or (get_or qs n (zeros lanes)) (m / 2) 0) (m % 2) in
    cc

-- blocks that are sixteen octets each
pub blocks_whole : (lanes : ℕ) (blocks : List (List ℕ)) → length blocks ≡ lanes
    → ((i : ℕ) → i < lanes → IsBlock (get_or blocks i [])) → AreBlocks lanes blocks
blocks_whole lanes blocks len are = record {
  whole = fill_by_all (λ i. map (octet blocks i) (range_with_len 0 16)) blocks lanes [] len
      (λ i h. fill_by_all (octet blocks i) (get_or blocks i []) 16 0 (are i h).0 (λ j k. refl));
  small = λ i j h k. (are i h).1 j;
}

-- blocks from their octets
pub across_blocks : (lanes : ℕ) (rows blocks : List (List ℕ)) → AreBlocks lanes blocks
    → ((n j : ℕ) → n < lanes → j < 16 → octet_across rows n j ≡ octet blocks n j)
    → blocks_across lanes rows ≡ blocks
unfolding blocks_across block_across
across_blocks lanes rows blocks are each =
    map_same (block_across rows) (λ n. map (octet blocks n) (range_with_len 0 16)) 0 lanes
    (λ n l u. map_same (octet_across rows n) (octet blocks n) 0 16 (λ j l2 u2. each n j (omega arith) (omega arith)))
    ∙ sym are.whole

-- ---- blocks stored

pub stored_word : (lanes : ℕ) (p0 p1 p2 p3 p4 p5 p6 p7 x : List ℕ) (m n : ℕ) → m < 2 * lanes → n < 8
    → IsCrossed lanes n (p0 ∷ p1 ∷ p2 ∷ p3 ∷ p4 ∷ p5 ∷ p6 ∷ p7 ∷ []) x
    → octet_of_words x m ≡ octet_in octet_basis (p0 ∷ p1 ∷ p2 ∷ p3 ∷ p4 ∷ p5 ∷ p6 ∷ p7 ∷ []) (m / 2) (8 * (m % 2) + n)
stored_word lanes p0 p1 p2 p3 p4 p5 p6 p7 x m n h k c =
    stored_octet lanes p0 p1 p2 p3 p4 p5 p6 p7 x n (m % 2) (m / 2) k (omega arith) (omega arith) c

-- a block across lanes from its octets
pub block_from : (rows : List (List ℕ)) (block : List ℕ) (n : ℕ) → length block ≡ 16
    → ((j : ℕ) → j < 16 → get_or block j 0 ≡ octet_across rows n j)
    → block ≡ block_across rows n
unfolding block_across
block_from rows block n len each = fill_by_all (octet_across rows n) block 16 0 len each

pub across_filled : (lanes : ℕ) (rows stored : List (List ℕ)) → length stored ≡ lanes
    → ((n : ℕ) → n < lanes → get_or stored n [] ≡ block_across rows n) → stored ≡ blocks_across lanes rows
unfolding blocks_across
across_filled lanes rows stored len each = fill_by_all (block_across rows) stored lanes [] len each

-- an eighth of the blocks put in their places, from the words with their octets
pub eighth_put : (lanes i : ℕ) (rows blocks : List (List ℕ)) (words : List ℕ) → lanes % 8 ≡ 0
    → ((g : ℕ) → g < lanes / 8 → length (get_or blocks (8 * g + i) []) ≡ 16)
    → ((g j : ℕ) → g < lanes / 8 → j < 16 → octet blocks (8 * g + i) j ≡ octet_of_words words (16 * g + j))
    → ((m : ℕ) → m < 2 * lanes → octet_of_words words m ≡ octet_at rows m i)
    → (n : ℕ) → n < lanes → n % 8 ≡ i → get_or blocks n [] ≡ block_across rows n
eighth_put lanes i rows blocks words whole sizes octets is n h e =
    let at : 8 * (n / 8) + i ≡ n = omega (arith, e) in
    let low : n / 8 < lanes / 8 = omega arith in
    block_from rows (get_or blocks n []) n (ap (λ (k : ℕ). length (get_or blocks k [])) (sym at) ∙ sizes (n / 8) low)
    (λ j k. ap (λ (m : ℕ). octet blocks m j) (sym at) ∙ octets (n / 8) j low k
    ∙ is (16 * (n / 8) + j) (place_within lanes n j whole h k)
    ∙ ap (octet_at rows (16 * (n / 8) + j)) (sym e))

-- an eighth more
pub eighth_more : (lanes : ℕ) (rows old new : List (List ℕ)) (i : ℕ)
    → ((n : ℕ) → n < lanes → n % 8 < i → get_or old n [] ≡ block_across rows n)
    → ((n : ℕ) → n % 8 ≢ i → get_or new n [] ≡ get_or old n [])
    → ((n : ℕ) → n < lanes → n % 8 ≡ i → get_or new n [] ≡ block_across rows n)
    → (n : ℕ) → n < lanes → n % 8 < i + 1 → get_or new n [] ≡ block_across rows n
eighth_more lanes rows old new i held others put n h k = elim (cases_lt (n % 8) i) [
  | inl lt ↦ others n (λ e. absurd (omega (arith, e, lt))) ∙ held n h lt
  | inr ge ↦ put n h (omega arith)
]

-- ---- octets mixed, step by step

pub steps_mixed : (z s w n p q p2 n2 a b c d : ℕ) → z ≡ bit_xor s q → s ≡ bit_xor w n → w ≡ octet_product 2 p
    → p ≡ bit_xor a n → n ≡ b
    → q ≡ p2 → p2 ≡ bit_xor c n2 → n2 ≡ d → b < 256 → z ≡ mixed_octet a b c d
steps_mixed z s w n p q p2 n2 a b c d ez es ew ep en eq ep2 en2 h =
    let m = mixed_is a b c d h in
    cc

-- ---- the sixteen of an octet of block n

pub sixteen_of_block : (n j : ℕ) → j < 16 → (16 * (n / 8) + j) / 16 ≡ n / 8
sixteen_of_block n j h = omega arith

pub place_of_block : (n j : ℕ) → j < 16 → (16 * (n / 8) + j) % 16 ≡ j
place_of_block n j h = omega arith

pub block_itself : (n : ℕ) → 8 * (n / 8) + n % 8 ≡ n
block_itself n = omega arith
