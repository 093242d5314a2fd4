-- Planes and words made of tests of bits.
use Rattle.std.proofs.Common.{◌≡◌, ℕ, ◌+◌, ◌<◌, ◌∙◌, List, [], ◌∷◌, map, get_or, length, replicate, set, slice_index}
use Rattle.std.proofs.Common.{refl, ap, sym, arith, inl, inr}
use Rattle.std.specs.Int.{bit_at}
use Rattle.std.specs.List.{range_with_len}
use Rattle.std.proofs.lemmas.Bool.{cases_lt}
use Rattle.std.proofs.lemmas.List.{get_or-set_same, get_or-set_other}
use Rattle.std.proofs.lemmas.List.FromFn.{fill_by_all}
use Rattle.macs_aes.specs.Bits.{HasBits, IsBlock, tested}
use Rattle.macs_aes.specs.Blocks.{bit_in, block_in, blocks_in, combined, octet, octet_basis, octet_in}
use Rattle.macs_aes.specs.BlockSteps.{AreBlocks}
use Rattle.macs_aes.specs.RoundKeys.{octet_in_words, octets_in_words}
use Rattle.macs_aes.proofs.BitTests.{tested_octet}
use Rattle.macs_aes.proofs.EachBlock.{map_same}
use Rattle.macs_aes.proofs.Moves.{splat_bit}

-- blocks that are sixteen octets each
pub blocks_whole : (lanes : ℕ) (blocks : List (List ℕ)) → length blocks ≡ lanes
    → ((i : ℕ) → i < lanes → IsBlock (get_or blocks i [])) → AreBlocks lanes blocks
blocks_whole lanes blocks len are = record {
  whole = fill_by_all (λ i. map (octet blocks i) (range_with_len 0 16)) blocks lanes [] len
      (λ i h. fill_by_all (octet blocks i) (get_or blocks i []) 16 0 (are i h).0 (λ j k. refl));
  small = λ i j h k. (are i h).1 j;
}

-- one more block
pub blocks_more : (blocks : List (List ℕ)) (i : ℕ) (octets : List ℕ) → ((k : ℕ) → k < i → IsBlock (get_or blocks k []))
    → octets ≡ get_or blocks i [] → IsBlock octets → (k : ℕ) → k < i + 1 → IsBlock (get_or blocks k [])
blocks_more blocks i octets are e is k h = elim (cases_lt k i) [
  | inl lt ↦ are k lt
  | inr ge ↦
      let same : k ≡ i = omega arith in
      rw (same, ← e) is
]

-- one more lane
pub plane_more : (xs octets : List ℕ) (i w mask : ℕ) (blocks : List (List ℕ)) → i < length xs
    → ((k j : ℕ) → k < i → j < 16 → bit_in xs k j ≡ tested mask (octet blocks k j))
    → octets ≡ get_or blocks i [] → ((j : ℕ) → j < 16 → bit_at w j ≡ tested mask (get_or octets j 0))
    → (k j : ℕ) → k < i + 1 → j < 16 → bit_in (set xs i w) k j ≡ tested mask (octet blocks k j)
unfolding bit_in
plane_more xs octets i w mask blocks within held e is k j h below = elim (cases_lt k i) [
  | inl lt ↦ ap (λ (v : ℕ). bit_at v j) (get_or-set_other xs i k w 0 (omega arith)) ∙ held k j lt below
  | inr ge ↦
      let same : k ≡ i = omega arith in
      rw same (ap (λ (v : ℕ). bit_at v j) (get_or-set_same xs i w 0 within) ∙ is j below
      ∙ ap (λ o. tested mask (get_or o j 0)) e)
]

-- eight planes, each of one test
pub loaded : (lanes : ℕ) (p0 p1 p2 p3 p4 p5 p6 p7 : List ℕ) (blocks : List (List ℕ)) → AreBlocks lanes blocks
    → HasBits lanes 1 blocks p0 → HasBits lanes 2 blocks p1 → HasBits lanes 4 blocks p2 → HasBits lanes 8 blocks p3
    → HasBits lanes 16 blocks p4 → HasBits lanes 32 blocks p5 → HasBits lanes 64 blocks p6 → HasBits lanes 128 blocks p7
    → blocks_in lanes octet_basis (p0 ∷ p1 ∷ p2 ∷ p3 ∷ p4 ∷ p5 ∷ p6 ∷ p7 ∷ []) ≡ blocks
unfolding blocks_in block_in
loaded lanes p0 p1 p2 p3 p4 p5 p6 p7 blocks are h0 h1 h2 h3 h4 h5 h6 h7 =
    let planes : List (List ℕ) = p0 ∷ p1 ∷ p2 ∷ p3 ∷ p4 ∷ p5 ∷ p6 ∷ p7 ∷ [] in
    map_same (block_in octet_basis planes) (λ i. map (octet blocks i) (range_with_len 0 16)) 0 lanes
    (λ i l u. map_same (octet_in octet_basis planes i) (octet blocks i) 0 16
    (λ j l2 u2.
    let h : i < lanes = omega arith in
    let k : j < 16 = omega arith in
    tested_octet _ _ _ _ _ _ _ _ (octet blocks i j) (are.small i j h k) (h0 i j h k) (h1 i j h k) (h2 i j h k)
    (h3 i j h k) (h4 i j h k) (h5 i j h k) (h6 i j h k) (h7 i j h k)))
    ∙ sym are.whole

-- in bit j of a word the test of octet j
abbrev pub IsWord : ℕ → List ℕ → ℕ → Type 0
IsWord mask octets w = (j : ℕ) → j < 16 → bit_at w j ≡ tested mask (slice_index octets j)

-- eight words, each of one test
pub in_words : (w0 w1 w2 w3 w4 w5 w6 w7 : ℕ) (octets : List ℕ) → IsBlock octets
    → IsWord 1 octets w0 → IsWord 2 octets w1 → IsWord 4 octets w2 → IsWord 8 octets w3
    → IsWord 16 octets w4 → IsWord 32 octets w5 → IsWord 64 octets w6 → IsWord 128 octets w7
    → octets_in_words (w0 ∷ w1 ∷ w2 ∷ w3 ∷ w4 ∷ w5 ∷ w6 ∷ w7 ∷ []) ≡ octets
unfolding octets_in_words
in_words w0 w1 w2 w3 w4 w5 w6 w7 octets is h0 h1 h2 h3 h4 h5 h6 h7 =
    sym (fill_by_all (octet_in_words (w0 ∷ w1 ∷ w2 ∷ w3 ∷ w4 ∷ w5 ∷ w6 ∷ w7 ∷ [])) octets 16 0 is.0
    (λ j k. sym (tested_octet (bit_at w0 j) (bit_at w1 j) (bit_at w2 j) (bit_at w3 j) (bit_at w4 j) (bit_at w5 j)
    (bit_at w6 j) (bit_at w7 j)
    (slice_index octets j) (is.1 j) (h0 j k) (h1 j k) (h2 j k) (h3 j k) (h4 j k) (h5 j k) (h6 j k) (h7 j k))))

-- the octets of words that are in every lane
pub splat_octet : (lanes w0 w1 w2 w3 w4 w5 w6 w7 i j : ℕ) → i < lanes
    → octet_in octet_basis (replicate lanes w0 ∷ replicate lanes w1 ∷ replicate lanes w2 ∷ replicate lanes w3
    ∷ replicate lanes w4 ∷ replicate lanes w5 ∷ replicate lanes w6 ∷ replicate lanes w7 ∷ []) i j
    ≡ combined octet_basis (bit_at w0 j ∷ bit_at w1 j ∷ bit_at w2 j ∷ bit_at w3 j ∷ bit_at w4 j ∷ bit_at w5 j
    ∷ bit_at w6 j ∷ bit_at w7 j ∷ [])
splat_octet lanes w0 w1 w2 w3 w4 w5 w6 w7 i j h =
    let e0 = splat_bit lanes w0 i j h in let e1 = splat_bit lanes w1 i j h in
    let e2 = splat_bit lanes w2 i j h in let e3 = splat_bit lanes w3 i j h in
    let e4 = splat_bit lanes w4 i j h in let e5 = splat_bit lanes w5 i j h in
    let e6 = splat_bit lanes w6 i j h in let e7 = splat_bit lanes w7 i j h in
    cc
