-- The blocks of a group that differ in their last octet alone.
use Rattle.std.proofs.Common.{◌≡◌, ℕ, ◌+◌, ◌*◌, ◌/◌, ◌%◌, ◌^◌, ◌<◌, ◌∙◌, List, [], ◌∷◌, ◌++◌, map, get_or, length}
use Rattle.std.proofs.Common.{slice_index, take, bit_xor, replicate, refl, ap, ap₂, sym, arith, inl, inr}
use Rattle.std.specs.List.{range_with_len}
use Rattle.std.specs.Int.Bits.{xor_zero_r}
use Rattle.std.specs.Prelude.{if◌then◌else◌, ◌==◌}
use Rattle.std.proofs.lemmas.Bool.{cases_lt, ne_eqb}
use Rattle.std.proofs.lemmas.List.{get_or_append_left, get_or-append_right, get_or-take, length-append, length-take-le}
use Rattle.std.proofs.lemmas.List.FromFn.{fill_by_all, get_or-map-range_with_len}
use Rattle.std.proofs.lemmas.Nat.{xor_block}
use Rattle.macs_aes.specs.Blocks.{bit_in, block_in, blocks_in, combined, octet_basis}
use Rattle.macs_aes.proofs.EachBlock.{map_same}
use Rattle.macs_planes.specs.Across.{block_across, blocks_across, octet_across, octet_at}
use Rattle.macs_planes.specs.Counters.{number_at, numbered}
use Rattle.macs_planes.specs.declared.counters.TheConstants.{NUMBERS}
use Rattle.macs_planes.specs.declared.places.TheConstants.{LANES}

-- ---- the planes of the numbers

number_plane : ℕ → List ℕ
number_plane k = take LANES (get_or NUMBERS k [])

number_rows : List (List ℕ)
number_rows =
    blocks_in LANES octet_basis (number_plane 0 ∷ number_plane 1 ∷ number_plane 2 ∷ number_plane 3 ∷ replicate LANES 0
    ∷ replicate LANES 0 ∷ replicate LANES 0 ∷ replicate LANES 0 ∷ [])

number_rows_are : map (λ i. octet_at number_rows (i / 8) (i % 8)) (range_with_len 0 (16 * LANES))
    ≡ map (λ i. number_at (i / 8) (i % 8)) (range_with_len 0 (16 * LANES))
unfolding number_rows number_plane blocks_in block_in bit_in combined
number_rows_are = refl

pub numbers_at : (p0 p1 p2 p3 : List ℕ) (m n : ℕ) → m < 2 * LANES → n < 8 → p0 ≡ take LANES (get_or NUMBERS 0 [])
    → p1 ≡ take LANES (get_or NUMBERS 1 []) → p2 ≡ take LANES (get_or NUMBERS 2 [])
    → p3 ≡ take LANES (get_or NUMBERS 3 [])
    → octet_at (blocks_in LANES octet_basis
    (p0 ∷ p1 ∷ p2 ∷ p3 ∷ replicate LANES 0 ∷ replicate LANES 0 ∷ replicate LANES 0 ∷ replicate LANES 0
    ∷ [])) m n ≡ number_at m n
unfolding number_rows number_plane
numbers_at p0 p1 p2 p3 m n h k e0 e1 e2 e3 =
    let i : ℕ = 8 * m + n in
    let within : i < 16 * LANES = omega arith in
    let high : i / 8 ≡ m = omega arith in
    let low : i % 8 ≡ n = omega arith in
    rw (e0, e1, e2, e3) (
    ap₂ (λ (a b : ℕ). octet_at number_rows a b) (sym high) (sym low)
    ∙ sym (get_or-map-range_with_len (λ i. octet_at number_rows (i / 8) (i % 8)) 0 (16 * LANES) i i 0 within
    (omega arith))
    ∙ ap (λ xs. get_or xs i 0) number_rows_are
    ∙ get_or-map-range_with_len (λ i. number_at (i / 8) (i % 8)) 0 (16 * LANES) i i 0 within (omega arith)
    ∙ ap₂ (λ (a b : ℕ). number_at a b) high low)

-- ---- a block with a number added

-- a number below the group's size is added to a multiple of it without a carry
no_carry : (x n : ℕ) → x % LANES ≡ 0 → n < LANES → bit_xor x n ≡ x + n
no_carry x n whole h =
    let k : ℕ = LANES / 8 + 2 in
    let size : 2 ^ k ≡ LANES = refl in
    let same : x ≡ x / LANES * 2 ^ k + 0 = omega arith in
    let other : n ≡ 0 * 2 ^ k + n = omega arith in
    ap₂ bit_xor same other ∙ xor_block k (x / LANES) 0 0 n (omega arith) (omega arith)
    ∙ ap (λ (y : ℕ). y * 2 ^ k + n) (xor_zero_r (x / LANES)) ∙ omega arith

length-numbered : (block : List ℕ) (n : ℕ) → length block ≡ 16 → length (numbered block n) ≡ 16
unfolding numbered
length-numbered block n len =
    let front : length (take 15 block) ≡ 15 = length-take-le 15 block (omega arith) in
    length-append (take 15 block) ((slice_index block 15 + n) ∷ []) ∙ omega (arith, front)

-- octet j of block n
numbered_at : (block : List ℕ) (n j : ℕ) → length block ≡ 16 → slice_index block 15 % LANES ≡ 0 → n < LANES → j < 16
    → slice_index (numbered block n) j ≡ bit_xor (slice_index block j) (number_at (16 * (n / 8) + j) (n % 8))
unfolding numbered
numbered_at block n j len whole h k =
    let front : length (take 15 block) ≡ 15 = length-take-le 15 block (omega arith) in
    let place : (16 * (n / 8) + j) % 16 ≡ j = omega arith in
    let number : 8 * ((16 * (n / 8) + j) / 16) + n % 8 ≡ n = omega arith in
    let here : number_at (16 * (n / 8) + j) (n % 8) ≡ (if j == 15 then n else 0) =
    ap₂ (λ (a b : ℕ). if a == 15 then b else 0) place number in
    elim (cases_lt j 15) [
      | inl lt ↦
          get_or_append_left (take 15 block) ((slice_index block 15 + n) ∷ []) 0 j (omega (arith, front, lt))
          ∙ get_or-take 15 block j 0 lt ∙ sym (xor_zero_r (slice_index block j))
          ∙ ap (bit_xor (slice_index block j))
          (sym (here ∙ ap (λ b. if b then n else 0) (ne_eqb j 15 (λ e. absurd (omega (arith, e, lt))))))
      | inr ge ↦
          let last : j ≡ 15 = omega (arith, ge, k) in
          ap (slice_index (take 15 block ++ (slice_index block 15 + n) ∷ [])) last
          ∙ get_or-append_right (take 15 block) ((slice_index block 15 + n) ∷ []) 15 15 0 front (omega arith)
          ∙ sym (no_carry (slice_index block 15) n whole h)
          ∙ ap₂ (λ (a b : ℕ). bit_xor (slice_index block a) b) (sym last)
          (sym (here ∙ ap (λ (a : ℕ). if a == 15 then n else 0) last))
    ]

pub numbered_blocks : (rows : List (List ℕ)) (block : List ℕ) → length block ≡ 16 → slice_index block 15 % LANES ≡ 0
    → ((n j : ℕ) → n < LANES → j < 16
    → octet_across rows n j ≡ bit_xor (slice_index block j) (number_at (16 * (n / 8) + j) (n % 8)))
    → blocks_across LANES rows ≡ map (numbered block) (range_with_len 0 LANES)
unfolding blocks_across block_across
numbered_blocks rows block len whole each =
    map_same (block_across rows) (numbered block) 0 LANES (λ n l u.
    let within : n < LANES = omega arith in
    sym (fill_by_all (octet_across rows n) (numbered block n) 16 0 (length-numbered block n len)
    (λ j k. numbered_at block n j len whole within k ∙ sym (each n j within k))))
