-- Rows that ShiftRows has still to turn.
use Rattle.std.proofs.Common.{◌≡◌, ℕ, zero, suc, ◌+◌, ◌-◌, ◌*◌, ◌/◌, ◌%◌, ◌<◌, ◌≤◌, ◌∙◌, ◌⊎◌, List, [], ◌∷◌, map}
use Rattle.std.proofs.Common.{slice_index, ap, ap₂}
use Rattle.std.proofs.Common.{sym, refl, arith, inl, inr}
use Rattle.std.specs.List.{range_with_len}
use Rattle.std.proofs.lemmas.Bool.{cases_lt}
use Rattle.std.proofs.lemmas.List.FromFn.{get_or-map-range_with_len}
use Rattle.macs_aes.specs.Cipher.{mix_columns, mixed_octet, round_key, shift_rows, sub_bytes, xor_tables}
use Rattle.macs_planes.specs.Across.{place_back, row_below, turned, turned_back}
use Rattle.macs_aes.specs.RoundKeys.{keyed}
use Rattle.macs_aes.specs.Rows.{shifted}

pub turned_keyed : (t : ℕ) (k s : List ℕ) → turned t (xor_tables s k) ≡ xor_tables (turned t s) (turned t k)
unfolding turned
turned_keyed zero k s = refl
turned_keyed (suc t) k s = ap shift_rows (turned_keyed t k s)

pub all_keyed : (t : ℕ) (k : List ℕ) (blocks : List (List ℕ))
    → map (turned t) (keyed k blocks) ≡ keyed (turned t k) (map (turned t) blocks)
all_keyed t k [] = refl
all_keyed t k (b ∷ blocks) = ap₂ (λ s ss. s ∷ ss) (turned_keyed t k b) (all_keyed t k blocks)

turned_sub : (t : ℕ) (s : List ℕ) → turned t (sub_bytes s) ≡ sub_bytes (turned t s)
unfolding turned
turned_sub zero s = refl
turned_sub (suc t) s = ap shift_rows (turned_sub t s)

four_turns : (s : List ℕ) → shift_rows (turned 3 (sub_bytes s)) ≡ sub_bytes s
unfolding turned
four_turns s = refl

one_more : (t : ℕ) (s : List ℕ) → turned (suc t) (sub_bytes s) ≡ shift_rows (sub_bytes (turned t s))
unfolding turned
one_more t s = ap shift_rows (turned_sub t s)

none_left : (s : List ℕ) → turned 0 (sub_bytes s) ≡ shift_rows (sub_bytes (turned 3 s))
unfolding turned
none_left s = sym (four_turns s) ∙ ap shift_rows (turned_sub 3 s)

-- one turn more
next_turn : (r : ℕ) (s : List ℕ) → 1 ≤ r
    → turned (r % 4) (sub_bytes s) ≡ shift_rows (sub_bytes (turned ((r - 1) % 4) s))
next_turn r s h = elim (cases_lt ((r - 1) % 4) 3) [
  | inl lt ↦
      let more : r % 4 ≡ suc ((r - 1) % 4) = omega arith in
      ap (λ (t : ℕ). turned t (sub_bytes s)) more ∙ one_more ((r - 1) % 4) s
  | inr ge ↦
      let none : r % 4 ≡ 0 = omega arith in
      let three : (r - 1) % 4 ≡ 3 = omega arith in
      ap (λ (t : ℕ). turned t (sub_bytes s)) none ∙ none_left s
      ∙ ap (λ (t : ℕ). shift_rows (sub_bytes (turned t s))) (sym three)
]

pub next_turns : (r : ℕ) (blocks : List (List ℕ)) → 1 ≤ r
    → map (turned (r % 4)) (map sub_bytes blocks) ≡ map shift_rows (map sub_bytes (map (turned ((r - 1) % 4)) blocks))
next_turns r [] h = refl
next_turns r (b ∷ blocks) h = ap₂ (λ s ss. s ∷ ss) (next_turn r b h) (next_turns r blocks h)

-- a round key that was turned back
pub back_turned : (t : ℕ) (w : List ℕ) (i : ℕ) → t < 4 → turned t (turned_back t (round_key w i)) ≡ round_key w i
unfolding turned turned_back place_back
back_turned zero w i h = refl
back_turned (suc zero) w i h = refl
back_turned (suc (suc zero)) w i h = refl
back_turned (suc (suc (suc zero))) w i h = refl
back_turned (suc (suc (suc (suc t)))) w i h = absurd (omega arith)

pub back_first : (w : List ℕ) (i : ℕ) → turned_back 0 (round_key w i) ≡ round_key w i
unfolding turned_back place_back
back_first w i = refl

pub none_turned : (blocks : List (List ℕ)) → map (turned 0) blocks ≡ blocks
unfolding turned
none_turned [] = refl
none_turned (b ∷ blocks) = ap (λ bs. b ∷ bs) (none_turned blocks)

-- two turns are left after the last round
pub two_left : (n : ℕ) → (n ≡ 10) ⊎ (n ≡ 14) → (n % 4 ≡ 2) × (2 ≤ n)
two_left n (inl ten) = (omega (arith, ten), omega (arith, ten))
two_left n (inr fourteen) = (omega (arith, fourteen), omega (arith, fourteen))

pub back_at : (t : ℕ) (block : List ℕ) (j : ℕ) → j < 16
    → slice_index (turned_back t block) j ≡ slice_index block (place_back t j)
unfolding turned_back
back_at t block j h = get_or-map-range_with_len (λ j. slice_index block (place_back t j)) 0 16 j j 0 h (omega arith)

-- no turns move nothing
pub not_turned : (block : List ℕ) (j : ℕ) → j < 16 → slice_index (turned_back 0 block) j ≡ slice_index block j
unfolding place_back
not_turned block j h =
    let place : j % 4 + 4 * ((j / 4 + 3 * 0 * (j % 4)) % 4) ≡ j = omega arith in
    back_at 0 block j h ∙ ap (slice_index block) place

-- ---- MixColumns of a block whose rows are still to be turned

unfoldable pub mixed_block : ℕ → List ℕ → List ℕ
mixed_block t s =
    map (λ j. mixed_octet (slice_index s j) (slice_index s (row_below t 1 j)) (slice_index s (row_below t 2 j))
    (slice_index s (row_below t 3 j))) (range_with_len 0 16)

pub mixed_block_is : (t : ℕ) → t < 4 → (g : ℕ → ℕ)
    → map (λ j. mixed_octet (g j) (g (row_below t 1 j)) (g (row_below t 2 j)) (g (row_below t 3 j)))
    (range_with_len 0 16) ≡ mixed_block t (map g (range_with_len 0 16))
unfolding mixed_block row_below
mixed_block_is zero h g = refl
mixed_block_is (suc zero) h g = refl
mixed_block_is (suc (suc zero)) h g = refl
mixed_block_is (suc (suc (suc zero))) h g = refl
mixed_block_is (suc (suc (suc (suc t)))) h g = absurd (omega arith)

block_mixed : (t : ℕ) → t < 4 → (s : List ℕ) → turned t (mixed_block t s) ≡ mix_columns (turned t s)
unfolding turned mixed_block row_below
block_mixed zero h s = refl
block_mixed (suc zero) h s = refl
block_mixed (suc (suc zero)) h s = refl
block_mixed (suc (suc (suc zero))) h s = refl
block_mixed (suc (suc (suc (suc t)))) h s = absurd (omega arith)

pub blocks_mixed : (t : ℕ) → t < 4 → (blocks : List (List ℕ))
    → map (turned t) (map (mixed_block t) blocks) ≡ map mix_columns (map (turned t) blocks)
blocks_mixed t h [] = refl
blocks_mixed t h (b ∷ blocks) = ap₂ (λ s ss. s ∷ ss) (block_mixed t h b) (blocks_mixed t h blocks)

-- ShiftRows twice
pub turned_twice_is : (g : ℕ → ℕ)
    → map (λ j. g (shifted (shifted j))) (range_with_len 0 16) ≡ turned 2 (map g (range_with_len 0 16))
unfolding turned shifted
turned_twice_is g = refl
