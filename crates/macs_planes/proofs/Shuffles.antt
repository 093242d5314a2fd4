-- Octets of words in other places of the same sixteen.
use Rattle.std.proofs.Common.{◌≡◌, ℕ, zero, suc, ◌+◌, ◌*◌, ◌/◌, ◌%◌, ◌<◌, ◌∙◌, List, [], map, get_or, length, ap, sym}
use Rattle.std.proofs.Common.{refl, arith, w8, inl, inr}
use Rattle.std.specs.List.{range_with_len}
use Rattle.std.specs.Simd.Lanes.{Each1, digits_l, number_l}
use Rattle.std.proofs.lemmas.Bool.{cases_lt}
use Rattle.std.proofs.lemmas.List.FromFn.{get_or-map-range_with_len}
use Rattle.std.proofs.lemmas.Simd.{Each1-from_get_or, SwzOk, SwzOk-from_below, get_or-swz_l_below, length-swz_l, swz_l}
use Rattle.macs_planes.specs.Across.{octet_of_words, place_back, row_below}
use Rattle.macs_aes.specs.Rows.{shifted}
use Rattle.macs_planes.proofs.Octets.{beyond, octet_of_narrower, octet_of_wider}
use Rattle.macs_planes.specs.declared.across.TheConstants.{AFTER, NEXT, TWICE}
use Rattle.macs_planes.specs.declared.key_planes.TheConstants.{BACK}

digit_small : (n x k : ℕ) → get_or (digits_l 256 n x) k 0 < 256
digit_small zero x k = omega arith
digit_small (suc n) x zero = omega arith
digit_small (suc n) x (suc k) = digit_small n (x / 256) k

-- what the shuffle asks
pub places_fit : (lanes : ℕ) (places : List ℕ) → lanes % 8 ≡ 0 → length places ≡ 2 * lanes
    → ((m : ℕ) → m < 2 * lanes → get_or places m 0 < 16)
    → SwzOk w8 16 (2 * lanes) 0 places
places_fit lanes places whole len small =
    SwzOk-from_below w8 16 (lanes / 8) (2 * lanes) 0 places (omega arith) (omega arith)
    (Each1-from_get_or (λ j. j < 16) places 0 (λ i h. small i (omega arith)))

-- the octets of the words after it
pub moved_octet : (lanes : ℕ) (words places : List ℕ) (m : ℕ) → lanes % 8 ≡ 0 → Each1 (λ v. v < 65536) words
    → length places ≡ 2 * lanes
    → ((k : ℕ) → k < 2 * lanes → get_or places k 0 < 16) → m < 2 * lanes
    → octet_of_words
    (digits_l 65536 lanes (number_l 256 (swz_l w8 16 (digits_l 256 (2 * lanes) (number_l 65536 words)) 0 places))) m
    ≡ octet_of_words words (16 * (m / 16) + get_or places m 0)
moved_octet lanes words places m whole fit len small below =
    let octets : List ℕ = digits_l 256 (2 * lanes) (number_l 65536 words) in
    let taken : List ℕ = swz_l w8 16 octets 0 places in
    let size : length taken ≡ 2 * lanes = length-swz_l w8 16 octets 0 places ∙ len in
    let at : (k : ℕ) → k < 2 * lanes → get_or taken k 0 ≡ get_or octets (16 * (k / 16) + get_or places k 0) 0 =
    λ k h.
    let from : 0 + k ≡ k = omega arith in
    get_or-swz_l_below w8 16 octets 0 places k (omega arith) (small k h)
    ∙ ap (λ (q : ℕ). get_or octets (16 * (q / 16) + get_or places k 0) 0) from in
    let each : (k : ℕ) → get_or taken k 0 < 256 = λ k. elim (cases_lt k (2 * lanes)) [
      | inl lt ↦ omega
          (arith, at k lt, digit_small (2 * lanes) (number_l 65536 words) (16 * (k / 16) + get_or places k 0))
      | inr ge ↦ omega (arith, beyond taken k (omega arith))
    ] in
    let here : get_or places m 0 < 16 = small m below in
    octet_of_wider lanes taken m size (Each1-from_get_or (λ v. v < 256) taken 0 (λ i h. each i)) below each
    ∙ at m below ∙ octet_of_narrower lanes words (16 * (m / 16) + get_or places m 0) fit (omega arith)

-- ---- the tables of places

table_place : (table : List (List ℕ)) (f : ℕ → ℕ → ℕ)
    → map (λ k. get_or (get_or table (k / 32) []) (k % 32) 0) (range_with_len 0 128)
    ≡ map (λ k. f (k / 32) (k % 32)) (range_with_len 0 128)
    → (t m : ℕ) → t < 4 → m < 32 → get_or (get_or table t []) m 0 ≡ f t m
table_place table f e t m h k =
    let q : (32 * t + m) / 32 ≡ t = omega arith in
    let r : (32 * t + m) % 32 ≡ m = omega arith in
    let at : get_or (get_or table ((32 * t + m) / 32) []) ((32 * t + m) % 32) 0
    ≡ f ((32 * t + m) / 32) ((32 * t + m) % 32) =
    sym (get_or-map-range_with_len (λ k. get_or (get_or table (k / 32) []) (k % 32) 0) 0 128 (32 * t + m) (32 * t + m) 0
    (omega arith) (omega arith))
    ∙ ap (λ xs. get_or xs (32 * t + m) 0) e
    ∙ get_or-map-range_with_len (λ k. f (k / 32) (k % 32)) 0 128 (32 * t + m) (32 * t + m) 0 (omega arith)
    (omega arith) in
    rw (q, r) at at

next_places : map (λ k. get_or (get_or NEXT (k / 32) []) (k % 32) 0) (range_with_len 0 128)
    ≡ map (λ k. row_below (k / 32) 1 (k % 32 % 16)) (range_with_len 0 128)
unfolding row_below
next_places = refl

after_places : map (λ k. get_or (get_or AFTER (k / 32) []) (k % 32) 0) (range_with_len 0 128)
    ≡ map (λ k. row_below (k / 32) 2 (k % 32 % 16)) (range_with_len 0 128)
unfolding row_below
after_places = refl

back_places : map (λ k. get_or (get_or BACK (k / 32) []) (k % 32) 0) (range_with_len 0 128)
    ≡ map (λ k. place_back (k / 32) (k % 32 % 16)) (range_with_len 0 128)
unfolding place_back
back_places = refl

twice_places : map (λ k. get_or TWICE k 0) (range_with_len 0 32)
    ≡ map (λ k. shifted (shifted (k % 16))) (range_with_len 0 32)
unfolding shifted
twice_places = refl

pub next_place : (t m : ℕ) → t < 4 → m < 32 → get_or (get_or NEXT t []) m 0 ≡ row_below t 1 (m % 16)
next_place t m h k = table_place NEXT (λ t m. row_below t 1 (m % 16)) next_places t m h k

pub after_place : (t m : ℕ) → t < 4 → m < 32 → get_or (get_or AFTER t []) m 0 ≡ row_below t 2 (m % 16)
after_place t m h k = table_place AFTER (λ t m. row_below t 2 (m % 16)) after_places t m h k

pub back_place : (t m : ℕ) → t < 4 → m < 32 → get_or (get_or BACK t []) m 0 ≡ place_back t (m % 16)
back_place t m h k = table_place BACK (λ t m. place_back t (m % 16)) back_places t m h k

pub twice_place : (m : ℕ) → m < 32 → get_or TWICE m 0 ≡ shifted (shifted (m % 16))
twice_place m h =
    sym (get_or-map-range_with_len (λ k. get_or TWICE k 0) 0 32 m m 0 h (omega arith))
    ∙ ap (λ xs. get_or xs m 0) twice_places
    ∙ get_or-map-range_with_len (λ k. shifted (shifted (k % 16))) 0 32 m m 0 h (omega arith)

-- ---- places are below sixteen

pub row_below-lt : (t n j : ℕ) → row_below t n j < 16
unfolding row_below
row_below-lt t n j = omega arith

pub place_back-lt : (t j : ℕ) → place_back t j < 16
unfolding place_back
place_back-lt t j = omega arith

pub shifted_lt : (j : ℕ) → shifted j < 16
unfolding shifted
shifted_lt j = omega arith

pub row_below_next : (t j : ℕ) → t < 4 → j < 16 → row_below t 1 (row_below t 2 j) ≡ row_below t 3 j
unfolding row_below
row_below_next zero j h k = omega arith
row_below_next (suc zero) j h k = omega arith
row_below_next (suc (suc zero)) j h k = omega arith
row_below_next (suc (suc (suc zero))) j h k = omega arith
row_below_next (suc (suc (suc (suc t)))) j h k = absurd (omega arith)

-- a place in the sixteen of m
pub same_sixteen : (m j : ℕ) → j < 16 → (16 * (m / 16) + j) % 16 ≡ j
same_sixteen m j h = omega arith

pub in_sixteen : (m j : ℕ) → j < 16 → (16 * (m / 16) + j) / 16 ≡ m / 16
in_sixteen m j h = omega arith
