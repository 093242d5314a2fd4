-- Octets in the halves of a lane.
use Rattle.std.proofs.Common.{◌≡◌, ℕ, ◌+◌, ◌*◌, ◌/◌, ◌%◌, ◌^◌, ◌<◌, ◌∙◌, List, [], ◌∷◌, map, get_or, length, set}
use Rattle.std.proofs.Common.{slice_index, ap, sym, refl, arith, inl, inr}
use Rattle.std.specs.Int.{bit_at}
use Rattle.std.specs.List.{range_with_len}
use Rattle.std.proofs.lemmas.Bool.{cases_lt}
use Rattle.std.proofs.lemmas.List.{get_or-set_same, get_or-set_other}
use Rattle.std.proofs.lemmas.List.FromFn.{get_or-map-range_with_len, get_or-range_with_len, fill_by_all}
use native.Mathlib.Nat.{add_comm}
use Rattle.macs_aes.specs.Blocks.{bit_in, block_in, blocks_in, combined, octet_basis, octet_in, zeros}
use Rattle.macs_aes.specs.Columns.{IsCrossed}
use Rattle.macs_aes.proofs.Moves.{shr_bit}

pub low_byte : (bytes : List ℕ) (x : ℕ) → bytes ≡ x % 256 ∷ x / 256 % 256 ∷ []
    → get_or bytes 0 0 ≡ x / 2 ^ (8 * 0) % 256
low_byte bytes x e = ap (λ b. get_or b 0 0) e ∙ omega arith

pub high_byte : (bytes : List ℕ) (x : ℕ) → bytes ≡ x % 256 ∷ x / 256 % 256 ∷ []
    → get_or bytes 1 0 ≡ x / 2 ^ (8 * 1) % 256
high_byte bytes x e = ap (λ b. get_or b 1 0) e

-- an octet from eight bits of a number
unfoldable pub eight_bits : ℕ → List ℕ
eight_bits n =
    bit_at n 0 ∷ bit_at n 1 ∷ bit_at n 2 ∷ bit_at n 3 ∷ bit_at n 4 ∷ bit_at n 5 ∷ bit_at n 6 ∷ bit_at n 7 ∷ []

byte_values : map (λ n. combined octet_basis (eight_bits n)) (range_with_len 0 256) ≡ range_with_len 0 256
unfolding combined eight_bits
byte_values = refl

byte_bits : (n : ℕ) → eight_bits n ≡ eight_bits (n % 256)
unfolding eight_bits
byte_bits n =
    let e0 : bit_at n 0 ≡ bit_at (n % 256) 0 = omega arith in
    let e1 : bit_at n 1 ≡ bit_at (n % 256) 1 = omega arith in
    let e2 : bit_at n 2 ≡ bit_at (n % 256) 2 = omega arith in
    let e3 : bit_at n 3 ≡ bit_at (n % 256) 3 = omega arith in
    let e4 : bit_at n 4 ≡ bit_at (n % 256) 4 = omega arith in
    let e5 : bit_at n 5 ≡ bit_at (n % 256) 5 = omega arith in
    let e6 : bit_at n 6 ≡ bit_at (n % 256) 6 = omega arith in
    let e7 : bit_at n 7 ≡ bit_at (n % 256) 7 = omega arith in
    cc

pub byte_is : (n : ℕ) → combined octet_basis (eight_bits n) ≡ n % 256
byte_is n =
    let small : n % 256 < 256 = omega arith in
    ap (combined octet_basis) (byte_bits n)
    ∙ sym (get_or-map-range_with_len (λ m. combined octet_basis (eight_bits m)) 0 256 (n % 256) (n % 256) 0 small
    (omega arith))
    ∙ ap (λ t. get_or t (n % 256) 0) byte_values ∙ get_or-range_with_len 0 256 (n % 256) 0 small ∙ omega arith

-- the bits of a half of a number
unfoldable pub half_bits : ℕ → ℕ → List ℕ
half_bits n h = bit_at n (8 * h + 0) ∷ bit_at n (8 * h + 1) ∷ bit_at n (8 * h + 2) ∷ bit_at n (8 * h + 3)
    ∷ bit_at n (8 * h + 4) ∷ bit_at n (8 * h + 5) ∷ bit_at n (8 * h + 6) ∷ bit_at n (8 * h + 7) ∷ []

half_bits-is : (n h : ℕ) → half_bits n h ≡ eight_bits (n / 2 ^ (8 * h))
unfolding half_bits eight_bits
half_bits-is n h =
    let e : (k : ℕ) → bit_at n (8 * h + k) ≡ bit_at (n / 2 ^ (8 * h)) k = λ k. ap (bit_at n) (add_comm (8 * h) k)
    ∙ sym (shr_bit n (8 * h) k) in
    let e0 = e 0 in let e1 = e 1 in let e2 = e 2 in let e3 = e 3 in let e4 = e 4 in let e5 = e 5 in let e6 = e 6 in
    let e7 = e 7 in
    cc

pub half_is : (n h : ℕ) → combined octet_basis (half_bits n h) ≡ n / 2 ^ (8 * h) % 256
half_is n h = ap (combined octet_basis) (half_bits-is n h) ∙ byte_is (n / 2 ^ (8 * h))

crossed_back : (lanes : ℕ) (planes : List (List ℕ)) (x : List ℕ) (m h k i : ℕ) → m < 8 → h < 2 → k < 8 → i < lanes
    → IsCrossed lanes m planes x
    → bit_in x i (8 * h + k) ≡ bit_in (get_or planes k (zeros lanes)) i (8 * h + m)
crossed_back lanes planes x m h k i hm hh hk hi c =
    let e1 : (8 * h + k) % 8 ≡ k = omega arith in
    let e2 : 8 * ((8 * h + k) / 8) + m ≡ 8 * h + m = omega arith in
    c i (8 * h + k) hi (omega arith) ∙ ap (λ p. bit_in (get_or planes p (zeros lanes)) i (8 * ((8 * h + k) / 8) + m))
    e1 ∙ ap (bit_in (get_or planes k (zeros lanes)) i) e2

pub stored_octet : (lanes : ℕ) (p0 p1 p2 p3 p4 p5 p6 p7 x : List ℕ) (m h i : ℕ) → m < 8 → h < 2 → i < lanes
    → IsCrossed lanes m (p0 ∷ p1 ∷ p2 ∷ p3 ∷ p4 ∷ p5 ∷ p6 ∷ p7 ∷ []) x
    → get_or x i 0 / 2 ^ (8 * h) % 256 ≡ octet_in octet_basis (p0 ∷ p1 ∷ p2 ∷ p3 ∷ p4 ∷ p5 ∷ p6 ∷ p7 ∷ []) i (8 * h + m)
unfolding bit_in half_bits
stored_octet lanes p0 p1 p2 p3 p4 p5 p6 p7 x m h i hm hh hi c =
    let planes : List (List ℕ) = p0 ∷ p1 ∷ p2 ∷ p3 ∷ p4 ∷ p5 ∷ p6 ∷ p7 ∷ [] in
    let back : (k : ℕ) → k < 8 → bit_in x i (8 * h + k) ≡ bit_in (get_or planes k (zeros lanes)) i (8 * h + m) =
    λ k hk. crossed_back lanes planes x m h k i hm hh hk hi c in
    let e0 = back 0 (omega arith) in let e1 = back 1 (omega arith) in let e2 = back 2 (omega arith) in
    let e3 = back 3 (omega arith) in
    let e4 = back 4 (omega arith) in let e5 = back 5 (omega arith) in let e6 = back 6 (omega arith) in
    let e7 = back 7 (omega arith) in
    let e = half_is (get_or x i 0) h in
    cc

pub stored_row : (lanes : ℕ) (p0 p1 p2 p3 p4 p5 p6 p7 : List ℕ) (xs : List (List ℕ)) (r : List ℕ) (i : ℕ) → i < lanes
    → ((m : ℕ) → m < 8 → IsCrossed lanes m (p0 ∷ p1 ∷ p2 ∷ p3 ∷ p4 ∷ p5 ∷ p6 ∷ p7 ∷ []) (get_or xs m (zeros lanes)))
    → length r ≡ 16
    → ((j : ℕ) → j < 16 → slice_index r j ≡ get_or (get_or xs (j % 8) (zeros lanes)) i 0 / 2 ^ (8 * (j / 8)) % 256)
    → r ≡ block_in octet_basis (p0 ∷ p1 ∷ p2 ∷ p3 ∷ p4 ∷ p5 ∷ p6 ∷ p7 ∷ []) i
unfolding block_in
stored_row lanes p0 p1 p2 p3 p4 p5 p6 p7 xs r i hi cs len is =
    let planes : List (List ℕ) = p0 ∷ p1 ∷ p2 ∷ p3 ∷ p4 ∷ p5 ∷ p6 ∷ p7 ∷ [] in
    fill_by_all (octet_in octet_basis planes i) r 16 0 len
    (λ j k.
    let low : j % 8 < 8 = omega arith in
    let half : j / 8 < 2 = omega arith in
    let whole : 8 * (j / 8) + j % 8 ≡ j = omega arith in
    is j k ∙ stored_octet lanes p0 p1 p2 p3 p4 p5 p6 p7 (get_or xs (j % 8) (zeros lanes)) (j % 8) (j / 8) i low half hi
    (cs (j % 8) low)
    ∙ ap (octet_in octet_basis planes i) whole)

-- ---- blocks one by one

pub block_was : (lanes : ℕ) (basis : List ℕ) (planes blocks : List (List ℕ)) (i : ℕ)
    → blocks_in lanes basis planes ≡ blocks → i < lanes → get_or blocks i [] ≡ block_in basis planes i
unfolding blocks_in
block_was lanes basis planes blocks i e h = ap (λ b. get_or b i []) (sym e)
    ∙ get_or-map-range_with_len (block_in basis planes) 0 lanes i i [] h (omega arith)

pub rows_more : (xs blocks : List (List ℕ)) (i : ℕ) (r : List ℕ) → i < length xs
    → ((k : ℕ) → k < i → get_or xs k [] ≡ get_or blocks k [])
    → r ≡ get_or blocks i [] → (k : ℕ) → k < i + 1 → get_or (set xs i r) k [] ≡ get_or blocks k []
rows_more xs blocks i r within held is k h = elim (cases_lt k i) [
  | inl lt ↦ get_or-set_other xs i k r [] (omega arith) ∙ held k lt
  | inr ge ↦
      let same : k ≡ i = omega arith in
      rw same (get_or-set_same xs i r [] within ∙ is)
]

pub rows_all : (lanes : ℕ) (basis : List ℕ) (planes blocks xs : List (List ℕ)) → blocks_in lanes basis planes ≡ blocks
    → length xs ≡ lanes
    → ((k : ℕ) → k < lanes → get_or xs k [] ≡ get_or blocks k []) → xs ≡ blocks
unfolding blocks_in
rows_all lanes basis planes blocks xs e len held =
    fill_by_all (block_in basis planes) xs lanes [] len
    (λ k h. held k h ∙ block_was lanes basis planes blocks k e h) ∙ e
