-- Octets of words of 16 bits, and octets in place of words.
use Rattle.std.proofs.Common.{◌≡◌, ℕ, zero, suc, ◌+◌, ◌*◌, ◌/◌, ◌%◌, ◌^◌, ◌<◌, ◌≤◌, ◌∙◌, List, [], ◌∷◌, get_or, length}
use Rattle.std.proofs.Common.{ap, ap₂, sym, refl, arith, set, inl, inr}
use Rattle.std.specs.Int.{bit_at}
use Rattle.std.proofs.lemmas.Bool.{cases_lt}
use Rattle.std.proofs.lemmas.List.{get_or-set_same, get_or-set_other}
use Rattle.std.specs.Simd.Lanes.{Each1, chunk, digits_l, number_l}
use Rattle.std.proofs.lemmas.Nat.Bits.{bit_at_cat_low}
use Rattle.std.proofs.lemmas.Nat.{div-add-mod'}
use Rattle.std.proofs.lemmas.Simd.{get_or-chunk, get_or_narrower, get_or_wider, length-chunk}
use native.Mathlib.Nat.{add_comm}
use Rattle.macs_planes.specs.Across.{octet_of_words}
use Rattle.macs_aes.proofs.Moves.{shr_bit}

low_bit : (n j : ℕ) → j < 8 → bit_at (n % 256) j ≡ bit_at n j
low_bit n j h = sym (bit_at_cat_low (n / 256) 8 (n % 256) j h) ∙ ap (λ (m : ℕ). bit_at m j) (div-add-mod' n 256)

-- a bit of a word, in its octet
pub bit_of_octet : (v h n : ℕ) → n < 8 → bit_at (v / 2 ^ (8 * h) % 256) n ≡ bit_at v (8 * h + n)
bit_of_octet v h n k = low_bit (v / 2 ^ (8 * h)) n k ∙ shr_bit v (8 * h) n ∙ ap (bit_at v) (add_comm n (8 * h))

-- two neighbours
pair : (xs : List ℕ) → length xs ≡ 2 → xs ≡ get_or xs 0 0 ∷ get_or xs 1 0 ∷ []
pair [] h = absurd (omega arith)
pair (x ∷ []) h = absurd (omega arith)
pair (x ∷ y ∷ []) h = refl
pair (x ∷ y ∷ z ∷ xs) h = absurd (omega arith)

two : (xs : List ℕ) (i : ℕ) → i + 2 ≤ length xs → chunk i 2 xs ≡ get_or xs i 0 ∷ get_or xs (i + 1) 0 ∷ []
two xs i h =
    let same : i + 0 ≡ i = omega arith in
    pair (chunk i 2 xs) (length-chunk i 2 xs h)
    ∙ ap₂ (λ (a b : ℕ). a ∷ b ∷ []) (get_or-chunk i 2 xs 0 0 (omega arith) ∙ ap (λ (k : ℕ). get_or xs k 0) same)
    (get_or-chunk i 2 xs 1 0 (omega arith))

-- the octets of a word that is made of two
halves : (v lo hi h : ℕ) → v ≡ lo + 256 * (hi + 256 * 0) → lo < 256 → hi < 256 → h < 2 → (x : ℕ) → (h ≡ 0 → x ≡ lo)
    → (h ≡ 1 → x ≡ hi) → v / 2 ^ (8 * h) % 256 ≡ x
halves v lo hi zero e l u k x a b = omega (arith, e, a refl)
halves v lo hi (suc zero) e l u k x a b = omega (arith, e, b refl)
halves v lo hi (suc (suc h)) e l u k x a b = absurd (omega arith)

-- the octets of words that are made of octets
pub octet_of_wider : (lanes : ℕ) (octets : List ℕ) (m : ℕ) → length octets ≡ 2 * lanes → Each1 (λ v. v < 256) octets
    → m < 2 * lanes
    → ((k : ℕ) → get_or octets k 0 < 256)
    → octet_of_words (digits_l 65536 lanes (number_l 256 octets)) m ≡ get_or octets m 0
octet_of_wider lanes octets m len small below each =
    let i : ℕ = m / 2 in
    let within : i < lanes = omega arith in
    let word : get_or (digits_l 65536 lanes (number_l 256 octets)) i 0
    ≡ get_or octets (2 * i) 0 + 256 * (get_or octets (2 * i + 1) 0 + 256 * 0) =
    get_or_wider 256 2 65536 lanes octets i refl small within ∙ ap (number_l 256) (two octets (2 * i) (omega arith)) in
    halves _ (get_or octets (2 * i) 0) (get_or octets (2 * i + 1) 0) (m % 2) word (each (2 * i)) (each (2 * i + 1))
    (omega arith) (get_or octets m 0)
    (λ e. ap (λ (k : ℕ). get_or octets k 0) (omega (arith, e)))
    (λ e. ap (λ (k : ℕ). get_or octets k 0) (omega (arith, e)))

power_of_256 : (h : ℕ) → h < 2 → 256 ^ h ≡ 2 ^ (8 * h)
power_of_256 zero k = refl
power_of_256 (suc zero) k = refl
power_of_256 (suc (suc h)) k = absurd (omega arith)

-- the octets of words
pub octet_of_narrower : (lanes : ℕ) (words : List ℕ) (m : ℕ) → Each1 (λ v. v < 65536) words → m < 2 * lanes
    → get_or (digits_l 256 (2 * lanes) (number_l 65536 words)) m 0 ≡ octet_of_words words m
octet_of_narrower lanes words m small below =
    let whole : 2 * (m / 2) + m % 2 ≡ m = omega arith in
    ap (λ (k : ℕ). get_or (digits_l 256 (2 * lanes) (number_l 65536 words)) k 0) (sym whole)
    ∙ get_or_narrower 65536 2 256 (2 * lanes) words (m / 2) (m % 2) refl small (omega arith) (omega (arith, whole))
    ∙ ap (λ (p : ℕ). get_or words (m / 2) 0 / p % 256) (power_of_256 (m % 2) (omega arith))

-- ---- lists that are filled from the front

pub beyond : (xs : List ℕ) (k : ℕ) → length xs ≤ k → get_or xs k 0 ≡ 0
beyond [] k h = refl
beyond (x ∷ xs) zero h = absurd (omega arith)
beyond (x ∷ xs) (suc k) h = beyond xs k (omega arith)

pub filled_more : {A : Type 0} (P : ℕ → A → Type 0) (d : A) (xs : List A) (i : ℕ) (v : A) → i < length xs
    → ((k : ℕ) → k < i → P k (get_or xs k d)) → P i v
    → (k : ℕ) → k < i + 1 → P k (get_or (set xs i v) k d)
filled_more P d xs i v within held is k h = elim (cases_lt k i) [
  | inl lt ↦ rw (get_or-set_other xs i k v d (omega arith)) (held k lt)
  | inr ge ↦
      let same : k ≡ i = omega arith in
      rw same (rw (get_or-set_same xs i v d within) is)
]

-- an element that is there, whatever stands for one that is not
pub any_default : {A : Type 0} (xs : List A) (i : ℕ) (d e : A) → i < length xs → get_or xs i d ≡ get_or xs i e
any_default [] i d e h = absurd (omega arith)
any_default (x ∷ xs) zero d e h = refl
any_default (x ∷ xs) (suc i) d e h = any_default xs i d e (omega arith)

-- octets that are known one by one
pub octets_small : (f : ℕ → ℕ) (xs : List ℕ) (n : ℕ) → length xs ≡ n → ((k : ℕ) → k < n → get_or xs k 0 ≡ f k)
    → ((k : ℕ) → k < n → f k < 256) → (k : ℕ) → get_or xs k 0 < 256
octets_small f xs n len is small k = elim (cases_lt k n) [
  | inl lt ↦ omega (arith, is k lt, small k lt)
  | inr ge ↦ omega (arith, beyond xs k (omega arith))
]
