-- Octets by tests of their bits.
use Rattle.std.proofs.Common.{◌≡◌, ℕ, zero, suc, ◌-◌, ◌*◌, ◌%◌, ◌^◌, ◌<◌, ◌∙◌, List, [], ◌∷◌, map, get_or, length}
use Rattle.std.proofs.Common.{replicate, bit_and, bit_xor, ap, sym, refl, arith, Bool, false, cond}
use Rattle.std.specs.Prelude.{if◌then◌else◌, ◌==◌}
use Rattle.std.specs.Int.{bit_at, w8}
use Rattle.std.specs.List.{range_with_len}
use Rattle.std.specs.Simd.Lanes.{mask_l, top, zip2}
use Rattle.std.proofs.lemmas.Bool.{eq-eqb}
use Rattle.std.proofs.lemmas.Nat.Bits.{and_pow, bit_at-lt, bit_at_ones}
use Rattle.std.proofs.lemmas.Simd.{bit_mask_l, bitmask_splat, get_or-replicate, get_or-zip2, length-zip2}
use Rattle.std.proofs.Math.Dec.{eqb-zero-suc}
use native.Mathlib.Nat.{zero-mul, one-mul, mod-eq_of_lt}
use Rattle.macs_aes.specs.Cipher.{xor_tables}
use Rattle.macs_aes.specs.Bits.{tested}
use Rattle.macs_aes.specs.Blocks.{combined, octet_basis}
use Rattle.macs_aes.specs.RoundKeys.{octet_in_words, octets_in_words}
use Rattle.macs_aes.proofs.Circuit.{bit_at-and}
use Rattle.macs_aes.proofs.Bytes.{byte_is, eight_bits}

and_one : (y : ℕ) → y < 2 → bit_and y 1 ≡ y
and_one zero h = refl
and_one (suc zero) h = refl
and_one (suc (suc y)) h = absurd (omega arith)

get_or-tests : (t : ℕ → Bool) (xs : List ℕ) (j : ℕ) → j < length xs → get_or (map t xs) j false ≡ t (get_or xs j 0)
get_or-tests t [] j h = absurd (omega arith)
get_or-tests t (x ∷ xs) zero h = refl
get_or-tests t (x ∷ xs) (suc j) h = get_or-tests t xs j (omega arith)

pub word_bit : (octets : List ℕ) (mask j : ℕ) → length octets ≡ 16 → j < 16
    → bit_at (bit_and (mask_l (map (top 7) (zip2 (λ (a b : ℕ). cond (a == b) (2 ^ 8 - 1) 0)
    (zip2 bit_and octets (replicate 16 mask)) (replicate 16 mask))) % 2 ^ 64) 65535) j
    ≡ tested mask (get_or octets j 0)
word_bit octets mask j len h =
    let xs : List ℕ = zip2 bit_and octets (replicate 16 mask) in
    let size : length xs ≡ 16 = length-zip2 bit_and octets (replicate 16 mask) len ∙ len in
    let within : j < length xs = omega arith in
    let m : ℕ = mask_l (map (λ x. x == mask) xs) in
    let lane : get_or xs j 0 ≡ bit_and (get_or octets j 0) mask =
    get_or-zip2 bit_and octets (replicate 16 mask) j 0 0 0 (omega arith) h
    ∙ ap (bit_and (get_or octets j 0)) (get_or-replicate 16 j mask 0 h) in
    ap (λ (n : ℕ). bit_at (bit_and n 65535) j) (bitmask_splat w8 (λ (a b : ℕ). a == b) xs 16 mask size (omega arith))
    ∙ bit_at-and m 65535 j ∙ ap (bit_and (bit_at m j)) (bit_at_ones 16 j h) ∙ and_one (bit_at m j) (bit_at-lt m j)
    ∙ bit_mask_l (map (λ x. x == mask) xs) j
    ∙ ap (λ b. cond b 1 0) (get_or-tests (λ x. x == mask) xs j within ∙ ap (λ (n : ℕ). n == mask) lane)

digit_test : (d m : ℕ) → d < 2 → 0 < m → (if d * m == m then 1 else 0) ≡ d
digit_test d zero h k = absurd (omega arith)
digit_test zero (suc m) h k = ap (λ b. cond b 1 0) (ap (λ (y : ℕ). y == suc m) (zero-mul (suc m)) ∙ eqb-zero-suc m)
digit_test (suc zero) (suc m) h k = rw one-mul (rw (eq-eqb (suc m) (suc m) refl) refl)
digit_test (suc (suc d)) (suc m) h k = absurd (omega arith)

has_bit : (x k m : ℕ) → m ≡ 2 ^ k → 0 < m → tested m x ≡ bit_at x k
has_bit x k m e h = ap (λ (y : ℕ). if y == m then 1 else 0) (ap (bit_and x) e ∙ and_pow x k
    ∙ ap (λ (y : ℕ). bit_at x k * y) (sym e)) ∙ digit_test (bit_at x k) m (bit_at-lt x k) h

-- an octet from what its tests by eight masks say
pub tested_octet : (b0 b1 b2 b3 b4 b5 b6 b7 x : ℕ) → x < 256
    → b0 ≡ tested 1 x → b1 ≡ tested 2 x → b2 ≡ tested 4 x → b3 ≡ tested 8 x
    → b4 ≡ tested 16 x → b5 ≡ tested 32 x → b6 ≡ tested 64 x → b7 ≡ tested 128 x
    → combined octet_basis (b0 ∷ b1 ∷ b2 ∷ b3 ∷ b4 ∷ b5 ∷ b6 ∷ b7 ∷ []) ≡ x
unfolding eight_bits
tested_octet b0 b1 b2 b3 b4 b5 b6 b7 x small e0 e1 e2 e3 e4 e5 e6 e7 =
    let f : (b k m : ℕ) → m ≡ 2 ^ k → 0 < m → b ≡ tested m x → b ≡ bit_at x k = λ b k m e p t. t ∙ has_bit x k m e p in
    let f0 = f b0 0 1 refl (omega arith) e0 in let f1 = f b1 1 2 refl (omega arith) e1 in
    let f2 = f b2 2 4 refl (omega arith) e2 in let f3 = f b3 3 8 refl (omega arith) e3 in
    let f4 = f b4 4 16 refl (omega arith) e4 in let f5 = f b5 5 32 refl (omega arith) e5 in
    let f6 = f b6 6 64 refl (omega arith) e6 in let f7 = f b7 7 128 refl (omega arith) e7 in
    let e = byte_is x in
    let whole : x % 256 ≡ x = mod-eq_of_lt small in
    cc

pub xor_words_is : (words : List ℕ) (g : ℕ → ℕ) → map (λ j. bit_xor (g j) (octet_in_words words j))
    (range_with_len 0 16) ≡ xor_tables (map g (range_with_len 0 16)) (octets_in_words words)
unfolding octets_in_words
xor_words_is words g = refl
