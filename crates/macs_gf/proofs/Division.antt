-- The remainder of a polynomial: of a sum, of a product with x, of a polynomial of lower degree.
use Rattle.std.proofs.Common.{◌≡◌, ℕ, zero, suc, ◌+◌, ◌*◌, ◌^◌, ◌<◌, ◌≤◌, bit_xor, refl, sym, ap, ◌∙◌, arith}
use Rattle.std.specs.Int.{bit_at}
use Rattle.std.proofs.lemmas.Nat.Bits.{bit_at_above, bit_at-suc}
use Rattle.std.proofs.lemmas.Nat.{shl-shr}
use native.Mathlib.Nat.{add-suc, pow-suc, mul_assoc, pow-le-pow_right, lt_of_lt_of_le}
use Rattle.macs_gf.specs.Polynomial.{division_step, remainder}
use Rattle.macs_gf.proofs.Xor.{xor_middle, xor_shl, chosen_zero, bit_at_xor_product}

-- a step on a sum
pub division_step-xor : (m p q n : ℕ)
    → division_step m (bit_xor p q) n ≡ bit_xor (division_step m p n) (division_step m q n)
division_step-xor m p q n =
    ap (bit_xor (bit_xor p q)) (bit_at_xor_product p q (8 + n) (m * 2 ^ n))
    ∙ xor_middle p q (bit_at p (8 + n) * (m * 2 ^ n)) (bit_at q (8 + n) * (m * 2 ^ n))

-- the remainder of a sum
pub remainder-xor : (m p q n : ℕ) → remainder m (bit_xor p q) n ≡ bit_xor (remainder m p n) (remainder m q n)
unfolding remainder
remainder-xor m p q zero = refl
remainder-xor m p q (suc n) =
    ap (λ (r : ℕ). remainder m r n) (division_step-xor m p q n)
    ∙ remainder-xor m (division_step m p n) (division_step m q n) n

-- a step on x * p
division_step-double : (m p n : ℕ) → division_step m (p * 2) (suc n) ≡ division_step m p n * 2
division_step-double m p n =
    let top : bit_at (p * 2) (8 + suc n) ≡ bit_at p (8 + n) =
    ap (bit_at (p * 2)) (add-suc 8 n) ∙ bit_at-suc (p * 2) (8 + n) ∙ ap (λ (q : ℕ). bit_at q (8 + n)) (shl-shr p 1) in
    let part : bit_at p (8 + n) * (m * 2 ^ suc n) ≡ bit_at p (8 + n) * (m * 2 ^ n) * 2 =
    rw pow-suc (ap (λ (y : ℕ). bit_at p (8 + n) * y) (sym (mul_assoc m (2 ^ n) 2))
    ∙ sym (mul_assoc (bit_at p (8 + n)) (m * 2 ^ n) 2)) in
    ap (λ (d : ℕ). bit_xor (p * 2) (d * (m * 2 ^ suc n))) top ∙ ap (bit_xor (p * 2)) part
    ∙ sym (xor_shl p (bit_at p (8 + n) * (m * 2 ^ n)) 1)

-- the remainder of x * p
pub remainder-double : (m p n : ℕ) → remainder m (p * 2) (suc n) ≡ division_step m (remainder m p n * 2) 0
unfolding remainder
remainder-double m p zero = refl
remainder-double m p (suc n) =
    ap (λ (r : ℕ). remainder m r (suc n)) (division_step-double m p n) ∙ remainder-double m (division_step m p n) n

-- a polynomial of lower degree needs no step
pub remainder-short : (m p n : ℕ) → p < 2 ^ (8 + n) → remainder m p (suc n) ≡ remainder m p n
unfolding remainder
remainder-short m p n h =
    let e : bit_at p (8 + n) ≡ 0 = bit_at_above p (8 + n) (8 + n) h (omega arith) in
    ap (λ (r : ℕ). remainder m r n) (ap (λ (d : ℕ). bit_xor p (d * (m * 2 ^ n))) e ∙ chosen_zero p (m * 2 ^ n))

-- an octet is its own remainder
pub remainder-octet : (m p n : ℕ) → p < 2 ^ 8 → remainder m p n ≡ p
unfolding remainder
remainder-octet m p zero h = refl
remainder-octet m p (suc n) h =
    let within : 8 ≤ 8 + n = omega arith in
    remainder-short m p n (lt_of_lt_of_le h (pow-le-pow_right (omega arith) within)) ∙ remainder-octet m p n h
