-- What long division leaves is a remainder.
use Rattle.std.proofs.Common.{◌≡◌, ℕ, zero, suc, ◌+◌, ◌-◌, ◌*◌, ◌^◌, ◌<◌, ◌≤◌, bit_xor, refl, ap, sym, ◌∙◌, arith, lit<}
use Rattle.std.proofs.Common.{◌/◌, ◌%◌, subst}
use Rattle.std.specs.Int.{bit_at}
use Rattle.std.proofs.lemmas.Nat.{mod_below, pow-add, pow_pos, shl_below, shr_below, shr_split, xor_block, xor_comm}
use Rattle.std.proofs.lemmas.Nat.{xor_lt}
use Rattle.std.proofs.lemmas.Nat.Bits.{bit_at_cat_high, bit_at_cat_low, bit_at-lt, bit_at_lowest}
use native.Mathlib.Nat.{lt_of_lt_of_le, mod-eq_of_lt, one-mul, pow-le-pow_right, pow-suc}
use lib.Bits.{xor_assoc, xor_self, xor_zero_r}
use Rattle.macs_gf.proofs.Xor.{chosen_zero, digit-lt}
use Rattle.macs_gf.specs.Gf256.{aes_modulus, octet_product}
use Rattle.macs_gf.specs.Polynomial.{IsRemainder, division_step, product_below, remainder}

-- a product takes the lowest n bits of its second factor
product_same : (m q r n : ℕ) → ((i : ℕ) → i < n → bit_at q i ≡ bit_at r i) → product_below m q n ≡ product_below m r n
unfolding product_below
product_same m q r zero h = refl
product_same m q r (suc n) h =
    ap (λ (y : ℕ). bit_xor y (bit_at q n * (m * 2 ^ n))) (product_same m q r n (λ i lt. h i (omega arith)))
    ∙ ap (λ (d : ℕ). bit_xor (product_below m r n) (d * (m * 2 ^ n))) (h n (omega arith))

-- a bit above n bits
below : (d n b : ℕ) → d < 2 → b < 2 ^ n → d * 2 ^ n + b < 2 ^ suc n
below zero n b h k = rw pow-suc (omega arith)
below (suc zero) n b h k = rw pow-suc (omega arith)
below (suc (suc d)) n b h k = absurd (omega arith)

-- the bit above n bits
top_bit : (d n b : ℕ) → d < 2 → b < 2 ^ n → bit_at (d * 2 ^ n + b) n ≡ d
top_bit d n b h k =
    let none : n - n ≡ 0 = omega arith in
    bit_at_cat_high d n b n k (omega arith) ∙ ap (bit_at d) none ∙ bit_at_lowest d ∙ mod-eq_of_lt h

-- a part that was taken away comes back
added : (p part y r : ℕ) → bit_xor p part ≡ bit_xor y r → p ≡ bit_xor (bit_xor y part) r
added p part y r e =
    sym (xor_assoc p part part ∙ ap (bit_xor p) (xor_self part) ∙ xor_zero_r p)
    ∙ ap (λ (u : ℕ). bit_xor u part) e ∙ xor_assoc y r part ∙ ap (bit_xor y) (xor_comm r part)
    ∙ sym (xor_assoc y part r)

-- p is m's multiple by q, and the remainder
pub record Division (m p n : ℕ) : Type 0 where
  pub quotient : ℕ
  pub small : quotient < 2 ^ n
  pub whole : p ≡ bit_xor (product_below m quotient n) (remainder m p n)

-- long division finds the quotient bit by bit
pub division : (m p n : ℕ) → Division m p n
unfolding remainder product_below
division m p zero = record { quotient = 0; small = omega arith; whole = refl }
division m p (suc n) =
    let d : ℕ = bit_at p (8 + n) in
    let part : ℕ = d * (m * 2 ^ n) in
    let rest : Division m (division_step m p n) n = division m (division_step m p n) n in
    let r : ℕ = remainder m (division_step m p n) n in
    let q : ℕ = d * 2 ^ n + rest.quotient in
    record {
      quotient = q;
      small = below d n rest.quotient (bit_at-lt p (8 + n)) rest.small;
      whole =
          let low : product_below m q n ≡ product_below m rest.quotient n =
          product_same m q rest.quotient n (λ i lt. bit_at_cat_low d n rest.quotient i lt) in
          let high : bit_at q n ≡ d = top_bit d n rest.quotient (bit_at-lt p (8 + n)) rest.small in
          added p part (product_below m rest.quotient n) r rest.whole
          ∙ ap (λ (y : ℕ). bit_xor (bit_xor y part) r) (sym low)
          ∙ ap (λ (e : ℕ). bit_xor (bit_xor (product_below m q n) (e * (m * 2 ^ n))) r) (sym high);
    }

-- the modulus takes the highest bit away
reduced-lt : (q r m n : ℕ) → q < 2 → r < 2 ^ (8 + n) → m < 2 ^ 8
    → bit_xor (q * 2 ^ (8 + n) + r) (q * ((2 ^ 8 + m) * 2 ^ n)) < 2 ^ (8 + n)
reduced-lt zero r m n h k l =
    let same : 0 * 2 ^ (8 + n) + r ≡ r = omega arith in
    rw (chosen_zero (0 * 2 ^ (8 + n) + r) ((2 ^ 8 + m) * 2 ^ n), same) k
reduced-lt (suc zero) r m n h k l =
    let high : 2 ^ (8 + n) ≡ 2 ^ 8 * 2 ^ n = pow-add 2 8 n in
    let parts : (2 ^ 8 + m) * 2 ^ n ≡ 1 * 2 ^ (8 + n) + m * 2 ^ n = rw high (omega arith) in
    let small : m * 2 ^ n < 2 ^ (8 + n) = shl_below m 8 n l in
    let cancelled : bit_xor 1 1 * 2 ^ (8 + n) + bit_xor r (m * 2 ^ n) ≡ bit_xor r (m * 2 ^ n) = omega arith in
    rw (one-mul ((2 ^ 8 + m) * 2 ^ n), parts, xor_block (8 + n) 1 1 r (m * 2 ^ n) k small, cancelled)
    (xor_lt (8 + n) r (m * 2 ^ n) k small)
reduced-lt (suc (suc q)) r m n h k l = absurd (omega arith)

-- a step lowers the degree
step-lt : (m p n : ℕ) → m < 2 ^ 8 → p < 2 ^ (8 + suc n) → division_step (2 ^ 8 + m) p n < 2 ^ (8 + n)
step-lt m p n h k =
    let q : ℕ = p / 2 ^ (8 + n) in
    let r : ℕ = p % 2 ^ (8 + n) in
    let wider : 8 + suc n ≡ 1 + (8 + n) = omega arith in
    let within : p < 2 ^ (1 + (8 + n)) = rw (← wider) k in
    let two : q < 2 = shr_below p 1 (8 + n) within in
    let is_digit : bit_at p (8 + n) ≡ q = mod-eq_of_lt two in
    let split : q * 2 ^ (8 + n) + r ≡ p = shr_split p (8 + n) in
    let positive : 0 < 2 ^ (8 + n) = pow_pos (8 + n) in
    rw (is_digit) (let P : ℕ → Type 0 = λ u. bit_xor u (q * ((2 ^ 8 + m) * 2 ^ n)) < 2 ^ (8 + n) in
    subst P split (reduced-lt q r m n two (mod_below p (2 ^ (8 + n)) positive) h))

-- the remainder is of degree below 8
pub remainder-lt : (m p n : ℕ) → m < 2 ^ 8 → p < 2 ^ (8 + n) → remainder (2 ^ 8 + m) p n < 2 ^ 8
unfolding remainder
remainder-lt m p zero h k = k
remainder-lt m p (suc n) h k = remainder-lt m (division_step (2 ^ 8 + m) p n) n h (step-lt m p n h k)

-- an octet times x^n, n up to 8
small_shift : (a n : ℕ) → a < 2 ^ 8 → n ≤ 8 → a * 2 ^ n < 2 ^ 16
small_shift a n h k =
    let within : 8 + n ≤ 16 = omega arith in
    lt_of_lt_of_le (shl_below a 8 n h) (pow-le-pow_right (omega arith) within)

-- the product of two octets is of degree below 16
pub product-lt : (a b n : ℕ) → a < 2 ^ 8 → n ≤ 8 → product_below a b n < 2 ^ 16
unfolding product_below
product-lt a b zero h k = lit< tt
product-lt a b (suc n) h k = xor_lt 16 (product_below a b n) (bit_at b n * (a * 2 ^ n)) (product-lt a b n h
    (omega arith)) (digit-lt 16 (bit_at b n) (a * 2 ^ n) (bit_at-lt b n) (small_shift a n h (omega arith)))

-- the product of octets is the remainder
pub octet_product-IsRemainder : (a b : ℕ) → a < 2 ^ 8
    → IsRemainder aes_modulus (product_below a b 8) (octet_product a b)
unfolding octet_product
octet_product-IsRemainder a b h =
    let d = division aes_modulus (product_below a b 8) 8 in (
      remainder-lt 0x1B (product_below a b 8) 8 (lit< tt) (product-lt a b 8 h (omega arith)),
      (d.quotient, d.small, d.whole),
    )
