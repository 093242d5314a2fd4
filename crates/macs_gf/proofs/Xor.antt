-- xor as the sum of polynomials over the field of two elements
use Rattle.std.proofs.Common.{◌≡◌, ℕ, zero, suc, ◌+◌, ◌*◌, ◌%◌, ◌^◌, ◌<◌, bit_xor, refl, sym, ap, ◌∙◌, arith, add-zero}
use Rattle.std.specs.Int.{bit_at}
use Rattle.std.proofs.lemmas.Nat.{xor_block, xor_comm, pow_pos}
use Rattle.std.proofs.lemmas.Nat.Bits.{bit_at_xor, bit_at-lt}
use native.Mathlib.Nat.{zero-mul, one-mul}
use lib.Bits.{xor_assoc, xor_self, xor_zero_r}

-- the middle two of four trade places
pub xor_middle : (a b c d : ℕ) → bit_xor (bit_xor a b) (bit_xor c d) ≡ bit_xor (bit_xor a c) (bit_xor b d)
xor_middle a b c d =
    xor_assoc a b (bit_xor c d)
    ∙ ap (bit_xor a) (sym (xor_assoc b c d) ∙ ap (λ (y : ℕ). bit_xor y d) (xor_comm b c) ∙ xor_assoc c b d)
    ∙ sym (xor_assoc a c (bit_xor b d))

-- a shift of a sum
pub xor_shl : (a b k : ℕ) → bit_xor a b * 2 ^ k ≡ bit_xor (a * 2 ^ k) (b * 2 ^ k)
xor_shl a b k = sym (simp add-zero at (xor_block k a b 0 0 (pow_pos k) (pow_pos k)))

-- the product of a sum of two bits
digits_product : (x y m : ℕ) → x < 2 → y < 2 → (x + y) % 2 * m ≡ bit_xor (x * m) (y * m)
digits_product zero zero m p q = rw zero-mul refl
digits_product zero (suc zero) m p q = rw (zero-mul, one-mul) refl
digits_product (suc zero) zero m p q = rw (zero-mul, one-mul) (sym (xor_zero_r m))
digits_product (suc zero) (suc zero) m p q = rw (zero-mul) (sym (xor_self (1 * m)))
digits_product (suc (suc x)) y m p q = absurd (omega arith)
digits_product zero (suc (suc y)) m p q = absurd (omega arith)
digits_product (suc zero) (suc (suc y)) m p q = absurd (omega arith)

-- what a bit chooses
pub chosen_one : (p m : ℕ) → bit_xor p (1 * m) ≡ bit_xor p m
chosen_one p m = rw one-mul refl

-- and what it leaves out
pub chosen_zero : (p m : ℕ) → bit_xor p (0 * m) ≡ p
chosen_zero p m = rw zero-mul (xor_zero_r p)

-- a bit of a sum, times m
pub bit_at_xor_product : (a b i m : ℕ) → bit_at (bit_xor a b) i * m ≡ bit_xor (bit_at a i * m) (bit_at b i * m)
bit_at_xor_product a b i m =
    ap (λ (x : ℕ). x * m) (bit_at_xor a b i)
    ∙ digits_product (bit_at a i) (bit_at b i) m (bit_at-lt a i) (bit_at-lt b i)

-- the sum of two bits
xor_of_bits : (x y : ℕ) → x < 2 → y < 2 → bit_xor x y ≡ (x + y) % 2
xor_of_bits zero zero p q = refl
xor_of_bits zero (suc zero) p q = refl
xor_of_bits (suc zero) zero p q = refl
xor_of_bits (suc zero) (suc zero) p q = refl
xor_of_bits (suc (suc x)) y p q = absurd (omega arith)
xor_of_bits zero (suc (suc y)) p q = absurd (omega arith)
xor_of_bits (suc zero) (suc (suc y)) p q = absurd (omega arith)

-- a sum of two bits, as a factor
pub digit_product : (x y m : ℕ) → x < 2 → y < 2 → bit_xor x y * m ≡ bit_xor (x * m) (y * m)
digit_product x y m p q = ap (λ (d : ℕ). d * m) (xor_of_bits x y p q) ∙ digits_product x y m p q

-- a bit times a number of n bits
pub digit-lt : (n d v : ℕ) → d < 2 → v < 2 ^ n → d * v < 2 ^ n
digit-lt n zero v h k = rw zero-mul (pow_pos n)
digit-lt n (suc zero) v h k = rw one-mul k
digit-lt n (suc (suc d)) v h k = absurd (omega arith)

-- a bit times a sum
pub digit_of_sum : (d u v : ℕ) → d < 2 → d * bit_xor u v ≡ bit_xor (d * u) (d * v)
digit_of_sum zero u v h = simp zero-mul
digit_of_sum (suc zero) u v h = simp one-mul
digit_of_sum (suc (suc d)) u v h = absurd (omega arith)

-- a bit goes through a map that keeps 0
pub digit_scaled : (f : ℕ → ℕ) → f 0 ≡ 0 → (d v : ℕ) → d < 2 → f (d * v) ≡ d * f v
digit_scaled f z zero v h = rw (zero-mul, zero-mul) z
digit_scaled f z (suc zero) v h = rw (one-mul, one-mul) refl
digit_scaled f z (suc (suc d)) v h = absurd (omega arith)
