-- The product of octets, one bit of the second factor at a time.
use Rattle.std.proofs.Common.{◌≡◌, ℕ, ◌+◌, ◌*◌, ◌%◌, ◌^◌, ◌<◌, ◌≤◌, bit_xor, map, refl, sym, ap, ◌∙◌, arith, add-one}
use Rattle.std.specs.Int.{bit_at}
use Rattle.std.proofs.lemmas.Nat.{shl_below, xor_block}
use native.Mathlib.Nat.{pow-suc, mul-one, pow-le-pow_right, lt_of_lt_of_le, mul_assoc}
use Rattle.std.specs.List.{range_with_len}
use Rattle.macs_gf.specs.Polynomial.{division_step, product_below, remainder}
use Rattle.macs_gf.specs.Gf256.{aes_modulus, octet_product}
use Rattle.macs_gf.proofs.OctetField.{same_at}
use Rattle.macs_gf.proofs.Division.{remainder-xor, remainder-double, remainder-short, remainder-octet}
use Rattle.macs_gf.proofs.Xor.{chosen_one, chosen_zero}

-- x times each octet is one step of division: a test of each
doubles_are : map (λ a. division_step aes_modulus (a * 2) 0) (range_with_len 0 256)
    ≡ map (octet_product 2) (range_with_len 0 256)
unfolding octet_product product_below remainder
doubles_are = refl

-- x times an octet is one step of division
double-is : (a : ℕ) → a < 2 ^ 8 → division_step aes_modulus (a * 2) 0 ≡ octet_product 2 a
double-is a small = same_at (λ b. division_step aes_modulus (b * 2) 0) (octet_product 2) 256 a doubles_are small

-- x^(i + 1) * a is x times x^i * a
pub multiple_next : (a i multiple : ℕ) → a < 2 ^ 8 → multiple < 2 ^ 8 → i < 8
    → multiple ≡ remainder aes_modulus (a * 2 ^ i) 8
    → octet_product 2 multiple ≡ remainder aes_modulus (a * 2 ^ (i + 1)) 8
multiple_next a i multiple small octet below e =
    let twice : a * 2 ^ (i + 1) ≡ a * 2 ^ i * 2 = rw (add-one, pow-suc) (sym (mul_assoc a (2 ^ i) 2)) in
    let bound : a * 2 ^ (i + 1) < 2 ^ (8 + 8) =
    let within : 8 + (i + 1) ≤ 8 + 8 = omega arith in
    lt_of_lt_of_le (shl_below a 8 (i + 1) small) (pow-le-pow_right (omega arith) within) in
    sym (double-is multiple octet)
    ∙ rw e (sym (remainder-double aes_modulus (a * 2 ^ i) 8) ∙ ap (λ (p : ℕ). remainder aes_modulus p 9) (sym twice)
    ∙ remainder-short aes_modulus (a * 2 ^ (i + 1)) 8 bound)

-- a bit that is 1 adds the multiple, and one that is 0 adds nothing
pub product_next_one : (a b i product multiple : ℕ) → bit_at b i ≡ 1
    → product ≡ remainder aes_modulus (product_below a b i) 8
    → multiple ≡ remainder aes_modulus (a * 2 ^ i) 8
    → bit_xor product multiple ≡ remainder aes_modulus (product_below a b (i + 1)) 8
unfolding product_below
product_next_one a b i product multiple bit ep em =
    rw (add-one, ep, em, bit) (sym (ap (λ (p : ℕ). remainder aes_modulus p 8)
    (chosen_one (product_below a b i) (a * 2 ^ i)) ∙ remainder-xor aes_modulus (product_below a b i) (a * 2 ^ i) 8))

-- a bit that is 0 adds nothing
pub product_next_zero : (a b i product : ℕ) → bit_at b i ≡ 0 → product ≡ remainder aes_modulus (product_below a b i) 8
    → product ≡ remainder aes_modulus (product_below a b (i + 1)) 8
unfolding product_below
product_next_zero a b i product bit ep =
    rw (add-one, bit)
    (ep ∙ sym (ap (λ (p : ℕ). remainder aes_modulus p 8) (chosen_zero (product_below a b i) (a * 2 ^ i))))

-- the modulus taken away from an octet's double that has the bit 8
pub double_reduced : (a : ℕ) → a < 2 ^ 8 → 2 ^ 7 ≤ a → bit_xor (a * 2 % 256) 27 ≡ octet_product 2 a
double_reduced a small high =
    let top : bit_at (a * 2) 8 ≡ 1 = omega arith in
    let split : a * 2 ≡ 1 * 2 ^ 8 + a * 2 % 256 = omega arith in
    sym (sym (double-is a small) ∙ ap (λ (d : ℕ). bit_xor (a * 2) (d * (0x11B * 1))) top
    ∙ ap (λ (p : ℕ). bit_xor p 0x11B) split
    ∙ xor_block 8 1 1 (a * 2 % 256) 27 (omega arith) (omega arith) ∙ omega arith)

-- an octet's double that has no bit 8
pub double_short : (a : ℕ) → a < 2 ^ 7 → a * 2 % 256 ≡ octet_product 2 a
double_short a small =
    let none : bit_at (a * 2) 8 ≡ 0 = omega arith in
    let same : a * 2 ≡ a * 2 % 256 = omega arith in
    let octet : a < 2 ^ 8 = omega arith in
    sym (sym (double-is a octet) ∙ ap (λ (d : ℕ). bit_xor (a * 2) (d * (0x11B * 1))) none
    ∙ chosen_zero (a * 2) (0x11B * 1) ∙ same)

-- 1 * a, where no bit is taken yet
pub multiple_first : (a : ℕ) → a < 2 ^ 8 → a ≡ remainder aes_modulus (a * 1) 8
multiple_first a small = rw mul-one (sym (remainder-octet aes_modulus a 8 small))

-- no bit taken yet
pub product_first : (a b : ℕ) → 0 ≡ remainder aes_modulus (product_below a b 0) 8
unfolding product_below
product_first a b = sym (remainder-octet aes_modulus 0 8 (omega arith))
