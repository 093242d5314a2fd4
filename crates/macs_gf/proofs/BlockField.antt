-- The product of blocks is linear in each factor, associative and commutative, with the block
-- 1 0 .. 0 as its one.
use Rattle.std.proofs.Common.{◌≡◌, ℕ, zero, suc, ◌+◌, ◌-◌, ◌*◌, ◌/◌, ◌%◌, ◌^◌, ◌<◌, bit_xor, refl, sym, ap, ◌∙◌, arith}
use Rattle.std.proofs.Common.{add-one, lit<}
use Rattle.std.specs.Int.{bit_at}
use Rattle.std.proofs.lemmas.Nat.{pow_pos, shr-shr, xor_shr, xor_mod, xor_lt}
use Rattle.std.proofs.lemmas.Nat.Bits.{bit_at-lt, bit_at-suc, bit_at-zero, bit_at_above, bit_at_lowest}
use native.Mathlib.Nat.{div-eq_of_lt, pow-suc, zero-mul}
use lib.Bits.{xor_self, xor_zero_r, xor_shifted}
use Rattle.macs_gf.specs.Gf128.{block_bit, block_product, block_product_below, reduction, times_power, times_x}
use Rattle.macs_gf.proofs.Xor.{bit_at_xor_product, chosen_zero, digit-lt, digit_of_sum, digit_product, digit_scaled}
use Rattle.macs_gf.proofs.Xor.{xor_middle}

-- ---- x times a block

-- x times a sum
pub times_x-xor : (u v : ℕ) → times_x (bit_xor u v) ≡ bit_xor (times_x u) (times_x v)
times_x-xor u v =
    ap (λ (y : ℕ). bit_xor y (bit_xor u v % 2 * reduction)) (xor_shr u v 1)
    ∙ ap (bit_xor (bit_xor (u / 2) (v / 2))) (ap (λ (y : ℕ). y * reduction) (xor_mod u v 1)
    ∙ digit_product (u % 2) (v % 2) reduction (omega arith) (omega arith))
    ∙ xor_middle (u / 2) (v / 2) (u % 2 * reduction) (v % 2 * reduction)

-- x times a block is a block
pub times_x-lt : (v : ℕ) → v < 2 ^ 128 → times_x v < 2 ^ 128
times_x-lt v h = xor_lt 128 (v / 2) (v % 2 * reduction) (omega arith) (omega arith)

-- a power of x times a block is a block
pub times_power-lt : (i v : ℕ) → v < 2 ^ 128 → times_power i v < 2 ^ 128
unfolding times_power
times_power-lt zero v h = h
times_power-lt (suc i) v h = times_x-lt (times_power i v) (times_power-lt i v h)

-- a sum of chosen powers of x times a block is a block
pub below-lt : (n a v : ℕ) → v < 2 ^ 128 → block_product_below a v n < 2 ^ 128
unfolding block_product_below
below-lt zero a v h = lit< tt
below-lt (suc i) a v h =
    xor_lt 128 (block_product_below a v i) (block_bit a i * times_power i v) (below-lt i a v h)
    (digit-lt 128 (block_bit a i) (times_power i v) (bit_at-lt a (127 - i)) (times_power-lt i v h))

-- the product is a block
pub product-lt : (a v : ℕ) → v < 2 ^ 128 → block_product a v < 2 ^ 128
product-lt a v h = below-lt 128 a v h

-- ---- maps that respect sums and x

-- f respects sums, and x times a block
pub record IsLinear (f : ℕ → ℕ) : Type 0 where
  pub of_sum : (u v : ℕ) → f (bit_xor u v) ≡ bit_xor (f u) (f v)
  pub of_shift : (v : ℕ) → v < 2 ^ 128 → f (times_x v) ≡ times_x (f v)

-- a linear map keeps 0
linear_zero : (f : ℕ → ℕ) → IsLinear f → f 0 ≡ 0
linear_zero f l = l.of_sum 0 0 ∙ xor_self (f 0)

-- a linear map of a bit times a block
linear_digit : (f : ℕ → ℕ) → IsLinear f → (d v : ℕ) → d < 2 → f (d * v) ≡ d * f v
linear_digit f l d v h = digit_scaled f (linear_zero f l) d v h

-- a linear map of a power of x times a block
linear_power : (f : ℕ → ℕ) → IsLinear f → (i v : ℕ) → v < 2 ^ 128 → f (times_power i v) ≡ times_power i (f v)
unfolding times_power
linear_power f l zero v h = refl
linear_power f l (suc i) v h = l.of_shift (times_power i v) (times_power-lt i v h) ∙ ap times_x (linear_power f l i v h)

-- a linear map of a product goes to the second factor
pub linear_product : (f : ℕ → ℕ) → IsLinear f → (n a v : ℕ) → v < 2 ^ 128
    → f (block_product_below a v n) ≡ block_product_below a (f v) n
unfolding block_product_below
linear_product f l zero a v h = linear_zero f l
linear_product f l (suc i) a v h =
    l.of_sum (block_product_below a v i) (block_bit a i * times_power i v)
    ∙ ap (λ (y : ℕ). bit_xor y (f (block_bit a i * times_power i v))) (linear_product f l i a v h)
    ∙ ap (bit_xor (block_product_below a (f v) i))
    (linear_digit f l (block_bit a i) (times_power i v) (bit_at-lt a (127 - i))
    ∙ ap (λ (y : ℕ). block_bit a i * y) (linear_power f l i v h))

-- ---- powers of x, and the product with a fixed first factor, are linear

-- a power of x times a sum
pub times_power-xor : (i u v : ℕ) → times_power i (bit_xor u v) ≡ bit_xor (times_power i u) (times_power i v)
unfolding times_power
times_power-xor zero u v = refl
times_power-xor (suc i) u v = ap times_x (times_power-xor i u v) ∙ times_x-xor (times_power i u) (times_power i v)

-- a power of x, and one more x
pub times_power-shift : (i v : ℕ) → times_power i (times_x v) ≡ times_x (times_power i v)
unfolding times_power
times_power-shift zero v = refl
times_power-shift (suc i) v = ap times_x (times_power-shift i v)

-- the product with a power of x is linear
pub linear-power : (i : ℕ) → IsLinear (times_power i)
linear-power i = record { of_sum = times_power-xor i; of_shift = λ v h. times_power-shift i v }

-- the product with a sum on the right
pub product-xor_right : (n a u v : ℕ)
    → block_product_below a (bit_xor u v) n ≡ bit_xor (block_product_below a u n) (block_product_below a v n)
unfolding block_product_below
product-xor_right zero a u v = refl
product-xor_right (suc i) a u v =
    ap (λ (y : ℕ). bit_xor y (block_bit a i * times_power i (bit_xor u v))) (product-xor_right i a u v)
    ∙ ap (bit_xor (bit_xor (block_product_below a u i) (block_product_below a v i)))
    (ap (λ (y : ℕ). block_bit a i * y) (times_power-xor i u v)
    ∙ digit_of_sum (block_bit a i) (times_power i u) (times_power i v) (bit_at-lt a (127 - i)))
    ∙ xor_middle (block_product_below a u i) (block_product_below a v i) (block_bit a i * times_power i u)
    (block_bit a i * times_power i v)

-- the product with x times a block on the right
product-shift_right : (n a v : ℕ) → block_product_below a (times_x v) n ≡ times_x (block_product_below a v n)
unfolding block_product_below
product-shift_right zero a v = refl
product-shift_right (suc i) a v =
    ap (λ (y : ℕ). bit_xor y (block_bit a i * times_power i (times_x v))) (product-shift_right i a v)
    ∙ ap (bit_xor (times_x (block_product_below a v i)))
    (ap (λ (y : ℕ). block_bit a i * y) (times_power-shift i v)
    ∙ sym (digit_scaled times_x refl (block_bit a i) (times_power i v) (bit_at-lt a (127 - i))))
    ∙ sym (times_x-xor (block_product_below a v i) (block_bit a i * times_power i v))

-- the product is linear in its second factor
pub linear-right : (a : ℕ) → IsLinear (λ v. block_product a v)
linear-right a = record { of_sum = product-xor_right 128 a; of_shift = λ v h. product-shift_right 128 a v }

-- ---- the one

-- the block whose one set bit is bit 0
unfoldable pub one : ℕ
one = 2 ^ 127

-- a shift to the left is undone by x
pub times_x-double : (w : ℕ) → times_x (w * 2) ≡ w
times_x-double w =
    let half : w * 2 / 2 ≡ w = omega arith in
    let none : w * 2 % 2 ≡ 0 = omega arith in
    rw (half, none, zero-mul) (xor_zero_r w)

-- x^i is the block whose one set bit is bit i
power-one : (i k : ℕ) → i + k ≡ 127 → times_power i one ≡ 2 ^ k
unfolding times_power one
power-one zero k e =
    let all : k ≡ 127 = omega arith in
    rw all refl
power-one (suc i) k e =
    let before : i + suc k ≡ 127 = omega arith in
    ap times_x (power-one i (suc k) before ∙ pow-suc 2 k) ∙ times_x-double (2 ^ k)

-- a bit joined to the bits before it
regroup : (q d p : ℕ) → q * (p * 2) + d * p ≡ (q * 2 + d) * p
regroup q d p = omega arith

-- a bit fills the place below
digit_below : (d p : ℕ) → d < 2 → 0 < p → d * p < p * 2
digit_below zero p h k = omega arith
digit_below (suc zero) p h k = omega arith
digit_below (suc (suc d)) p h k = absurd (omega arith)

-- the product of 0
product-zero_left : (n v : ℕ) → block_product_below 0 v n ≡ 0
unfolding block_product_below
product-zero_left zero v = refl
product-zero_left (suc i) v =
    ap (λ (y : ℕ). bit_xor y (block_bit 0 i * times_power i v)) (product-zero_left i v)
    ∙ ap (λ (d : ℕ). d * times_power i v) (bit_at-zero (127 - i)) ∙ zero-mul (times_power i v)

-- x^128 is the reduction, at the one
overflow-one : times_power 128 one ≡ block_product reduction one
unfolding times_power block_product_below one
overflow-one = refl

-- the last power of x
power_last : (v : ℕ) → times_power 128 v ≡ times_x (times_power 127 v)
unfolding times_power
power_last v = refl

-- the last bit of a product
product_last : (a v : ℕ)
    → block_product a v ≡ bit_xor (block_product_below a v 127) (block_bit a 127 * times_power 127 v)
unfolding block_product_below
product_last a v = refl

-- the first bits of a block
product-one_below : (n k a : ℕ) → n + k ≡ 128 → a < 2 ^ 128 → block_product_below a one n ≡ a / 2 ^ k * 2 ^ k
unfolding block_product_below
product-one_below zero k a e h =
    let all : k ≡ 128 = omega arith in
    let none : a / 2 ^ 128 ≡ 0 = div-eq_of_lt h in
    rw (all, none) refl
product-one_below (suc i) k a e h =
    let at : 127 - i ≡ k = omega arith in
    let d : ℕ = bit_at a k in
    let q : ℕ = a / 2 ^ suc k in
    let small : d < 2 = bit_at-lt a k in
    let bit : block_bit a i * times_power i one ≡ d * 2 ^ k =
    ap (λ (j : ℕ). bit_at a j * times_power i one) at ∙ ap (λ (y : ℕ). d * y) (power-one i k (omega arith)) in
    let top : q ≡ a / 2 ^ k / 2 = ap (λ (j : ℕ). a / 2 ^ j) (sym (add-one k)) ∙ sym (shr-shr a k 1) in
    let halves : a / 2 ^ k ≡ q * 2 + d = omega arith in
    let whole : 2 ^ suc k ≡ 2 ^ k * 2 = pow-suc 2 k in
    let positive : 0 < 2 ^ k = pow_pos k in
    let low : d * 2 ^ k < 2 ^ suc k = rw whole (digit_below d (2 ^ k) small positive) in
    ap (λ (y : ℕ). bit_xor y (block_bit a i * times_power i one)) (product-one_below i (suc k) a (omega arith) h)
    ∙ ap (bit_xor (q * 2 ^ suc k)) bit ∙ xor_shifted q (suc k) (d * 2 ^ k) low
    ∙ ap (λ (y : ℕ). q * y + d * 2 ^ k) whole ∙ regroup q d (2 ^ k) ∙ ap (λ (y : ℕ). y * 2 ^ k) (sym halves)

-- a block is its product with the one
pub product-one : (a : ℕ) → a < 2 ^ 128 → block_product a one ≡ a
product-one a h = product-one_below 128 0 a refl h ∙ omega arith

-- ---- linear in the first factor

-- the product with a sum on the left
pub product-xor_left : (n a b v : ℕ)
    → block_product_below (bit_xor a b) v n ≡ bit_xor (block_product_below a v n) (block_product_below b v n)
unfolding block_product_below
product-xor_left zero a b v = refl
product-xor_left (suc i) a b v =
    ap (λ (y : ℕ). bit_xor y (block_bit (bit_xor a b) i * times_power i v)) (product-xor_left i a b v)
    ∙ ap (bit_xor (bit_xor (block_product_below a v i) (block_product_below b v i)))
    (bit_at_xor_product a b (127 - i) (times_power i v))
    ∙ xor_middle (block_product_below a v i) (block_product_below b v i) (block_bit a i * times_power i v)
    (block_bit b i * times_power i v)

-- the product with a bit times a block on the left
product-digit_left : (d a v : ℕ) → d < 2 → block_product (d * a) v ≡ d * block_product a v
product-digit_left d a v h = digit_scaled (λ u. block_product u v) (product-zero_left 128 v) d a h

-- the one is a block
one-lt : one < 2 ^ 128
unfolding one
one-lt = lit< tt

-- a linear map is the product with what it makes of the one
pub linear_is : (f : ℕ → ℕ) → IsLinear f → (v : ℕ) → v < 2 ^ 128 → f v ≡ block_product v (f one)
linear_is f l v h = ap f (sym (product-one v h)) ∙ linear_product f l 128 v one one-lt

-- x^128 is the reduction
overflow : (v : ℕ) → v < 2 ^ 128 → times_power 128 v ≡ block_product reduction v
overflow v h =
    linear_is (times_power 128) (linear-power 128) v h
    ∙ ap (block_product v) overflow-one ∙ sym (linear_is (block_product reduction) (linear-right reduction) v h)

-- x times a factor, without the bit shifted out
half_left : (n a v : ℕ) → n < 128 → a < 2 ^ 128
    → block_product_below (a / 2) v (suc n) ≡ times_x (block_product_below a v n)
unfolding block_product_below times_power
half_left zero a v le h =
    let none : bit_at (a / 2) 127 ≡ 0 = bit_at_above (a / 2) 127 127 (omega arith) (omega arith) in
    ap (λ (d : ℕ). bit_xor 0 (d * v)) none ∙ chosen_zero 0 v
half_left (suc n) a v le h =
    let at : suc (127 - suc n) ≡ 127 - n = omega arith in
    let bit : block_bit (a / 2) (suc n) ≡ block_bit a n = sym (bit_at-suc a (127 - suc n)) ∙ ap (bit_at a) at in
    ap (λ (y : ℕ). bit_xor y (block_bit (a / 2) (suc n) * times_x (times_power n v))) (half_left n a v (omega arith) h)
    ∙ ap (λ (d : ℕ). bit_xor (times_x (block_product_below a v n)) (d * times_x (times_power n v))) bit
    ∙ ap (bit_xor (times_x (block_product_below a v n)))
    (sym (digit_scaled times_x refl (block_bit a n) (times_power n v) (bit_at-lt a (127 - n))))
    ∙ sym (times_x-xor (block_product_below a v n) (block_bit a n * times_power n v))

-- the product with x times a block on the left
product-shift_left : (a v : ℕ) → a < 2 ^ 128 → v < 2 ^ 128 → block_product (times_x a) v ≡ times_x (block_product a v)
product-shift_left a v h k =
    let d : ℕ = a % 2 in
    let small : d < 2 = omega arith in
    let lowest : block_bit a 127 ≡ d = bit_at_lowest a in
    product-xor_left 128 (a / 2) (d * reduction) v
    ∙ ap (λ (y : ℕ). bit_xor y (block_product (d * reduction) v)) (half_left 127 a v (omega arith) h)
    ∙ ap (bit_xor (times_x (block_product_below a v 127)))
    (product-digit_left d reduction v small ∙ ap (λ (y : ℕ). d * y) (sym (overflow v k) ∙ power_last v))
    ∙ ap (λ (y : ℕ). bit_xor (times_x (block_product_below a v 127)) y)
    (sym (digit_scaled times_x refl d (times_power 127 v) small))
    ∙ sym (times_x-xor (block_product_below a v 127) (d * times_power 127 v))
    ∙ ap times_x (ap (λ (e : ℕ). bit_xor (block_product_below a v 127) (e * times_power 127 v)) (sym lowest)
    ∙ sym (product_last a v))

-- the product is linear in its first factor
pub linear-left : (b : ℕ) → b < 2 ^ 128 → IsLinear (λ a. block_product a b)
linear-left b k = record { of_sum = λ u v. product-xor_left 128 u v b; of_shift = λ v h. product-shift_left v b h k }

-- the product is associative
pub product-assoc : (a b c : ℕ) → b < 2 ^ 128 → c < 2 ^ 128
    → block_product (block_product a b) c ≡ block_product a (block_product b c)
product-assoc a b c h k = linear_product (λ u. block_product u c) (linear-left c k) 128 a b h

-- the product is commutative
pub product-comm : (a b : ℕ) → a < 2 ^ 128 → b < 2 ^ 128 → block_product a b ≡ block_product b a
product-comm a b h k = sym (linear_is (block_product b) (linear-right b) a h ∙ ap (block_product a) (product-one b k))

-- the product of the one and a block
pub one-product : (b : ℕ) → b < 2 ^ 128 → block_product one b ≡ b
one-product b h = product-comm one b one-lt h ∙ product-one b h
