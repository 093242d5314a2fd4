-- x^128 times a block, by shifts: x^128 = 1 + x + x^2 + x^7.
use Rattle.std.proofs.Common.{◌≡◌, ℕ, zero, suc, ◌+◌, ◌*◌, ◌/◌, ◌%◌, ◌^◌, ◌<◌, ◌∙◌, bit_xor, ap, ap₂, sym, refl, arith}
use native.Mathlib.Nat.{pow-suc, mul_assoc, mul-one}
use lib.Bits.{xor_assoc, xor_shifted}
use Rattle.std.proofs.Math.Nat.{add_comm, mod-add-div'}
use Rattle.std.proofs.lemmas.Nat.{pow_pos, xor_lt, xor_shr}
use Rattle.macs_gf.specs.Gf128.{block_product, times_power, times_x}
use Rattle.macs_gf.proofs.Xor.{xor_middle, xor_shl}
use Rattle.macs_gf.proofs.BlockField.{IsLinear, linear-power, linear_is, one, times_power-shift, times_power-xor}
use Rattle.macs_gf.proofs.BlockField.{times_x-double, times_x-xor}

-- one more power of x
power-suc : (n v : ℕ) → times_power (suc n) v ≡ times_x (times_power n v)
unfolding times_power
power-suc n v = refl

-- a power of a power
pub power-add : (m n v : ℕ) → times_power (m + n) v ≡ times_power m (times_power n v)
unfolding times_power
power-add zero n v =
    let e : 0 + n ≡ n = omega arith in
    ap (λ (k : ℕ). times_power k v) e
power-add (suc m) n v =
    let e : suc m + n ≡ suc (m + n) = omega arith in
    ap (λ (k : ℕ). times_power k v) e ∙ power-suc (m + n) v ∙ ap times_x (power-add m n v)

-- a shift to the right that loses no bit
pub power-exact : (k a : ℕ) → times_power k (a * 2 ^ k) ≡ a
unfolding times_power
power-exact zero a = mul-one a
power-exact (suc k) a =
    let e : a * 2 ^ suc k ≡ a * 2 ^ k * 2 = rw pow-suc (sym (mul_assoc a (2 ^ k) 2)) in
    sym (times_power-shift k (a * 2 ^ suc k)) ∙ ap (λ (y : ℕ). times_power k (times_x y)) e
    ∙ ap (times_power k) (times_x-double (a * 2 ^ k)) ∙ power-exact k a

-- a number in its parts above and below bit k
parts : (k v : ℕ) → v ≡ bit_xor (v / 2 ^ k * 2 ^ k) (v % 2 ^ k)
parts k v =
    let positive : 0 < 2 ^ k = pow_pos k in
    let low : v % 2 ^ k < 2 ^ k = omega arith in
    let whole : v ≡ v / 2 ^ k * 2 ^ k + v % 2 ^ k = sym (mod-add-div' v (2 ^ k))
    ∙ add_comm (v % 2 ^ k) (v / 2 ^ k * 2 ^ k) in
    whole ∙ sym (xor_shifted (v / 2 ^ k) k (v % 2 ^ k) low)

-- a power of x is a shift to the right, and the bits shifted out come back above x^128
pub power-split : (k j v : ℕ) → k + j ≡ 128
    → times_power k v ≡ bit_xor (v / 2 ^ k) (times_power 128 (v % 2 ^ k * 2 ^ j))
power-split k j v e =
    let out : times_power k (v % 2 ^ k) ≡ times_power 128 (v % 2 ^ k * 2 ^ j) =
    ap (times_power k) (sym (power-exact j (v % 2 ^ k))) ∙ sym (power-add k j (v % 2 ^ k * 2 ^ j))
    ∙ ap (λ (n : ℕ). times_power n (v % 2 ^ k * 2 ^ j)) e in
    ap (times_power k) (parts k v) ∙ times_power-xor k (v / 2 ^ k * 2 ^ k) (v % 2 ^ k)
    ∙ ap₂ bit_xor (power-exact k (v / 2 ^ k)) out

-- the sum of two linear maps
linear-sum : (f g : ℕ → ℕ) → IsLinear f → IsLinear g → IsLinear (λ v. bit_xor (f v) (g v))
linear-sum f g l m = record {
  of_sum = λ u v. ap₂ bit_xor (l.of_sum u v) (m.of_sum u v) ∙ xor_middle (f u) (f v) (g u) (g v);
  of_shift = λ v h. ap₂ bit_xor (l.of_shift v h) (m.of_shift v h) ∙ sym (times_x-xor (f v) (g v));
}

-- 1 + x + x^2 + x^7
unfoldable fourfold : ℕ → ℕ
fourfold v = bit_xor (bit_xor (bit_xor (times_power 0 v) (times_power 1 v)) (times_power 2 v)) (times_power 7 v)

fourfold-linear : IsLinear fourfold
unfolding fourfold
fourfold-linear =
    linear-sum (λ v. bit_xor (bit_xor (times_power 0 v) (times_power 1 v)) (times_power 2 v)) (times_power 7)
    (linear-sum (λ v. bit_xor (times_power 0 v) (times_power 1 v)) (times_power 2)
    (linear-sum (times_power 0) (times_power 1) (linear-power 0) (linear-power 1)) (linear-power 2))
    (linear-power 7)

at-one : times_power 128 one ≡ fourfold one
unfolding times_power fourfold one
at-one = refl

-- x^128 is 1 + x + x^2 + x^7
overflow-fourfold : (v : ℕ) → v < 2 ^ 128 → times_power 128 v ≡ fourfold v
overflow-fourfold v h =
    linear_is (times_power 128) (linear-power 128) v h ∙ ap (block_product v) at-one
    ∙ sym (linear_is fourfold fourfold-linear v h)

-- a number with its shifts to the right by 1, 2 and 7
unfoldable pub spread : ℕ → ℕ
spread v = bit_xor (bit_xor (bit_xor v (v / 2)) (v / 2 ^ 2)) (v / 2 ^ 7)

spread-xor : (u v : ℕ) → spread (bit_xor u v) ≡ bit_xor (spread u) (spread v)
unfolding spread
spread-xor u v =
    ap₂ bit_xor (ap₂ bit_xor (ap₂ bit_xor refl (xor_shr u v 1) ∙ xor_middle u v (u / 2) (v / 2)) (xor_shr u v 2)
    ∙ xor_middle (bit_xor u (u / 2)) (bit_xor v (v / 2)) (u / 2 ^ 2) (v / 2 ^ 2)) (xor_shr u v 7)
    ∙ xor_middle (bit_xor (bit_xor u (u / 2)) (u / 2 ^ 2)) (bit_xor (bit_xor v (v / 2)) (v / 2 ^ 2))
    (u / 2 ^ 7) (v / 2 ^ 7)

-- the bits that the shifts lose
unfoldable lost : ℕ → ℕ
lost v = bit_xor (bit_xor (v % 2 * 2 ^ 127) (v % 2 ^ 2 * 2 ^ 126)) (v % 2 ^ 7 * 2 ^ 121)

-- 1 + x + x^2 + x^7 of seven bits at the top loses none
top_seven : (a : ℕ) → fourfold (a * 2 ^ 7) ≡ spread (a * 2 ^ 7)
unfolding fourfold spread times_power
top_seven a =
    let by1 : a * 2 ^ 7 / 2 * 2 ^ 1 ≡ a * 2 ^ 7 = omega arith in
    let by2 : a * 2 ^ 7 / 2 ^ 2 * 2 ^ 2 ≡ a * 2 ^ 7 = omega arith in
    let by7 : a * 2 ^ 7 / 2 ^ 7 * 2 ^ 7 ≡ a * 2 ^ 7 = omega arith in
    ap₂ bit_xor (ap₂ bit_xor (ap (bit_xor (a * 2 ^ 7))
    (ap (times_power 1) (sym by1) ∙ power-exact 1 (a * 2 ^ 7 / 2)))
    (ap (times_power 2) (sym by2) ∙ power-exact 2 (a * 2 ^ 7 / 2 ^ 2)))
    (ap (times_power 7) (sym by7) ∙ power-exact 7 (a * 2 ^ 7 / 2 ^ 7))

-- the lost bits are seven at the top
lost-top : (v : ℕ) → lost v ≡ bit_xor (bit_xor (v % 2 * 2 ^ 6) (v % 2 ^ 2 * 2 ^ 5)) (v % 2 ^ 7) * 2 ^ 121
unfolding lost
lost-top v =
    let a : ℕ = v % 2 * 2 ^ 6 in
    let b : ℕ = v % 2 ^ 2 * 2 ^ 5 in
    let c : ℕ = v % 2 ^ 7 in
    let ea : v % 2 * 2 ^ 127 ≡ a * 2 ^ 121 = omega arith in
    let eb : v % 2 ^ 2 * 2 ^ 126 ≡ b * 2 ^ 121 = omega arith in
    ap (λ (y : ℕ). bit_xor y (c * 2 ^ 121)) (ap₂ bit_xor ea eb ∙ sym (xor_shl a b 121))
    ∙ sym (xor_shl (bit_xor a b) c 121)

lost-lt : (v : ℕ) → lost v < 2 ^ 128
unfolding lost
lost-lt v =
    xor_lt 128 (bit_xor (v % 2 * 2 ^ 127) (v % 2 ^ 2 * 2 ^ 126)) (v % 2 ^ 7 * 2 ^ 121)
    (xor_lt 128 (v % 2 * 2 ^ 127) (v % 2 ^ 2 * 2 ^ 126) (omega arith) (omega arith)) (omega arith)

-- x^128 times the lost bits
lost-power : (v : ℕ) → times_power 128 (lost v) ≡ spread (lost v)
lost-power v =
    let q : ℕ = bit_xor (bit_xor (v % 2 * 2 ^ 6) (v % 2 ^ 2 * 2 ^ 5)) (v % 2 ^ 7) in
    let e : lost v ≡ q * 2 ^ 114 * 2 ^ 7 = lost-top v ∙ omega arith in
    overflow-fourfold (lost v) (lost-lt v) ∙ ap fourfold e ∙ top_seven (q * 2 ^ 114) ∙ ap spread (sym e)

-- seven xors in two groups
regrouped : (a b c d p q r : ℕ) → bit_xor (bit_xor (bit_xor a (bit_xor b p)) (bit_xor c q)) (bit_xor d r)
    ≡ bit_xor (bit_xor (bit_xor (bit_xor a b) c) d) (bit_xor (bit_xor p q) r)
regrouped a b c d p q r =
    ap (λ (y : ℕ). bit_xor (bit_xor y (bit_xor c q)) (bit_xor d r)) (sym (xor_assoc a b p))
    ∙ ap (λ (y : ℕ). bit_xor y (bit_xor d r)) (xor_middle (bit_xor a b) p c q)
    ∙ xor_middle (bit_xor (bit_xor a b) c) (bit_xor p q) d r

-- x^128 times the sum of what is lost
lost-sum : (v : ℕ) → times_power 128 (lost v) ≡ bit_xor (bit_xor (times_power 128 (v % 2 ^ 1 * 2 ^ 127))
    (times_power 128 (v % 2 ^ 2 * 2 ^ 126))) (times_power 128 (v % 2 ^ 7 * 2 ^ 121))
unfolding lost
lost-sum v =
    times_power-xor 128 (bit_xor (v % 2 * 2 ^ 127) (v % 2 ^ 2 * 2 ^ 126)) (v % 2 ^ 7 * 2 ^ 121)
    ∙ ap (λ (y : ℕ). bit_xor y (times_power 128 (v % 2 ^ 7 * 2 ^ 121)))
    (times_power-xor 128 (v % 2 * 2 ^ 127) (v % 2 ^ 2 * 2 ^ 126))

pub power-none : (v : ℕ) → times_power 0 v ≡ v
unfolding times_power
power-none v = refl

-- 1 + x + x^2 + x^7 by shifts, and x^128 times what they lose
shifts : (v : ℕ) → fourfold v ≡ bit_xor (spread v) (bit_xor (bit_xor (times_power 128 (v % 2 ^ 1 * 2 ^ 127))
    (times_power 128 (v % 2 ^ 2 * 2 ^ 126))) (times_power 128 (v % 2 ^ 7 * 2 ^ 121)))
unfolding fourfold spread
shifts v =
    ap₂ bit_xor (ap₂ bit_xor (ap₂ bit_xor (power-none v) (power-split 1 127 v refl)) (power-split 2 126 v refl))
    (power-split 7 121 v refl)
    ∙ regrouped v (v / 2) (v / 2 ^ 2) (v / 2 ^ 7) (times_power 128 (v % 2 ^ 1 * 2 ^ 127))
    (times_power 128 (v % 2 ^ 2 * 2 ^ 126)) (times_power 128 (v % 2 ^ 7 * 2 ^ 121))

-- x^128 times a block
overflow-spread : (v : ℕ) → v < 2 ^ 128 → times_power 128 v ≡ spread (bit_xor v (lost v))
overflow-spread v h =
    overflow-fourfold v h ∙ shifts v
    ∙ ap (bit_xor (spread v)) (sym (lost-sum v) ∙ lost-power v)
    ∙ sym (spread-xor v (lost v))

-- the bits lost of a block, as shifts to the left
lost-shifts : (v : ℕ) → bit_xor (bit_xor (bit_xor v (v * 2 ^ 127 % 2 ^ 128)) (v * 2 ^ 126 % 2 ^ 128))
    (v * 2 ^ 121 % 2 ^ 128) ≡ bit_xor v (lost v)
unfolding lost
lost-shifts v =
    let a : v * 2 ^ 127 % 2 ^ 128 ≡ v % 2 * 2 ^ 127 = omega arith in
    let b : v * 2 ^ 126 % 2 ^ 128 ≡ v % 2 ^ 2 * 2 ^ 126 = omega arith in
    let c : v * 2 ^ 121 % 2 ^ 128 ≡ v % 2 ^ 7 * 2 ^ 121 = omega arith in
    ap₂ (λ (x y : ℕ). bit_xor (bit_xor (bit_xor v x) y) (v * 2 ^ 121 % 2 ^ 128)) a b
    ∙ ap (bit_xor (bit_xor (bit_xor v (v % 2 * 2 ^ 127)) (v % 2 ^ 2 * 2 ^ 126))) c
    ∙ ap (λ (y : ℕ). bit_xor y (v % 2 ^ 7 * 2 ^ 121)) (xor_assoc v (v % 2 * 2 ^ 127) (v % 2 ^ 2 * 2 ^ 126))
    ∙ xor_assoc v (bit_xor (v % 2 * 2 ^ 127) (v % 2 ^ 2 * 2 ^ 126)) (v % 2 ^ 7 * 2 ^ 121)

-- x^128 times a block, as the code computes it
pub overflow-shifts : (v : ℕ) → v < 2 ^ 128
    → spread (bit_xor (bit_xor (bit_xor v (v * 2 ^ 127 % 2 ^ 128)) (v * 2 ^ 126 % 2 ^ 128)) (v * 2 ^ 121 % 2 ^ 128))
    ≡ times_power 128 v
overflow-shifts v h = ap spread (lost-shifts v) ∙ sym (overflow-spread v h)
