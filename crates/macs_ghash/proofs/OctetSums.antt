-- Blocks as sums of their octets, and products of blocks octet by octet.
use Rattle.std.proofs.Common.{◌≡◌, ℕ, zero, suc, ◌+◌, ◌-◌, ◌*◌, ◌/◌, ◌%◌, ◌^◌, ◌<◌, ◌≤◌, ◌∙◌, bit_xor, ap, ap₂, sym}
use Rattle.std.proofs.Common.{refl, arith}
use Rattle.std.specs.Int.{bit_at}
use Rattle.std.proofs.Math.Nat.{add_comm}
use Rattle.std.proofs.lemmas.Nat.{pow-add, shr-shr}
use Rattle.std.proofs.lemmas.Nat.Bits.{bit_at-lt}
use native.Mathlib.Nat.{div-eq_of_lt, mul_assoc, zero-mul}
use lib.Bits.{xor_assoc, xor_self, xor_shifted, xor_zero_r}
use Rattle.macs_gf.specs.Gf128.{block_bit, block_product, block_product_below, times_power}
use Rattle.macs_gf.proofs.BlockField.{times_power-xor}
use Rattle.macs_gf.proofs.Xor.{digit_scaled, xor_middle, xor_shl}
use Rattle.macs_ghash.specs.Tables.{block_of_octets, nibble_product, octet_from_left, octet_placed, octet_times, sum_of}
use Rattle.macs_ghash.proofs.Overflow.{power-add, power-exact}

-- ---- sums

pub sum_first : (f : ℕ → ℕ) → sum_of f 0 ≡ 0
unfolding sum_of
sum_first f = refl

pub sum_next : (f : ℕ → ℕ) (n : ℕ) → sum_of f (n + 1) ≡ bit_xor (sum_of f n) (f n)
unfolding sum_of
sum_next f n =
    let e : n + 1 ≡ suc n = omega arith in
    ap (sum_of f) e

-- the terms alone count
pub sum_equal : (f g : ℕ → ℕ) (n : ℕ) → ((l : ℕ) → l < n → f l ≡ g l) → sum_of f n ≡ sum_of g n
unfolding sum_of
sum_equal f g zero h = refl
sum_equal f g (suc n) h = ap₂ bit_xor (sum_equal f g n (λ l k. h l (omega arith))) (h n (omega arith))

pub sum_none : (n : ℕ) → sum_of (λ l. 0) n ≡ 0
unfolding sum_of
sum_none zero = refl
sum_none (suc n) = ap (λ (v : ℕ). bit_xor v 0) (sum_none n)

-- a sum of sums
pub sum_xor : (f g : ℕ → ℕ) (n : ℕ) → sum_of (λ l. bit_xor (f l) (g l)) n ≡ bit_xor (sum_of f n) (sum_of g n)
unfolding sum_of
sum_xor f g zero = refl
sum_xor f g (suc n) = ap (λ (v : ℕ). bit_xor v (bit_xor (f n) (g n))) (sum_xor f g n)
    ∙ xor_middle (sum_of f n) (sum_of g n) (f n) (g n)

-- a map that respects sums
pub sum-map : (g : ℕ → ℕ) → ((a b : ℕ) → g (bit_xor a b) ≡ bit_xor (g a) (g b)) → (f : ℕ → ℕ) (n : ℕ)
    → g (sum_of f n) ≡ sum_of (λ l. g (f l)) n
unfolding sum_of
sum-map g h f zero = h 0 0 ∙ xor_self (g 0)
sum-map g h f (suc n) = h (sum_of f n) (f n) ∙ ap (λ (v : ℕ). bit_xor v (g (f n))) (sum-map g h f n)

-- two sums change places
pub sum_swapped : (f : ℕ → ℕ → ℕ) (m n : ℕ) → sum_of (λ b. sum_of (f b) m) n ≡ sum_of (λ j. sum_of (λ b. f b j) n) m
unfolding sum_of
sum_swapped f m zero = sym (sum_none m)
sum_swapped f m (suc n) = ap (λ (v : ℕ). bit_xor v (sum_of (f n) m)) (sum_swapped f m n)
    ∙ sym (sum_xor (λ j. sum_of (λ b. f b j) n) (f n) m)

-- the terms after the first n
pub sum_split : (f : ℕ → ℕ) (m n : ℕ) → sum_of f (m + n) ≡ bit_xor (sum_of f n) (sum_of (λ k. f (k + n)) m)
unfolding sum_of
sum_split f zero n =
    let e : 0 + n ≡ n = omega arith in
    ap (sum_of f) e ∙ sym (xor_zero_r (sum_of f n))
sum_split f (suc m) n =
    let e : suc m + n ≡ suc (m + n) = omega arith in
    ap (sum_of f) e ∙ ap (λ (v : ℕ). bit_xor v (f (m + n))) (sum_split f m n)
    ∙ xor_assoc (sum_of f n) (sum_of (λ k. f (k + n)) m) (f (m + n))

-- ---- octets of a block

pub placed-xor : (j a b : ℕ) → octet_placed j (bit_xor a b) ≡ bit_xor (octet_placed j a) (octet_placed j b)
unfolding octet_placed
placed-xor j a b = ap (times_power (8 * j)) (xor_shl a b 120) ∙ times_power-xor (8 * j) (a * 2 ^ 120) (b * 2 ^ 120)

pub placed_none : (j : ℕ) → octet_placed j 0 ≡ 0
unfolding octet_placed sum_of
placed_none j = ap (times_power (8 * j)) (zero-mul (2 ^ 120))
    ∙ sum-map (times_power (8 * j)) (times_power-xor (8 * j)) (λ k. 0) 0

placed_is : (j o k : ℕ) → 8 * j + k ≡ 120 → octet_placed j o ≡ o * 2 ^ k
unfolding octet_placed
placed_is j o k e =
    let whole : k + 8 * j ≡ 120 = omega arith in
    let apart : o * 2 ^ 120 ≡ o * 2 ^ k * 2 ^ (8 * j) =
    ap (λ (n : ℕ). o * 2 ^ n) (sym whole) ∙ ap (λ (v : ℕ). o * v) (pow-add 2 k (8 * j))
    ∙ sym (mul_assoc o (2 ^ k) (2 ^ (8 * j))) in
    ap (times_power (8 * j)) apart ∙ power-exact (8 * j) (o * 2 ^ k)

-- an octet more at the right
octet_more : (w k : ℕ) → bit_xor (w / 256 * 2 ^ 8 * 2 ^ k) (w % 256 * 2 ^ k) ≡ w * 2 ^ k
octet_more w k =
    let low : w % 256 < 2 ^ 8 = omega arith in
    let whole : w / 256 * 2 ^ 8 + w % 256 ≡ w = omega arith in
    sym (xor_shl (w / 256 * 2 ^ 8) (w % 256) k)
    ∙ ap (λ (v : ℕ). v * 2 ^ k) (xor_shifted (w / 256) 8 (w % 256) low ∙ whole)

front_octets : (v n k : ℕ) → 8 * n + k ≡ 128 → v < 2 ^ 128
    → sum_of (λ b. octet_placed b (octet_from_left v b)) n ≡ v / 2 ^ k * 2 ^ k
unfolding sum_of
front_octets v zero k e h =
    let all : k ≡ 128 = omega arith in
    let none : v / 2 ^ 128 ≡ 0 = div-eq_of_lt h in
    rw (all, none) refl
front_octets v (suc n) k e h =
    let before : 8 * n + (k + 8) ≡ 128 = omega arith in
    let here : 8 * n + k ≡ 120 = omega arith in
    let at : 120 - 8 * n ≡ k = omega arith in
    let w : ℕ = v / 2 ^ k in
    let front : v / 2 ^ (k + 8) * 2 ^ (k + 8) ≡ w / 256 * 2 ^ 8 * 2 ^ k =
    ap₂ (λ (a b : ℕ). a * b) (sym (shr-shr v k 8)) (ap (λ (n : ℕ). 2 ^ n) (add_comm k 8) ∙ pow-add 2 8 k)
    ∙ sym (mul_assoc (w / 256) (2 ^ 8) (2 ^ k)) in
    ap₂ bit_xor (front_octets v n (k + 8) before h ∙ front)
    (ap (λ (m : ℕ). octet_placed n (v / 2 ^ m % 256)) at ∙ placed_is n (w % 256) k here)
    ∙ octet_more w k

-- a block is the sum of its octets
pub octets_whole : (v : ℕ) → v < 2 ^ 128 → block_of_octets (octet_from_left v) ≡ v
unfolding block_of_octets
octets_whole v h = front_octets v 16 0 refl h ∙ omega arith

-- ---- a product by its octets

-- m bits more of a product
bits_more : (d p o n m : ℕ) → m ≤ 8 → ((k : ℕ) → k < 8 → block_bit d (k + n) ≡ bit_at o (7 - k))
    → block_product_below d p (m + n)
    ≡ bit_xor (block_product_below d p n) (times_power n (sum_of (λ k. bit_at o (7 - k) * times_power k p) m))
unfolding block_product_below sum_of
bits_more d p o n zero le bits =
    let e : 0 + n ≡ n = omega arith in
    let none : times_power n 0 ≡ 0 = sum-map (times_power n) (times_power-xor n) (λ k. 0) 0 in
    ap (block_product_below d p) e
    ∙ sym (ap (bit_xor (block_product_below d p n)) none ∙ xor_zero_r (block_product_below d p n))
bits_more d p o n (suc m) le bits =
    let e : suc m + n ≡ suc (m + n) = omega arith in
    let none : times_power n 0 ≡ 0 = sum-map (times_power n) (times_power-xor n) (λ k. 0) 0 in
    let s : ℕ = sum_of (λ k. bit_at o (7 - k) * times_power k p) m in
    let b : ℕ = bit_at o (7 - m) in
    let term : block_bit d (m + n) * times_power (m + n) p ≡ times_power n (b * times_power m p) =
    ap₂ (λ (x y : ℕ). x * y) (bits m (omega arith)) (ap (λ (i : ℕ). times_power i p) (add_comm m n) ∙ power-add n m p)
    ∙ sym (digit_scaled (times_power n) none b (times_power m p) (bit_at-lt o (7 - m))) in
    ap (block_product_below d p) e ∙ ap₂ bit_xor (bits_more d p o n m (omega arith) bits) term
    ∙ xor_assoc (block_product_below d p n) (times_power n s) (times_power n (b * times_power m p))
    ∙ ap (bit_xor (block_product_below d p n)) (sym (times_power-xor n s (b * times_power m p)))

high_bit : (o k : ℕ) → k < 4 → bit_at (o / 16) (3 - k) ≡ bit_at o (7 - k)
high_bit o zero h = omega arith
high_bit o (suc zero) h = omega arith
high_bit o (suc (suc zero)) h = omega arith
high_bit o (suc (suc (suc zero))) h = omega arith
high_bit o (suc (suc (suc (suc k)))) h = absurd (omega arith)

low_bit : (o k : ℕ) → k < 4 → bit_at (o % 16) (3 - k) ≡ bit_at o (7 - (k + 4))
low_bit o zero h = omega arith
low_bit o (suc zero) h = omega arith
low_bit o (suc (suc zero)) h = omega arith
low_bit o (suc (suc (suc zero))) h = omega arith
low_bit o (suc (suc (suc (suc k)))) h = absurd (omega arith)

-- eight bits are two nibbles
eight_bits : (o p : ℕ) → sum_of (λ k. bit_at o (7 - k) * times_power k p) 8 ≡ octet_times o p
unfolding octet_times nibble_product sum_of
eight_bits o p =
    let none : times_power 4 0 ≡ 0 = sum-map (times_power 4) (times_power-xor 4) (λ k. 0) 0 in
    sum_split (λ k. bit_at o (7 - k) * times_power k p) 4 4
    ∙ ap₂ bit_xor
    (sum_equal (λ k. bit_at o (7 - k) * times_power k p) (λ k. bit_at (o / 16) (3 - k) * times_power k p) 4
    (λ k h. ap (λ (b : ℕ). b * times_power k p) (sym (high_bit o k h))))
    (sum_equal (λ k. bit_at o (7 - (k + 4)) * times_power (k + 4) p)
    (λ k. times_power 4 (bit_at (o % 16) (3 - k) * times_power k p)) 4
    (λ k h. ap₂ (λ (x y : ℕ). x * y) (sym (low_bit o k h))
    (ap (λ (i : ℕ). times_power i p) (add_comm k 4) ∙ power-add 4 k p)
    ∙ sym (digit_scaled (times_power 4) none (bit_at (o % 16) (3 - k)) (times_power k p) (bit_at-lt (o % 16) (3 - k))))
    ∙ sym (sum-map (times_power 4) (times_power-xor 4) (λ k. bit_at (o % 16) (3 - k) * times_power k p) 4))

low_octet_bit : (v k : ℕ) → k < 8 → bit_at (v % 256) k ≡ bit_at v k
low_octet_bit v zero h = omega arith
low_octet_bit v (suc zero) h = omega arith
low_octet_bit v (suc (suc zero)) h = omega arith
low_octet_bit v (suc (suc (suc zero))) h = omega arith
low_octet_bit v (suc (suc (suc (suc zero)))) h = omega arith
low_octet_bit v (suc (suc (suc (suc (suc zero))))) h = omega arith
low_octet_bit v (suc (suc (suc (suc (suc (suc zero)))))) h = omega arith
low_octet_bit v (suc (suc (suc (suc (suc (suc (suc zero))))))) h = omega arith
low_octet_bit v (suc (suc (suc (suc (suc (suc (suc (suc k)))))))) h = absurd (omega arith)

-- the bits of an octet in its block
bit_from_left : (d j k : ℕ) → j < 16 → k < 8 → block_bit d (k + 8 * j) ≡ bit_at (octet_from_left d j) (7 - k)
bit_from_left d j k h l =
    let place : 120 - 8 * j + (7 - k) ≡ 127 - (k + 8 * j) = omega arith in
    sym (low_octet_bit (d / 2 ^ (120 - 8 * j)) (7 - k) (omega arith)
    ∙ ap (λ (n : ℕ). n % 2) (shr-shr d (120 - 8 * j) (7 - k))
    ∙ ap (bit_at d) place)

front_product : (d p n : ℕ) → n ≤ 16
    → block_product_below d p (8 * n) ≡ sum_of (λ j. times_power (8 * j) (octet_times (octet_from_left d j) p)) n
unfolding sum_of block_product_below
front_product d p zero le = refl
front_product d p (suc n) le =
    let more : 8 * suc n ≡ 8 + 8 * n = omega arith in
    ap (block_product_below d p) more
    ∙ bits_more d p (octet_from_left d n) (8 * n) 8 (omega arith) (λ k h. bit_from_left d n k (omega arith) h)
    ∙ ap₂ bit_xor (front_product d p n (omega arith)) (ap (times_power (8 * n)) (eight_bits (octet_from_left d n) p))

-- a product is the sum of those of its octets
pub product_by_octets : (d p : ℕ)
    → block_product d p ≡ sum_of (λ j. times_power (8 * j) (octet_times (octet_from_left d j) p)) 16
product_by_octets d p = front_product d p 16 (omega arith)

-- ---- tables of the octets of products

-- rows of octets of products, each in its place, are the products
pub rows_products : (n : ℕ → ℕ) (p : ℕ) → ((j : ℕ) → nibble_product (n j) p < 2 ^ 128)
    → sum_of (λ b. times_power (8 * b) (block_of_octets (λ j. octet_from_left (nibble_product (n j) p) b))) 16
    ≡ sum_of (λ j. times_power (8 * j) (nibble_product (n j) p)) 16
unfolding block_of_octets octet_placed
rows_products n p small =
    let term : ℕ → ℕ → ℕ = λ (b : ℕ) (j : ℕ). octet_from_left (nibble_product (n j) p) b * 2 ^ 120 in
    let moved : (b j : ℕ)
    → times_power (8 * b) (times_power (8 * j) (term b j)) ≡ times_power (8 * j) (times_power (8 * b) (term b j)) =
    λ b j. sym (power-add (8 * b) (8 * j) (term b j))
    ∙ ap (λ (i : ℕ). times_power i (term b j)) (add_comm (8 * b) (8 * j)) ∙ power-add (8 * j) (8 * b) (term b j) in
    sum_equal (λ b. times_power (8 * b) (sum_of (λ j. times_power (8 * j) (term b j)) 16))
    (λ b. sum_of (λ j. times_power (8 * j) (times_power (8 * b) (term b j))) 16) 16
    (λ b h. sum-map (times_power (8 * b)) (times_power-xor (8 * b)) (λ j. times_power (8 * j) (term b j)) 16
    ∙ sum_equal (λ j. times_power (8 * b) (times_power (8 * j) (term b j)))
    (λ j. times_power (8 * j) (times_power (8 * b) (term b j))) 16 (λ j k. moved b j))
    ∙ sum_swapped (λ b j. times_power (8 * j) (times_power (8 * b) (term b j))) 16 16
    ∙ sum_equal (λ j. sum_of (λ b. times_power (8 * j) (times_power (8 * b) (term b j))) 16)
    (λ j. times_power (8 * j) (nibble_product (n j) p)) 16
    (λ j h. sym (sum-map (times_power (8 * j)) (times_power-xor (8 * j)) (λ b. times_power (8 * b) (term b j)) 16)
    ∙ ap (times_power (8 * j)) (octets_whole (nibble_product (n j) p) (small j)))
