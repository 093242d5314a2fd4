-- The product of octets is linear in each factor, commutative and associative, with 1 as its one.
use Rattle.std.proofs.Common.{◌≡◌, ℕ, zero, suc, ◌+◌, ◌*◌, ◌/◌, ◌%◌, ◌^◌, ◌<◌, map, get_or, bit_xor, refl, sym, ap, ◌∙◌}
use Rattle.std.proofs.Common.{arith}
use Rattle.std.specs.Int.{bit_at}
use Rattle.std.specs.List.{range_with_len}
use Rattle.std.proofs.lemmas.List.FromFn.{get_or-map-range_with_len}
use Rattle.std.proofs.lemmas.Nat.{mod_below, pow_pos, shr_below, shr_split}
use Rattle.std.proofs.lemmas.Nat.Bits.{bit_at-lt}
use lib.Bits.{xor_self, xor_shifted}
use Rattle.macs_gf.specs.Gf256.{aes_modulus, octet_product}
use Rattle.macs_gf.specs.Polynomial.{product_below, remainder}
use Rattle.macs_gf.proofs.Division.{remainder-xor}
use Rattle.macs_gf.proofs.Quotient.{octet_product-IsRemainder}
use Rattle.macs_gf.proofs.Xor.{bit_at_xor_product, digit_of_sum, digit_scaled, xor_middle, xor_shl}

-- the product of octets is an octet
pub octet_product-lt : (a b : ℕ) → a < 2 ^ 8 → octet_product a b < 2 ^ 8
octet_product-lt a b h = (octet_product-IsRemainder a b h).0

-- ---- linear in each factor

-- the product of polynomials with a sum on the left
below-xor_left : (n a b c : ℕ) → product_below (bit_xor a b) c n ≡ bit_xor (product_below a c n) (product_below b c n)
unfolding product_below
below-xor_left zero a b c = refl
below-xor_left (suc i) a b c =
    ap (λ (y : ℕ). bit_xor y (bit_at c i * (bit_xor a b * 2 ^ i))) (below-xor_left i a b c)
    ∙ ap (bit_xor (bit_xor (product_below a c i) (product_below b c i)))
    (ap (λ (y : ℕ). bit_at c i * y) (xor_shl a b i) ∙ digit_of_sum (bit_at c i) (a * 2 ^ i) (b * 2 ^ i) (bit_at-lt c i))
    ∙ xor_middle (product_below a c i) (product_below b c i) (bit_at c i * (a * 2 ^ i)) (bit_at c i * (b * 2 ^ i))

-- the product of polynomials with a sum on the right
below-xor_right : (n a b c : ℕ) → product_below a (bit_xor b c) n ≡ bit_xor (product_below a b n) (product_below a c n)
unfolding product_below
below-xor_right zero a b c = refl
below-xor_right (suc i) a b c =
    ap (λ (y : ℕ). bit_xor y (bit_at (bit_xor b c) i * (a * 2 ^ i))) (below-xor_right i a b c)
    ∙ ap (bit_xor (bit_xor (product_below a b i) (product_below a c i))) (bit_at_xor_product b c i (a * 2 ^ i))
    ∙ xor_middle (product_below a b i) (product_below a c i) (bit_at b i * (a * 2 ^ i)) (bit_at c i * (a * 2 ^ i))

-- f of a sum is the sum
pub record IsAdditive (f : ℕ → ℕ) : Type 0 where
  pub of_sum : (u v : ℕ) → f (bit_xor u v) ≡ bit_xor (f u) (f v)

-- one additive map after another
additive_both : (f g : ℕ → ℕ) → IsAdditive f → IsAdditive g → IsAdditive (λ u. f (g u))
additive_both f g k l = record { of_sum = λ u v. ap f (l.of_sum u v) ∙ k.of_sum (g u) (g v) }

-- the map that changes nothing
additive_same : IsAdditive (λ u. u)
additive_same = record { of_sum = λ u v. refl }

-- the product is additive in its first factor
pub additive-left : (b : ℕ) → IsAdditive (λ a. octet_product a b)
unfolding octet_product
additive-left b = record {
  of_sum = λ u v.
      ap (λ (p : ℕ). remainder aes_modulus p 8) (below-xor_left 8 u v b)
      ∙ remainder-xor aes_modulus (product_below u b 8) (product_below v b 8) 8;
}

-- the product is additive in its second factor
pub additive-right : (a : ℕ) → IsAdditive (λ b. octet_product a b)
unfolding octet_product
additive-right a = record {
  of_sum = λ u v.
      ap (λ (p : ℕ). remainder aes_modulus p 8) (below-xor_right 8 a u v)
      ∙ remainder-xor aes_modulus (product_below a u 8) (product_below a v 8) 8;
}

-- ---- additive maps that agree at the powers of x agree

-- an additive map keeps 0
additive_zero : (f : ℕ → ℕ) → IsAdditive f → f 0 ≡ 0
additive_zero f k = k.of_sum 0 0 ∙ xor_self (f 0)

-- an additive map of the highest bit and of the rest
additive_apart : (f : ℕ → ℕ) → IsAdditive f → (n v : ℕ) → v < 2 ^ (1 + n)
    → f v ≡ bit_xor (v / 2 ^ n * f (2 ^ n)) (f (v % 2 ^ n))
additive_apart f k n v small =
    let q : ℕ = v / 2 ^ n in
    let r : ℕ = v % 2 ^ n in
    let digit : q < 2 = shr_below v 1 n small in
    let low : r < 2 ^ n = mod_below v (2 ^ n) (pow_pos n) in
    let apart : v ≡ bit_xor (q * 2 ^ n) r = sym (xor_shifted q n r low ∙ shr_split v n) in
    ap f apart ∙ k.of_sum (q * 2 ^ n) r
    ∙ ap (λ (y : ℕ). bit_xor y (f r)) (digit_scaled f (additive_zero f k) q (2 ^ n) digit)

-- so additive maps agree below 2 ^ n where they agree at x^0 to x^(n - 1)
pub additive_agree : (f g : ℕ → ℕ) → IsAdditive f → IsAdditive g → (n : ℕ) → ((i : ℕ) → i < n → f (2 ^ i) ≡ g (2 ^ i))
    → (v : ℕ) → v < 2 ^ n → f v ≡ g v
additive_agree f g k l zero h v small =
    let none : v ≡ 0 = omega arith in
    rw none (additive_zero f k ∙ sym (additive_zero g l))
additive_agree f g k l (suc n) h v small =
    let wider : suc n ≡ 1 + n = omega arith in
    let within : v < 2 ^ (1 + n) = rw (← wider) small in
    let q : ℕ = v / 2 ^ n in
    let r : ℕ = v % 2 ^ n in
    additive_apart f k n v within ∙ ap (λ (y : ℕ). bit_xor (q * y) (f r)) (h n (omega arith))
    ∙ ap (bit_xor (q * g (2 ^ n)))
    (additive_agree f g k l n (λ i below. h i (omega arith)) r (mod_below v (2 ^ n) (pow_pos n)))
    ∙ sym (additive_apart g l n v within)

-- ---- the laws at powers of x, by computing them

-- two tables that are equal agree at each place
pub same_at : (f g : ℕ → ℕ) (n i : ℕ) → map f (range_with_len 0 n) ≡ map g (range_with_len 0 n) → i < n → f i ≡ g i
same_at f g n i e h =
    sym (get_or-map-range_with_len f 0 n i i 0 h (omega arith)) ∙ ap (λ xs. get_or xs i 0) e
    ∙ get_or-map-range_with_len g 0 n i i 0 h (omega arith)

-- 1 times each power of x
powers-one : map (λ i. octet_product 1 (2 ^ i)) (range_with_len 0 8) ≡ map (λ i. 2 ^ i) (range_with_len 0 8)
unfolding octet_product product_below remainder
powers-one = refl

-- each pair of powers of x
powers-comm : map (λ n. octet_product (2 ^ (n / 8)) (2 ^ (n % 8))) (range_with_len 0 64)
    ≡ map (λ n. octet_product (2 ^ (n % 8)) (2 ^ (n / 8))) (range_with_len 0 64)
unfolding octet_product product_below remainder
powers-comm = refl

-- each three powers of x
powers-assoc : map (λ n. octet_product (octet_product (2 ^ (n / 64)) (2 ^ (n / 8 % 8))) (2 ^ (n % 8)))
    (range_with_len 0 512)
    ≡ map (λ n. octet_product (2 ^ (n / 64)) (octet_product (2 ^ (n / 8 % 8)) (2 ^ (n % 8)))) (range_with_len 0 512)
unfolding octet_product product_below remainder
powers-assoc = refl

-- two powers of x trade places
power-comm : (i j : ℕ) → i < 8 → j < 8 → octet_product (2 ^ i) (2 ^ j) ≡ octet_product (2 ^ j) (2 ^ i)
power-comm i j h k =
    let first : (8 * i + j) / 8 ≡ i = omega arith in
    let last : (8 * i + j) % 8 ≡ j = omega arith in
    rw (first, last) at (same_at (λ n. octet_product (2 ^ (n / 8)) (2 ^ (n % 8)))
    (λ n. octet_product (2 ^ (n % 8)) (2 ^ (n / 8))) 64 (8 * i + j) powers-comm (omega arith))

-- three powers of x are grouped either way
power-assoc : (i j k : ℕ) → i < 8 → j < 8 → k < 8
    → octet_product (octet_product (2 ^ i) (2 ^ j)) (2 ^ k) ≡ octet_product (2 ^ i) (octet_product (2 ^ j) (2 ^ k))
power-assoc i j k hi hj hk =
    let n : ℕ = 64 * i + 8 * j + k in
    let first : n / 64 ≡ i = omega arith in
    let second : n / 8 % 8 ≡ j = omega arith in
    let last : n % 8 ≡ k = omega arith in
    rw (first, second, last) at (same_at
    (λ m. octet_product (octet_product (2 ^ (m / 64)) (2 ^ (m / 8 % 8))) (2 ^ (m % 8)))
    (λ m. octet_product (2 ^ (m / 64)) (octet_product (2 ^ (m / 8 % 8)) (2 ^ (m % 8)))) 512 n powers-assoc
    (omega arith))

-- ---- the laws

-- 1 is the one
pub one-octet_product : (b : ℕ) → b < 2 ^ 8 → octet_product 1 b ≡ b
one-octet_product b h =
    additive_agree (λ u. octet_product 1 u) (λ u. u) (additive-right 1) additive_same 8
    (λ i below. same_at (λ n. octet_product 1 (2 ^ n)) (λ n. 2 ^ n) 8 i powers-one below) b h

-- the product is commutative
pub octet_product-comm : (a b : ℕ) → a < 2 ^ 8 → b < 2 ^ 8 → octet_product a b ≡ octet_product b a
octet_product-comm a b h k =
    additive_agree (λ u. octet_product u b) (λ u. octet_product b u) (additive-left b) (additive-right b) 8
    (λ i below.
    additive_agree (λ u. octet_product (2 ^ i) u) (λ u. octet_product u (2 ^ i)) (additive-right (2 ^ i))
    (additive-left (2 ^ i)) 8
    (λ j within. power-comm i j below within) b k)
    a h

-- associative, where the first two factors are powers of x
assoc_at_powers : (i j c : ℕ) → i < 8 → j < 8 → c < 2 ^ 8
    → octet_product (octet_product (2 ^ i) (2 ^ j)) c ≡ octet_product (2 ^ i) (octet_product (2 ^ j) c)
assoc_at_powers i j c hi hj hc =
    additive_agree (λ u. octet_product (octet_product (2 ^ i) (2 ^ j)) u)
    (λ u. octet_product (2 ^ i) (octet_product (2 ^ j) u))
    (additive-right (octet_product (2 ^ i) (2 ^ j)))
    (additive_both (λ u. octet_product (2 ^ i) u) (λ u. octet_product (2 ^ j) u) (additive-right (2 ^ i))
    (additive-right (2 ^ j))) 8
    (λ k hk. power-assoc i j k hi hj hk) c hc

-- associative, where the first factor is a power of x
assoc_at_power : (i b c : ℕ) → i < 8 → b < 2 ^ 8 → c < 2 ^ 8
    → octet_product (octet_product (2 ^ i) b) c ≡ octet_product (2 ^ i) (octet_product b c)
assoc_at_power i b c hi hb hc =
    additive_agree (λ u. octet_product (octet_product (2 ^ i) u) c) (λ u. octet_product (2 ^ i) (octet_product u c))
    (additive_both (λ u. octet_product u c) (λ u. octet_product (2 ^ i) u) (additive-left c) (additive-right (2 ^ i)))
    (additive_both (λ u. octet_product (2 ^ i) u) (λ u. octet_product u c) (additive-right (2 ^ i)) (additive-left c)) 8
    (λ j hj. assoc_at_powers i j c hi hj hc) b hb

-- the product is associative
pub octet_product-assoc : (a b c : ℕ) → a < 2 ^ 8 → b < 2 ^ 8 → c < 2 ^ 8
    → octet_product (octet_product a b) c ≡ octet_product a (octet_product b c)
octet_product-assoc a b c ha hb hc =
    additive_agree (λ u. octet_product (octet_product u b) c) (λ u. octet_product u (octet_product b c))
    (additive_both (λ u. octet_product u c) (λ u. octet_product u b) (additive-left c) (additive-left b))
    (additive-left (octet_product b c)) 8
    (λ i hi. assoc_at_power i b c hi hb hc) a ha
