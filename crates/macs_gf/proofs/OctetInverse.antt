-- Each octet but 0 has one inverse, which is its power 254.
use Rattle.std.proofs.Common.{◌≡◌, ℕ, zero, suc, ◌+◌, ◌-◌, ◌^◌, ◌<◌, ◌≤◌, ◌↔◌, Bool, true, eqb, map, get_or, find}
use Rattle.std.proofs.Common.{replicate, unwrap_or, refl, sym, ap, ◌∙◌, arith, inl, inr}
use Rattle.std.specs.List.{range_with_len}
use Rattle.std.proofs.lemmas.Bool.{cases_Bool, cases_eq, eq-eqb, eqb-true, false≢true}
use Rattle.std.proofs.lemmas.List.{get_or-replicate}
use Rattle.std.proofs.lemmas.List.FromFn.{get_or-map-range_with_len}
use Rattle.macs_gf.specs.Gf256.{IsInverse, inverse, octet_product}
use Rattle.macs_gf.specs.Polynomial.{product_below, remainder}
use Rattle.macs_gf.proofs.OctetField.{octet_product-assoc, octet_product-comm, octet_product-lt, one-octet_product}

-- ---- the power 254

-- a to the power 2
unfoldable pub squared : ℕ → ℕ
squared a = octet_product a a

-- a to the power 2 ^ n - 1
unfoldable pub ones_power : ℕ → ℕ → ℕ
ones_power a zero = 1
ones_power a (suc n) = octet_product a (squared (ones_power a n))

-- a to the power 254
unfoldable pub power_254 : ℕ → ℕ
power_254 a = squared (ones_power a 7)

-- each octet but 0, times its power 254: a test of each
products_are : map (λ a. octet_product a (power_254 a)) (range_with_len 1 255) ≡ replicate 255 1
unfolding power_254 ones_power squared octet_product product_below remainder
products_are = refl

-- an octet but 0, times its power 254
product-power_254 : (a : ℕ) → 0 < a → a < 2 ^ 8 → octet_product a (power_254 a) ≡ 1
product-power_254 a positive h =
    let k : ℕ = a - 1 in
    sym (get_or-map-range_with_len (λ n. octet_product n (power_254 n)) 1 255 k a 0 (omega arith) (omega arith))
    ∙ ap (λ xs. get_or xs k 0) products_are ∙ get_or-replicate 255 k 1 0 (omega arith)

-- the power 254 is an octet
power_254-lt : (a : ℕ) → a < 2 ^ 8 → power_254 a < 2 ^ 8
unfolding power_254 squared ones_power
power_254-lt a h =
    let p : ℕ = octet_product a (squared (ones_power a 6)) in
    octet_product-lt p p (octet_product-lt a (squared (ones_power a 6)) h)

-- ---- no octet has two inverses

-- two octets whose product with a is 1 are the same
unique : (a b c : ℕ) → a < 2 ^ 8 → b < 2 ^ 8 → c < 2 ^ 8 → octet_product a b ≡ 1 → octet_product a c ≡ 1 → b ≡ c
unique a b c ha hb hc eb ec =
    sym (one-octet_product b hb) ∙ ap (λ (u : ℕ). octet_product u b) (sym ec) ∙ octet_product-assoc a c b ha hc hb
    ∙ ap (octet_product a) (octet_product-comm c b hc hb) ∙ sym (octet_product-assoc a b c ha hb hc)
    ∙ ap (λ (u : ℕ). octet_product u c) eb ∙ one-octet_product c hc

-- ---- what the search for the inverse finds

-- a search over numbers finds one that passes, where there is one
found : (p : ℕ → Bool) (n a c : ℕ) → a ≤ c → c < a + n → p c ≡ true
    → (p (unwrap_or (find p (range_with_len a n)) 0) ≡ true) × (unwrap_or (find p (range_with_len a n)) 0 < a + n)
found p zero a c low high h = absurd (omega arith)
found p (suc n) a c low high h = elim (cases_Bool (p a)) [
  | inl passes ↦ rw (passes, passes) (refl, omega arith)
  | inr fails ↦ elim (cases_eq a c) [
    | inl same ↦ absurd (false≢true (sym fails ∙ ap p same ∙ h))
    | inr other ↦
        let rest = found p n (a + 1) c (omega arith) (omega arith) h in
        rw fails (rest.0, omega (arith, rest.1))
  ]
]

-- the search finds an octet whose product with a is 1
inverse-of_power : (a : ℕ) → 0 < a → a < 2 ^ 8 → (octet_product a (inverse a) ≡ 1) × (inverse a < 2 ^ 8)
unfolding inverse
inverse-of_power a positive h =
    let search_for = found (λ b. eqb (octet_product a b) 1) 256 0 (power_254 a) (omega arith) (power_254-lt a h)
    (eq-eqb (octet_product a (power_254 a)) 1 (product-power_254 a positive h)) in
    (eqb-true (octet_product a (inverse a)) 1 search_for.0, search_for.1)

-- for 0 the search finds nothing
inverse_zero : inverse 0 ≡ 0
unfolding inverse octet_product product_below remainder
inverse_zero = refl

-- the power 254 of 0
power_254_zero : power_254 0 ≡ 0
unfolding power_254 ones_power squared octet_product product_below remainder
power_254_zero = refl

-- ---- the laws

-- the inverse is the one number that is an inverse
pub inverse-is : (a b : ℕ) → a < 2 ^ 8 → IsInverse a b ↔ (b ≡ inverse a)
inverse-is zero b ha = (
  λ h. h.1.0 refl ∙ sym inverse_zero,
  λ e. (omega (arith, e, inverse_zero), (λ z. e ∙ inverse_zero, λ ne. absurd (ne refl))),
)
inverse-is (suc k) b ha =
    let inv = inverse-of_power (suc k) (omega arith) ha in (
      λ h. unique (suc k) b (inverse (suc k)) ha h.0 inv.1 (h.1.1 (λ e. absurd (omega arith))) inv.0,
      λ e. (omega (arith, e, inv.1), (λ z. absurd (omega arith), λ ne. ap (octet_product (suc k)) e ∙ inv.0)),
    )

-- the inverse is the power 254
pub inverse-power_254 : (a : ℕ) → a < 2 ^ 8 → inverse a ≡ power_254 a
inverse-power_254 zero h = inverse_zero ∙ sym power_254_zero
inverse-power_254 (suc k) h =
    let inv = inverse-of_power (suc k) (omega arith) h in
    unique (suc k) (inverse (suc k)) (power_254 (suc k)) h inv.1 (power_254-lt (suc k) h) inv.0
    (product-power_254 (suc k) (omega arith) h)
