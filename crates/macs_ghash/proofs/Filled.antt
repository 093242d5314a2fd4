-- Tables of four bits, from the octets of multiples by powers of x.
use Rattle.std.proofs.Common.{◌≡◌, ℕ, zero, suc, ◌+◌, ◌-◌, ◌*◌, ◌/◌, ◌%◌, ◌^◌, ◌<◌, ◌≤◌, ◌∙◌, List, [], map, get_or}
use Rattle.std.proofs.Common.{get_or-take, length, length-take-le, take, replicate, set, bit_or, bit_xor, cond, ap, ap₂}
use Rattle.std.proofs.Common.{sym, subst, refl, arith, w8, T, ltb, ◌||◌}
use Rattle.std.specs.Int.{bit_at}
use Rattle.std.specs.List.{range_with_len}
use Rattle.std.specs.Simd.Lanes.{Each1, digits_l, number_l, zip2}
use Rattle.std.proofs.lemmas.List.{get_or-set_other}
use Rattle.std.proofs.lemmas.List.FromFn.{get_or-map-range_with_len}
use Rattle.std.proofs.lemmas.Nat.{pow_pos, xor_mod, xor_shr}
use Rattle.std.proofs.lemmas.Nat.Bits.{bit_at-lt}
use Rattle.std.proofs.lemmas.Simd.{Each1-from_get_or, SwzOk, SwzOk-from_Each1, get_or-replicate, get_or-swz_l}
use Rattle.std.proofs.lemmas.Simd.{get_or-zip2, get_or_narrower, length-replicate, length-zip2, swz_l}
use mir.Val.{zeroes}
use native.Mathlib.Nat.{div-eq_of_lt, one-mul, zero-mul}
use lib.Bits.{or_zero_r, xor_zero_l}
use Rattle.macs_gf.specs.Gf128.{times_power, times_x}
use Rattle.macs_gf.proofs.Xor.{digit_scaled}
use Rattle.macs_ghash.specs.Tables.{nibble_product, octet_from_left, octets_in, sum_of}
use Rattle.macs_gf.proofs.Sixteen.{below_sixteen}
use Rattle.macs_ghash.specs.declared.filling.TheConstants.{NOWHERE}

-- ---- an octet of sums

octet-xor : (u v b : ℕ) → octet_from_left (bit_xor u v) b ≡ bit_xor (octet_from_left u b) (octet_from_left v b)
octet-xor u v b = ap (λ (n : ℕ). n % 256) (xor_shr u v (120 - 8 * b))
    ∙ xor_mod (u / 2 ^ (120 - 8 * b)) (v / 2 ^ (120 - 8 * b)) 8

zero_shifted : (k : ℕ) → 0 / 2 ^ k ≡ 0
zero_shifted k = div-eq_of_lt (pow_pos k)

pub octet_none : (b : ℕ) → octet_from_left 0 b ≡ 0
octet_none b = ap (λ (n : ℕ). n % 256) (zero_shifted (120 - 8 * b))

octet_digit : (d v b : ℕ) → d < 2 → octet_from_left (d * v) b ≡ d * octet_from_left v b
octet_digit d v b h = digit_scaled (λ v. octet_from_left v b) (octet_none b) d v h

-- octet b of a nibble's product from those of the multiples
pub nibble_octet : (n p b : ℕ)
    → bit_xor (bit_xor (bit_xor (bit_at n 3 * octet_from_left (times_power 0 p) b)
    (bit_at n 2 * octet_from_left (times_power 1 p) b)) (bit_at n 1 * octet_from_left (times_power 2 p) b))
    (bit_at n 0 * octet_from_left (times_power 3 p) b)
    ≡ octet_from_left (nibble_product n p) b
unfolding nibble_product sum_of
nibble_octet n p b =
    let t : ℕ → ℕ = λ k. bit_at n (3 - k) * times_power k p in
    let o : (k : ℕ) → octet_from_left (t k) b ≡ bit_at n (3 - k) * octet_from_left (times_power k p) b =
    λ k. octet_digit (bit_at n (3 - k)) (times_power k p) b (bit_at-lt n (3 - k)) in
    sym (octet-xor (bit_xor (bit_xor (bit_xor 0 (t 0)) (t 1)) (t 2)) (t 3) b
    ∙ ap₂ bit_xor (octet-xor (bit_xor (bit_xor 0 (t 0)) (t 1)) (t 2) b
    ∙ ap₂ bit_xor (octet-xor (bit_xor 0 (t 0)) (t 1) b
    ∙ ap₂ bit_xor (ap (λ (v : ℕ). octet_from_left v b) (xor_zero_l (t 0)) ∙ o 0) (o 1)) (o 2)) (o 3))

-- ---- octets of words

seven_are : map (λ b. bit_xor b 7) (range_with_len 0 16) ≡ map (λ b. 8 * (b / 8) + (7 - b % 8)) (range_with_len 0 16)
seven_are = refl

pub seven_at : (b : ℕ) → b < 16 → bit_xor b 7 ≡ 8 * (b / 8) + (7 - b % 8)
seven_at b h =
    sym (get_or-map-range_with_len (λ b. bit_xor b 7) 0 16 b b 0 h (omega arith)) ∙ ap (λ xs. get_or xs b 0) seven_are
    ∙ get_or-map-range_with_len (λ b. 8 * (b / 8) + (7 - b % 8)) 0 16 b b 0 h (omega arith)

half_octet : (v first second b : ℕ) → first ≡ v / 2 ^ 64 → second ≡ v % 2 ^ 64 → b < 16 → (w : ℕ)
    → (b / 8 ≡ 0 → w ≡ first) → (b / 8 ≡ 1 → w ≡ second)
    → w / 256 ^ (7 - b % 8) % 256 ≡ octet_from_left v b
half_octet v first second b ef es h w a z =
    below_sixteen (λ b. (b / 8 ≡ 0 → w ≡ first) → (b / 8 ≡ 1 → w ≡ second)
    → w / 256 ^ (7 - b % 8) % 256 ≡ octet_from_left v b)
    (λ a z. omega (arith, ef, es, a refl))
    (λ a z. omega (arith, ef, es, a refl))
    (λ a z. omega (arith, ef, es, a refl))
    (λ a z. omega (arith, ef, es, a refl))
    (λ a z. omega (arith, ef, es, a refl))
    (λ a z. omega (arith, ef, es, a refl))
    (λ a z. omega (arith, ef, es, a refl))
    (λ a z. omega (arith, ef, es, a refl))
    (λ a z. omega (arith, ef, es, z refl))
    (λ a z. omega (arith, ef, es, z refl))
    (λ a z. omega (arith, ef, es, z refl))
    (λ a z. omega (arith, ef, es, z refl))
    (λ a z. omega (arith, ef, es, z refl))
    (λ a z. omega (arith, ef, es, z refl))
    (λ a z. omega (arith, ef, es, z refl))
    (λ a z. omega (arith, ef, es, z refl))
    b h a z

pub octet_of_halves : (sixteens : ℕ) (words : List ℕ) (g b v : ℕ) → length words ≡ 2 * sixteens
    → Each1 (λ x. x < 18446744073709551616) words → g < sixteens → b < 16
    → get_or words (2 * g) 0 ≡ v / 2 ^ 64 → get_or words (2 * g + 1) 0 ≡ v % 2 ^ 64
    → octets_in (digits_l 256 (16 * sixteens) (number_l 18446744073709551616 words)) g (bit_xor b 7)
    ≡ octet_from_left v b
octet_of_halves sixteens words g b v len fit h k ef es =
    let i : ℕ = 2 * g + b / 8 in
    let place : 16 * g + bit_xor b 7 ≡ 8 * i + (7 - b % 8) = omega (arith, seven_at b k) in
    ap (λ (m : ℕ). get_or (digits_l 256 (16 * sixteens) (number_l 18446744073709551616 words)) m 0) place
    ∙ get_or_narrower 18446744073709551616 8 256 (16 * sixteens) words i (7 - b % 8) refl fit (omega arith)
    (omega arith)
    ∙ half_octet v (get_or words (2 * g) 0) (get_or words (2 * g + 1) 0) b ef es k (get_or words i 0)
    (λ e. ap (λ (m : ℕ). get_or words m 0) (omega (arith, e)))
    (λ e. ap (λ (m : ℕ). get_or words m 0) (omega (arith, e)))

-- ---- octets that are chosen

-- 128 where a bit is clear
unfoldable pub nowhere : ℕ → ℕ
nowhere zero = 128
nowhere (suc d) = 0

nowhere_are : map (λ m. get_or (get_or NOWHERE (m / 32) []) (m % 32) 0) (range_with_len 0 128)
    ≡ map (λ m. nowhere (bit_at (m % 32 % 16) (3 - m / 32))) (range_with_len 0 128)
unfolding nowhere
nowhere_are = refl

nowhere_at : (k g n : ℕ) → k < 4 → g < 2 → n < 16
    → get_or (get_or NOWHERE k []) (16 * g + n) 0 ≡ nowhere (bit_at n (3 - k))
nowhere_at k g n h l m =
    let i : ℕ = 32 * k + (16 * g + n) in
    let q : i / 32 ≡ k = omega arith in
    let r : i % 32 ≡ 16 * g + n = omega arith in
    let s : i % 32 % 16 ≡ n = omega arith in
    sym (ap₂ (λ (a b : ℕ). get_or (get_or NOWHERE a []) b 0) q r)
    ∙ sym (get_or-map-range_with_len (λ m. get_or (get_or NOWHERE (m / 32) []) (m % 32) 0) 0 128 i i 0 (omega arith)
    (omega arith)) ∙ ap (λ xs. get_or xs i 0) nowhere_are
    ∙ get_or-map-range_with_len (λ m. nowhere (bit_at (m % 32 % 16) (3 - m / 32))) 0 128 i i 0 (omega arith)
    (omega arith)
    ∙ ap₂ (λ (a b : ℕ). nowhere (bit_at a (3 - b))) s q

nowhere_long : (k : ℕ) → k < 4 → length (get_or NOWHERE k []) ≡ 32
nowhere_long zero h = refl
nowhere_long (suc zero) h = refl
nowhere_long (suc (suc zero)) h = refl
nowhere_long (suc (suc (suc zero))) h = refl
nowhere_long (suc (suc (suc (suc k)))) h = absurd (omega arith)

-- where a shuffle looks
abbrev pub places_of : ℕ → ℕ → ℕ → List ℕ
places_of n place k = zip2 bit_or (replicate (16 * n) place) (take (16 * n) (get_or NOWHERE k []))

places_long : (n place k : ℕ) → n ≤ 2 → k < 4 → length (places_of n place k) ≡ 16 * n
places_long n place k le h =
    let rows : length (get_or NOWHERE k []) ≡ 32 = nowhere_long k h in
    let width : length (take (16 * n) (get_or NOWHERE k [])) ≡ 16 * n =
    length-take-le (16 * n) (get_or NOWHERE k []) (omega arith) in
    length-zip2 bit_or (replicate (16 * n) place) (take (16 * n) (get_or NOWHERE k []))
    (length-replicate (16 * n) place ∙ sym width) ∙ length-replicate (16 * n) place

place_at : (n place k g i : ℕ) → n ≤ 2 → k < 4 → g < n → i < 16
    → get_or (places_of n place k) (16 * g + i) 0 ≡ bit_or place (nowhere (bit_at i (3 - k)))
place_at n place k g i le h l m =
    let at : ℕ = 16 * g + i in
    let rows : length (get_or NOWHERE k []) ≡ 32 = nowhere_long k h in
    let width : length (take (16 * n) (get_or NOWHERE k [])) ≡ 16 * n =
    length-take-le (16 * n) (get_or NOWHERE k []) (omega arith) in
    get_or-zip2 bit_or (replicate (16 * n) place) (take (16 * n) (get_or NOWHERE k []))
    at 0 0 0 (omega (arith, length-replicate {A = ℕ} (16 * n) place)) (omega arith)
    ∙ ap₂ bit_or (get_or-replicate (16 * n) at place 0 (omega arith))
    (get_or-take (16 * n) (get_or NOWHERE k []) at 0 (omega arith) ∙ nowhere_at k g i h (omega arith) m)

-- it looks at a place or at none
place_or_none : (place d : ℕ) → place < 16 → d < 2
    → T (zeroes 16 w8 (bit_or place (nowhere d)) || ltb (bit_or place (nowhere d)) 16)
unfolding nowhere
place_or_none place zero h l = below_sixteen (λ p. T (zeroes 16 w8 (bit_or p 128) || ltb (bit_or p 128) 16)) tt tt tt tt
    tt tt tt tt tt tt tt tt tt tt tt tt place h
place_or_none place (suc zero) h l = below_sixteen (λ p. T (zeroes 16 w8 (bit_or p 0) || ltb (bit_or p 0) 16)) tt tt tt
    tt tt tt tt tt tt tt tt tt tt tt tt tt place h
place_or_none place (suc (suc d)) h l = absurd (omega arith)

pub places_fit : (sixteens octets place k : ℕ) → octets ≡ sixteens * 16 → sixteens ≤ 2 → place < 16 → k < 4
    → SwzOk w8 16 octets 0 (places_of sixteens place k)
places_fit sixteens octets place k e le h l =
    let js : List ℕ = places_of sixteens place k in
    let long : length js ≡ 16 * sixteens = places_long sixteens place k le l in
    SwzOk-from_Each1 w8 16 sixteens octets 0 js e (omega arith)
    (Each1-from_get_or (λ j. T (zeroes 16 w8 j || ltb j 16)) js 0
    (λ m below.
    let whole : 16 * (m / 16) + m % 16 ≡ m = omega arith in
    let is : get_or js m 0 ≡ bit_or place (nowhere (bit_at (m % 16) (3 - k))) =
    ap (λ (a : ℕ). get_or js a 0) (sym whole)
    ∙ place_at sixteens place k (m / 16) (m % 16) le l (omega arith) (omega arith) in
    subst (λ (v : ℕ). T (zeroes 16 w8 v || ltb v 16)) (sym is)
    (place_or_none place (bit_at (m % 16) (3 - k)) h (bit_at-lt (m % 16) (3 - k)))))

-- what it finds there
found_or_none : (v place d : ℕ) → place < 16 → d < 2 → cond (zeroes 16 w8 (bit_or place (nowhere d))) 0 v ≡ d * v
unfolding nowhere
found_or_none v place zero h l = below_sixteen (λ p. cond (zeroes 16 w8 (bit_or p 128)) 0 v ≡ 0) refl refl refl refl
    refl refl refl refl refl refl refl refl refl refl refl refl place h ∙ sym (zero-mul v)
found_or_none v place (suc zero) h l = below_sixteen (λ p. cond (zeroes 16 w8 (bit_or p 0)) 0 v ≡ v) refl refl refl refl
    refl refl refl refl refl refl refl refl refl refl refl refl place h ∙ sym (one-mul v)
found_or_none v place (suc (suc d)) h l = absurd (omega arith)

place_itself : (place d : ℕ) → d < 2 → (v : ℕ → ℕ) → d * v (bit_or place (nowhere d)) ≡ d * v place
unfolding nowhere
place_itself place zero h v = zero-mul (v (bit_or place 128)) ∙ sym (zero-mul (v place))
place_itself place (suc zero) h v = ap (λ (p : ℕ). 1 * v p) (or_zero_r place)
place_itself place (suc (suc d)) h v = absurd (omega arith)

pub chosen_at : (n : ℕ) (x : List ℕ) (place k g i : ℕ) → n ≤ 2 → place < 16 → k < 4 → g < n → i < 16
    → octets_in (swz_l w8 16 x 0 (places_of n place k)) g i ≡ bit_at i (3 - k) * octets_in x g place
chosen_at n x place k g i le h l m o =
    let at : ℕ = 16 * g + i in
    let d : ℕ = bit_at i (3 - k) in
    let js : List ℕ = places_of n place k in
    let long : length js ≡ 16 * n = places_long n place k le l in
    let here : (0 + at) / 16 ≡ g = omega arith in
    let there : get_or js at 0 ≡ bit_or place (nowhere d) = place_at n place k g i le l m o in
    get_or-swz_l w8 16 x 0 js at (omega arith)
    ∙ ap₂ (λ (q p : ℕ). cond (zeroes 16 w8 p) 0 (get_or x (16 * q + p) 0)) here there
    ∙ found_or_none (get_or x (16 * g + bit_or place (nowhere d)) 0) place d h (bit_at-lt i (3 - k))
    ∙ place_itself place d (bit_at-lt i (3 - k)) (λ p. get_or x (16 * g + p) 0)

-- the powers of x of a block, one after another
pub powers_on : (xs second third fourth : List ℕ) (l : ℕ) → get_or second l 0 ≡ times_x (get_or xs l 0)
    → get_or third l 0 ≡ times_x (get_or second l 0)
    → get_or fourth l 0 ≡ times_x (get_or third l 0)
    → (get_or xs l 0 ≡ times_power 0 (get_or xs l 0)) × ((get_or second l 0 ≡ times_power 1 (get_or xs l 0))
    × ((get_or third l 0 ≡ times_power 2 (get_or xs l 0)) × (get_or fourth l 0 ≡ times_power 3 (get_or xs l 0))))
unfolding times_power
powers_on xs second third fourth l e f g = (refl, (e, (f ∙ ap times_x e, g ∙ ap times_x (f ∙ ap times_x e))))

zeros_at : (n m : ℕ) → get_or {A = ℕ} (replicate n 0) m 0 ≡ 0
zeros_at zero m = refl
zeros_at (suc n) zero = refl
zeros_at (suc n) (suc m) = zeros_at n m

-- one number, and zeros after it
pub first_alone : (n x g : ℕ) → 0 < g → get_or (set (replicate n 0) 0 x) g 0 ≡ 0
first_alone n x g some = get_or-set_other (replicate n 0) 0 g x 0 (omega arith) ∙ zeros_at n g
