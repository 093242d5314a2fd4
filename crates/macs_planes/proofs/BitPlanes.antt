-- Planes of octets made by tests of bits.
use Rattle.std.proofs.Common.{◌≡◌, ℕ, zero, suc, ◌+◌, ◌-◌, ◌*◌, ◌/◌, ◌%◌, ◌^◌, ◌<◌, ◌∙◌, List, [], ◌∷◌, get_or, length}
use Rattle.std.proofs.Common.{map, replicate, bit_and, Bool, true, false, cond, ap, ap₂, sym, refl, arith, w8}
use Rattle.std.specs.Prelude.{◌==◌}
use Rattle.std.specs.Int.{bit_at}
use Rattle.std.specs.Simd.Lanes.{digits_l, number_l, sel_l, top, zip2}
use Rattle.std.proofs.lemmas.Nat.Bits.{bit_at_ones}
use Rattle.std.proofs.lemmas.Simd.{Each1-from_get_or, get_or-replicate, get_or-sel_l, get_or-zip2, length-replicate}
use Rattle.std.proofs.lemmas.Simd.{length-sel_l, length-zip2, tops_compared}
use Rattle.macs_planes.specs.Across.{octet_of_words}
use Rattle.macs_aes.specs.Bits.{tested}
use Rattle.macs_aes.specs.Blocks.{bit_in, octet_basis, octet_in}
use Rattle.macs_planes.proofs.AcrossLanes.{bit_by_octet}
use Rattle.macs_aes.proofs.BitTests.{tested_octet}
use Rattle.macs_planes.proofs.Octets.{octet_of_wider, octets_small}

tests : ℕ → List ℕ → ℕ → List Bool
tests n xs mask = zip2 (λ (a b : ℕ). a == b) (zip2 bit_and xs (replicate n mask)) (replicate n mask)

ones_of : ℕ → List ℕ → ℕ → List ℕ
ones_of n xs mask =
    sel_l (map (top 7) (zip2 (λ (a b : ℕ). cond (a == b) (2 ^ 8 - 1) 0) (zip2 bit_and xs (replicate n mask))
    (replicate n mask))) (replicate n 255) (replicate n 0)

ones_of-is : (n : ℕ) (xs : List ℕ) (mask : ℕ)
    → ones_of n xs mask ≡ sel_l (tests n xs mask) (replicate n 255) (replicate n 0)
unfolding ones_of tests
ones_of-is n xs mask = ap (λ t. sel_l t (replicate n 255) (replicate n 0))
    (tops_compared w8 (λ (a b : ℕ). a == b) (zip2 bit_and xs (replicate n mask)) (replicate n mask))

masked_long : (n : ℕ) (xs : List ℕ) (mask : ℕ) → length xs ≡ n → length (zip2 bit_and xs (replicate n mask)) ≡ n
masked_long n xs mask h = length-zip2 bit_and xs (replicate n mask) (h ∙ sym (length-replicate n mask)) ∙ h

tests_long : (n : ℕ) (xs : List ℕ) (mask : ℕ) → length xs ≡ n → length (tests n xs mask) ≡ n
unfolding tests
tests_long n xs mask h =
    let size = masked_long n xs mask h in
    length-zip2 (λ (a b : ℕ). a == b) (zip2 bit_and xs (replicate n mask)) (replicate n mask)
    (size ∙ sym (length-replicate n mask)) ∙ size

test_at : (n : ℕ) (xs : List ℕ) (mask l : ℕ) → length xs ≡ n → l < n
    → get_or (tests n xs mask) l false ≡ (bit_and (get_or xs l 0) mask == mask)
unfolding tests
test_at n xs mask l h k =
    let size = masked_long n xs mask h in
    let long = length-replicate {A = ℕ} n mask in
    get_or-zip2 (λ (a b : ℕ). a == b) (zip2 bit_and xs (replicate n mask)) (replicate n mask) l 0 0 false
    (omega (arith, size)) (omega (arith, long))
    ∙ ap₂ (λ (a b : ℕ). a == b)
    (get_or-zip2 bit_and xs (replicate n mask) l 0 0 0 (omega (arith, h)) (omega (arith, long))
    ∙ ap (bit_and (get_or xs l 0)) (get_or-replicate n l mask 0 k))
    (get_or-replicate n l mask 0 k)

choice : (b : Bool) → cond b 255 0 ≡ cond b 1 0 * 255
choice true = refl
choice false = refl

ones_at : (n : ℕ) (xs : List ℕ) (mask l : ℕ) → length xs ≡ n → l < n
    → get_or (ones_of n xs mask) l 0 ≡ tested mask (get_or xs l 0) * 255
ones_at n xs mask l h k =
    let size = tests_long n xs mask h in
    let ones : List ℕ = replicate n 255 in
    let zeros : List ℕ = replicate n 0 in
    let long_ones : length ones ≡ n = length-replicate n 255 in
    let long_zeros : length zeros ≡ n = length-replicate n 0 in
    ap (λ v. get_or v l 0) (ones_of-is n xs mask)
    ∙ get_or-sel_l (tests n xs mask) ones zeros l 0 (omega (arith, size)) (omega (arith, long_ones))
    (omega (arith, long_zeros))
    ∙ ap₂ (λ (a b : ℕ). cond (get_or (tests n xs mask) l false) a b) (get_or-replicate n l 255 0 k)
    (get_or-replicate n l 0 0 k)
    ∙ ap (λ b. cond b 255 0) (test_at n xs mask l h k)
    ∙ choice (bit_and (get_or xs l 0) mask == mask)

ones_long : (n : ℕ) (xs : List ℕ) (mask : ℕ) → length xs ≡ n → length (ones_of n xs mask) ≡ n
ones_long n xs mask h =
    let size = tests_long n xs mask h in
    ap length (ones_of-is n xs mask)
    ∙ length-sel_l (tests n xs mask) (replicate n 255) (replicate n 0) (size ∙ sym (length-replicate n 255))
    (size ∙ sym (length-replicate n 0)) ∙ size

choice_small : (b : Bool) → cond b 1 0 * 255 < 256
choice_small true = omega arith
choice_small false = omega arith

pub plane_octet : (lanes : ℕ) (xs : List ℕ) (mask m : ℕ) → length xs ≡ 2 * lanes → m < 2 * lanes
    → octet_of_words (digits_l 65536 lanes (number_l 256 (sel_l (map (top 7) (zip2 (λ (a b : ℕ).
    cond (a == b) (2 ^ 8 - 1) 0) (zip2 bit_and xs (replicate (2 * lanes) mask)) (replicate (2 * lanes) mask)))
    (replicate (2 * lanes) 255) (replicate (2 * lanes) 0)))) m ≡ tested mask (get_or xs m 0) * 255
unfolding ones_of
plane_octet lanes xs mask m len h =
    let n : ℕ = 2 * lanes in
    let ones : List ℕ = ones_of n xs mask in
    let is : (k : ℕ) → k < n → get_or ones k 0 ≡ tested mask (get_or xs k 0) * 255 = λ k l. ones_at n xs mask k len l in
    let each : (k : ℕ) → get_or ones k 0 < 256 =
    octets_small (λ k. tested mask (get_or xs k 0) * 255) ones n (ones_long n xs mask len) is
    (λ k l. choice_small (bit_and (get_or xs k 0) mask == mask)) in
    octet_of_wider lanes ones m (ones_long n xs mask len) (Each1-from_get_or (λ v. v < 256) ones 0 (λ k l. each k)) h
    each ∙ is m h

-- a bit of ones, or of zeros
ones_bit : (b : Bool) (n : ℕ) → n < 8 → bit_at (cond b 1 0 * 255) n ≡ cond b 1 0
ones_bit true n h = bit_at_ones 8 n h
ones_bit false zero h = refl
ones_bit false (suc zero) h = refl
ones_bit false (suc (suc zero)) h = refl
ones_bit false (suc (suc (suc zero))) h = refl
ones_bit false (suc (suc (suc (suc zero)))) h = refl
ones_bit false (suc (suc (suc (suc (suc zero))))) h = refl
ones_bit false (suc (suc (suc (suc (suc (suc zero)))))) h = refl
ones_bit false (suc (suc (suc (suc (suc (suc (suc zero))))))) h = refl
ones_bit false (suc (suc (suc (suc (suc (suc (suc (suc n)))))))) h = absurd (omega arith)

bit_is : (p : List ℕ) (mask x m n : ℕ) → n < 8 → octet_of_words p m ≡ tested mask x * 255
    → bit_in p (m / 2) (8 * (m % 2) + n) ≡ tested mask x
bit_is p mask x m n h e = sym (bit_by_octet p m n h) ∙ ap (λ (v : ℕ). bit_at v n) e
    ∙ ones_bit (bit_and x mask == mask) n h

-- an octet from eight planes of tests
pub octet_of_planes : (p0 p1 p2 p3 p4 p5 p6 p7 : List ℕ) (x m n : ℕ) → x < 256 → n < 8
    → octet_of_words p0 m ≡ tested 1 x * 255 → octet_of_words p1 m ≡ tested 2 x * 255
    → octet_of_words p2 m ≡ tested 4 x * 255 → octet_of_words p3 m ≡ tested 8 x * 255
    → octet_of_words p4 m ≡ tested 16 x * 255 → octet_of_words p5 m ≡ tested 32 x * 255
    → octet_of_words p6 m ≡ tested 64 x * 255 → octet_of_words p7 m ≡ tested 128 x * 255
    → octet_in octet_basis (p0 ∷ p1 ∷ p2 ∷ p3 ∷ p4 ∷ p5 ∷ p6 ∷ p7 ∷ []) (m / 2) (8 * (m % 2) + n) ≡ x
octet_of_planes p0 p1 p2 p3 p4 p5 p6 p7 x m n small h e0 e1 e2 e3 e4 e5 e6 e7 =
    tested_octet _ _ _ _ _ _ _ _ x small (bit_is p0 1 x m n h e0) (bit_is p1 2 x m n h e1) (bit_is p2 4 x m n h e2)
    (bit_is p3 8 x m n h e3)
    (bit_is p4 16 x m n h e4) (bit_is p5 32 x m n h e5) (bit_is p6 64 x m n h e6) (bit_is p7 128 x m n h e7)
