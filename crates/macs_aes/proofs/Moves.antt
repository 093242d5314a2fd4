-- Bit moves inside each lane: shifts, masks and xors, and the places that each bit comes from.
use Rattle.std.proofs.Common.{◌≡◌, ℕ, zero, suc, ◌+◌, ◌-◌, ◌*◌, ◌/◌, ◌%◌, ◌^◌, ◌<◌, ◌≤◌, List, [], ◌∷◌, ◌++◌, map}
use Rattle.std.proofs.Common.{get_or, length, replicate, bit_xor, bit_and, cond, refl, ap, ap₂, sym, ◌∙◌, arith}
use Rattle.std.proofs.Common.{add-zero, inl, inr, Bool, true, false}
use Rattle.std.specs.Simd.Lanes.{zip2}
use Rattle.std.specs.Int.{bit_at}
use Rattle.std.specs.List.{range_with_len}
use Rattle.std.specs.Prelude.{◌&&◌, nat_eq}
use Rattle.std.proofs.lemmas.Bool.{and_parts, cases_lt, eqb-true}
use Rattle.std.proofs.lemmas.Nat.{div-add-mod', pow_pos, shr-shr, xor_comm}
use Rattle.std.proofs.lemmas.Nat.Bits.{bit_at-lt, bit_at-zero, bit_at_above, bit_at_cat_high, bit_at_cat_low}
use Rattle.std.proofs.lemmas.List.FromFn.{get_or-map-range_with_len}
use Rattle.std.proofs.lemmas.List.{length-replicate}
use Rattle.std.proofs.lemmas.Simd.{get_or-replicate, get_or-zip2, length-zip2}
use native.Mathlib.Nat.{add_comm}
use lib.Bits.{xor_assoc, xor_self, xor_zero_l, xor_zero_r}
use Rattle.macs_aes.specs.Blocks.{ArePlanes, bit_in, zeros}
use Rattle.macs_aes.proofs.Circuit.{bit_in-and, bit_in-xor, lanes_of}

-- a bit of one of several vectors, by its lane's place
pub data Place : Type 0 where
  At : ℕ → ℕ → Place

pub data Move : Type 0 where
  From : ℕ → Move
  Down : ℕ → Move → Move
  Up : ℕ → Move → Move
  Mask : ℕ → Move → Move
  Plus : Move → Move → Move

unfoldable pub moved : ℕ → Move → List (List ℕ) → List ℕ
moved lanes (From n) x = get_or x n (zeros lanes)
moved lanes (Down k m) x = zip2 (λ a b. a / 2 ^ b) (moved lanes m x) (replicate lanes k)
moved lanes (Up k m) x = zip2 (λ a b. a * 2 ^ b % 65536) (moved lanes m x) (replicate lanes k)
moved lanes (Mask n m) x = zip2 bit_and (moved lanes m x) (replicate lanes n)
moved lanes (Plus a b) x = zip2 bit_xor (moved lanes a x) (moved lanes b x)

-- what a bit d of a mask leaves
unfoldable pub kept : ℕ → List Place → List Place
kept zero s = []
kept (suc d) s = s

-- where j is in a lane and at k at least
unfoldable pub risen : ℕ → ℕ → List Place → List Place
risen j k s = kept (1 - (k - j)) (kept (16 - j) s)

-- the places whose bits make up bit j
unfoldable pub sources : Move → ℕ → List Place
sources (From n) j = At n j ∷ []
sources (Down k m) j = sources m (j + k)
sources (Up k m) j = risen j k (sources m (j - k))
sources (Mask n m) j = kept (bit_at n j) (sources m j)
sources (Plus a b) j = sources a j ++ sources b j

unfoldable pub sum_of : (Place → ℕ) → List Place → ℕ
sum_of f [] = 0
sum_of f (k ∷ ks) = bit_xor (f k) (sum_of f ks)

sum_of-append : (f : Place → ℕ) (s t : List Place) → sum_of f (s ++ t) ≡ bit_xor (sum_of f s) (sum_of f t)
unfolding sum_of
sum_of-append f [] t = refl
sum_of-append f (k ∷ s) t = ap (bit_xor (f k)) (sum_of-append f s t) ∙ sym (xor_assoc (f k) (sum_of f s) (sum_of f t))

and_kept : (f : Place → ℕ) (y d : ℕ) (s : List Place) → y < 2 → d < 2 → y ≡ sum_of f s
    → bit_and y d ≡ sum_of f (kept d s)
unfolding kept sum_of
and_kept f zero zero s h k e = refl
and_kept f (suc zero) zero s h k e = refl
and_kept f zero (suc zero) s h k e = e
and_kept f (suc zero) (suc zero) s h k e = e
and_kept f (suc (suc y)) d s h k e = absurd (omega arith)
and_kept f zero (suc (suc d)) s h k e = absurd (omega arith)
and_kept f (suc zero) (suc (suc d)) s h k e = absurd (omega arith)

shl_bit_low : (a k j : ℕ) → j < k → bit_at (a * 2 ^ k) j ≡ 0
shl_bit_low a k j h = simp add-zero at (bit_at_cat_low a k 0 j h) ∙ bit_at-zero j

shl_bit : (a k j : ℕ) → k ≤ j → bit_at (a * 2 ^ k) j ≡ bit_at a (j - k)
shl_bit a k j h = simp add-zero at (bit_at_cat_high a k 0 j (pow_pos k) h)

mod_bit : (n j : ℕ) → j < 16 → bit_at (n % 65536) j ≡ bit_at n j
mod_bit n j h = sym (bit_at_cat_low (n / 65536) 16 (n % 65536) j h) ∙ ap (λ (m : ℕ). bit_at m j) (div-add-mod' n 65536)

mod_bit_above : (n j : ℕ) → 16 ≤ j → bit_at (n % 65536) j ≡ 0
mod_bit_above n j h = bit_at_above (n % 65536) 16 j (omega arith) h

pub shr_bit : (a k j : ℕ) → bit_at (a / 2 ^ k) j ≡ bit_at a (j + k)
shr_bit a k j = ap (λ (n : ℕ). n % 2) (shr-shr a k j ∙ ap (λ (e : ℕ). a / 2 ^ e) (add_comm k j))

kept_none : (f : Place → ℕ) (d : ℕ) → sum_of f (kept d []) ≡ 0
unfolding kept sum_of
kept_none f zero = refl
kept_none f (suc d) = refl

risen_bit : (f : Place → ℕ) (a k j : ℕ) (s : List Place) → bit_at a (j - k) ≡ sum_of f s
    → bit_at (a * 2 ^ k % 65536) j ≡ sum_of f (risen j k s)
unfolding risen kept sum_of
risen_bit f a k j s e = elim (cases_lt j 16) [
  | inr above ↦
      let none : 16 - j ≡ 0 = omega arith in
      rw none (mod_bit_above (a * 2 ^ k) j above ∙ sym (kept_none f (1 - (k - j))))
  | inl low ↦ mod_bit (a * 2 ^ k) j low ∙ elim (cases_lt j k) [
    | inl under ↦
        let none : 1 - (k - j) ≡ 0 = omega arith in
        rw none (shl_bit_low a k j under)
    | inr over ↦
        let some : 1 - (k - j) ≡ 1 = omega arith in
        let more : 16 - j ≡ suc (15 - j) = omega arith in
        rw (some, more) (shl_bit a k j over ∙ e)
  ]
]

pub moved_lanes : (lanes : ℕ) (m : Move) (x : List (List ℕ)) → ArePlanes lanes x → length (moved lanes m x) ≡ lanes
unfolding moved
moved_lanes lanes (From n) x h = lanes_of lanes x n h
moved_lanes lanes (Down k m) x h = length-zip2 (λ (a b : ℕ). a / 2 ^ b) (moved lanes m x) (replicate lanes k)
    (moved_lanes lanes m x h ∙ sym (length-replicate lanes k)) ∙ moved_lanes lanes m x h
moved_lanes lanes (Up k m) x h = length-zip2 (λ (a b : ℕ). a * 2 ^ b % 65536) (moved lanes m x) (replicate lanes k)
    (moved_lanes lanes m x h ∙ sym (length-replicate lanes k)) ∙ moved_lanes lanes m x h
moved_lanes lanes (Mask n m) x h = length-zip2 bit_and (moved lanes m x) (replicate lanes n)
    (moved_lanes lanes m x h ∙ sym (length-replicate lanes n)) ∙ moved_lanes lanes m x h
moved_lanes lanes (Plus a b) x h = length-zip2 bit_xor (moved lanes a x) (moved lanes b x)
    (moved_lanes lanes a x h ∙ sym (moved_lanes lanes b x h)) ∙ moved_lanes lanes a x h

pub splat_bit : (lanes : ℕ) (n i j : ℕ) → i < lanes → bit_in (replicate lanes n) i j ≡ bit_at n j
unfolding bit_in
splat_bit lanes n i j h = ap (λ (v : ℕ). bit_at v j) (get_or-replicate lanes i n 0 h)

shifted_lane : (lanes : ℕ) (f : ℕ → ℕ → ℕ) (xs : List ℕ) (k i : ℕ) → length xs ≡ lanes → i < lanes
    → get_or (zip2 f xs (replicate lanes k)) i 0 ≡ f (get_or xs i 0) k
shifted_lane lanes f xs k i len h =
    get_or-zip2 f xs (replicate lanes k) i 0 0 0 (omega arith) (omega (arith, length-replicate {A = ℕ} lanes k))
    ∙ ap (f (get_or xs i 0)) (get_or-replicate lanes i k 0 h)

unfoldable pub bit_from : ℕ → List (List ℕ) → ℕ → Place → ℕ
bit_from lanes x i (At n j) = bit_in (get_or x n (zeros lanes)) i j

bit_once : (lanes : ℕ) (x : List (List ℕ)) (i n j : ℕ)
    → bit_in (get_or x n (zeros lanes)) i j ≡ sum_of (bit_from lanes x i) (At n j ∷ [])
unfolding sum_of bit_from
bit_once lanes x i n j = sym (xor_zero_r (bit_in (get_or x n (zeros lanes)) i j))

bit_in-lt : (x : List ℕ) (i j : ℕ) → bit_in x i j < 2
unfolding bit_in
bit_in-lt x i j = bit_at-lt (get_or x i 0) j

down_bit : (lanes : ℕ) (xs : List ℕ) (k i j : ℕ) → length xs ≡ lanes → i < lanes
    → bit_in (zip2 (λ (a b : ℕ). a / 2 ^ b) xs (replicate lanes k)) i j ≡ bit_in xs i (j + k)
unfolding bit_in
down_bit lanes xs k i j len h = ap (λ (v : ℕ). bit_at v j) (shifted_lane lanes (λ (a b : ℕ). a / 2 ^ b) xs k i len h)
    ∙ shr_bit (get_or xs i 0) k j

up_bit : (lanes : ℕ) (f : Place → ℕ) (xs : List ℕ) (k i j : ℕ) (s : List Place) → length xs ≡ lanes → i < lanes
    → bit_in xs i (j - k) ≡ sum_of f s
    → bit_in (zip2 (λ (a b : ℕ). a * 2 ^ b % 65536) xs (replicate lanes k)) i j ≡ sum_of f (risen j k s)
unfolding bit_in
up_bit lanes f xs k i j s len h e =
    ap (λ (v : ℕ). bit_at v j) (shifted_lane lanes (λ (a b : ℕ). a * 2 ^ b % 65536) xs k i len h)
    ∙ risen_bit f (get_or xs i 0) k j s e

pub moved_bit : (lanes : ℕ) (m : Move) (x : List (List ℕ)) (i j : ℕ) → ArePlanes lanes x → i < lanes
    → bit_in (moved lanes m x) i j ≡ sum_of (bit_from lanes x i) (sources m j)
unfolding moved sources
moved_bit lanes (From n) x i j len h = bit_once lanes x i n j
moved_bit lanes (Down k m) x i j len h = down_bit lanes (moved lanes m x) k i j (moved_lanes lanes m x len) h
    ∙ moved_bit lanes m x i (j + k) len h
moved_bit lanes (Up k m) x i j len h = up_bit lanes (bit_from lanes x i) (moved lanes m x) k i j (sources m (j - k))
    (moved_lanes lanes m x len) h (moved_bit lanes m x i (j - k) len h)
moved_bit lanes (Mask n m) x i j len h =
    bit_in-and lanes (moved lanes m x) (replicate lanes n) i j (moved_lanes lanes m x len) (length-replicate lanes n) h
    ∙ ap (bit_and (bit_in (moved lanes m x) i j)) (splat_bit lanes n i j h)
    ∙ and_kept (bit_from lanes x i) (bit_in (moved lanes m x) i j) (bit_at n j) (sources m j)
    (bit_in-lt (moved lanes m x) i j) (bit_at-lt n j) (moved_bit lanes m x i j len h)
moved_bit lanes (Plus a b) x i j len h =
    bit_in-xor lanes (moved lanes a x) (moved lanes b x) i j (moved_lanes lanes a x len) (moved_lanes lanes b x len) h
    ∙ ap₂ bit_xor (moved_bit lanes a x i j len h) (moved_bit lanes b x i j len h)
    ∙ sym (sum_of-append (bit_from lanes x i) (sources a j) (sources b j))

-- ---- a place twice gives nothing

unfoldable pub is_same : Place → Place → Bool
is_same (At n j) (At m k) = nat_eq n m && nat_eq j k

is_same-true : (p q : Place) → is_same p q ≡ true → p ≡ q
unfolding is_same
is_same-true (At n j) (At m k) e =
    ap₂ (λ (a b : ℕ). At a b) (eqb-true n m (and_parts _ _ e).0) (eqb-true j k (and_parts _ _ e).1)

-- one more place, or one less where it is among them
unfoldable pub toggled : Place → List Place → List Place
toggled p [] = p ∷ []
toggled p (q ∷ s) = cond (is_same p q) s (q ∷ toggled p s)

unfoldable pub lone : List Place → List Place
lone [] = []
lone (p ∷ s) = toggled p (lone s)

xor_turned : (x y z : ℕ) → bit_xor y (bit_xor x z) ≡ bit_xor x (bit_xor y z)
xor_turned x y z = sym (xor_assoc y x z) ∙ ap (λ (v : ℕ). bit_xor v z) (xor_comm y x) ∙ xor_assoc x y z

toggled_by : (f : Place → ℕ) (p q : Place) (s t : List Place) (b : Bool) → is_same p q ≡ b
    → sum_of f t ≡ bit_xor (f p) (sum_of f s)
    → sum_of f (cond b s (q ∷ t)) ≡ bit_xor (f p) (sum_of f (q ∷ s))
unfolding sum_of
toggled_by f p q s t true e h =
    sym (ap (λ (v : ℕ). bit_xor (f p) (bit_xor v (sum_of f s))) (sym (ap f (is_same-true p q e)))
    ∙ sym (xor_assoc (f p) (f p) (sum_of f s)) ∙ ap (λ (v : ℕ). bit_xor v (sum_of f s)) (xor_self (f p))
    ∙ xor_zero_l (sum_of f s))
toggled_by f p q s t false e h = ap (bit_xor (f q)) h ∙ xor_turned (f p) (f q) (sum_of f s)

sum_of-toggled : (f : Place → ℕ) (p : Place) (s : List Place) → sum_of f (toggled p s) ≡ bit_xor (f p) (sum_of f s)
unfolding sum_of toggled
sum_of-toggled f p [] = refl
sum_of-toggled f p (q ∷ s) = toggled_by f p q s (toggled p s) (is_same p q) refl (sum_of-toggled f p s)

sum_of-lone : (f : Place → ℕ) (s : List Place) → sum_of f (lone s) ≡ sum_of f s
unfolding sum_of lone
sum_of-lone f [] = refl
sum_of-lone f (p ∷ s) = sum_of-toggled f p (lone s) ∙ ap (bit_xor (f p)) (sum_of-lone f s)

-- ---- where each bit comes from one place
unfoldable pub from_places : Move → List (List Place)
from_places m = map (λ j. lone (sources m j)) (range_with_len 0 16)

unfoldable pub places : (ℕ → ℕ) → (ℕ → ℕ) → List (List Place)
places g f = map (λ j. At (g j) (f j) ∷ []) (range_with_len 0 16)

-- bit j is the bit f j of the vector g j
pub moved_from : (lanes : ℕ) (m : Move) (g f : ℕ → ℕ) (x : List (List ℕ)) (i j : ℕ) → from_places m ≡ places g f
    → ArePlanes lanes x → i < lanes → j < 16
    → bit_in (moved lanes m x) i j ≡ bit_in (get_or x (g j) (zeros lanes)) i (f j)
unfolding from_places places sum_of bit_from
moved_from lanes m g f x i j e len h k =
    let here : lone (sources m j) ≡ At (g j) (f j) ∷ [] =
    sym (get_or-map-range_with_len (λ n. lone (sources m n)) 0 16 j j [] k (omega arith)) ∙ ap (λ t. get_or t j []) e
    ∙ get_or-map-range_with_len (λ n. At (g n) (f n) ∷ []) 0 16 j j [] k (omega arith) in
    moved_bit lanes m x i j len h ∙ sym (sum_of-lone (bit_from lanes x i) (sources m j))
    ∙ ap (sum_of (bit_from lanes x i)) here ∙ xor_zero_r (bit_in (get_or x (g j) (zeros lanes)) i (f j))
