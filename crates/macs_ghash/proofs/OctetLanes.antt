-- Octets of vectors.
use Rattle.std.proofs.Common.{◌≡◌, ℕ, zero, suc, ◌+◌, ◌-◌, ◌*◌, ◌/◌, ◌%◌, ◌^◌, ◌<◌, ◌≤◌, ◌∙◌, List, [], ◌∷◌, map}
use Rattle.std.proofs.Common.{get_or, get_or-take, length, length-take-le, replicate, take, bit_and, bit_or, bit_xor}
use Rattle.std.proofs.Common.{cond, ap, ap₂, sym, subst, refl, arith, w8}
use Rattle.std.specs.Int.{from_be_bytes, w128}
use Rattle.std.specs.List.{range_with_len}
use Rattle.std.specs.Simd.Lanes.{zip2}
use Rattle.std.proofs.lemmas.List.FromFn.{fill_by_all, get_or-map-range_with_len}
use Rattle.std.proofs.lemmas.Nat.{and_mask}
use Rattle.std.proofs.lemmas.Simd.{Each1-from_get_or, SwzOk, SwzOk-from_below, get_or-replicate, get_or-swz_l}
use Rattle.std.proofs.lemmas.Simd.{get_or-swz_l_below, get_or-zip2, length-replicate, swz_l}
use mir.Val.{zeroes}
use lib.Bits.{or_zero_l, or_zero_r}
use Rattle.macs_gf.proofs.Sixteen.{below_sixteen}
use Rattle.macs_ghash.specs.Tables.{block_of_octets, octet_from_left, octets_in, pushed}
use Rattle.macs_ghash.proofs.OctetSteps.{block_equal}
use Rattle.macs_ghash.proofs.OctetSums.{octets_whole}
use Rattle.macs_ghash.specs.declared.octets.TheConstants.{BEFORE, LAST}
use Rattle.macs_ghash.specs.declared.strides.TheConstants.{FLIPPED}

-- an octet in its sixteen
pub by_sixteen : (x : List ℕ) (m : ℕ) → octets_in x (m / 16) (m % 16) ≡ get_or x m 0
by_sixteen x m =
    let whole : 16 * (m / 16) + m % 16 ≡ m = omega arith in
    ap (λ (k : ℕ). get_or x k 0) whole

pub lane_with : (n : ℕ) (f : ℕ → ℕ → ℕ) (x : List ℕ) (s m : ℕ) → length x ≡ n → m < n
    → get_or (zip2 f x (replicate n s)) m 0 ≡ f (get_or x m 0) s
lane_with n f x s m len h =
    get_or-zip2 f x (replicate n s) m 0 0 0 (omega arith) (omega (arith, length-replicate {A = ℕ} n s))
    ∙ ap (f (get_or x m 0)) (get_or-replicate n m s 0 h)

pub left_half : (n : ℕ) (x : List ℕ) (m : ℕ) → length x ≡ n → m < n
    → get_or (zip2 (λ (a b : ℕ). a / 2 ^ b) x (replicate n 4)) m 0 ≡ get_or x m 0 / 16
left_half n x m len h = lane_with n (λ (a b : ℕ). a / 2 ^ b) x 4 m len h

pub right_half : (n : ℕ) (x : List ℕ) (m : ℕ) → length x ≡ n → m < n
    → get_or (zip2 bit_and x (replicate n 15)) m 0 ≡ get_or x m 0 % 16
right_half n x m len h = lane_with n bit_and x 15 m len h ∙ and_mask (get_or x m 0) 4

raised_octet : (a : ℕ) → a * 2 ^ 4 % 256 ≡ a % 16 * 16
raised_octet a = omega arith

pub raised_half : (n : ℕ) (x : List ℕ) (m : ℕ) → length x ≡ n → m < n
    → get_or (zip2 (λ (a b : ℕ). a * 2 ^ b % 256) x (replicate n 4)) m 0 ≡ get_or x m 0 % 16 * 16
raised_half n x m len h = lane_with n (λ (a b : ℕ). a * 2 ^ b % 256) x 4 m len h ∙ raised_octet (get_or x m 0)

-- ---- shuffles

pub found_fit : (sixteens octets : ℕ) (at : List ℕ) → octets ≡ sixteens * 16 → length at ≡ octets
    → ((g j : ℕ) → g < sixteens → j < 16 → octets_in at g j < 16) → SwzOk w8 16 octets 0 at
found_fit sixteens octets at e len small =
    SwzOk-from_below w8 16 sixteens octets 0 at e (omega arith)
    (Each1-from_get_or (λ j. j < 16)
    at 0 (λ m h. subst (λ (v : ℕ). v < 16) (by_sixteen at m) (small (m / 16) (m % 16) (omega arith) (omega arith))))

pub found_at : (table at : List ℕ) (n g j : ℕ) → length at ≡ 16 * n → g < n → j < 16 → octets_in at g j < 16
    → octets_in (swz_l w8 16 table 0 at) g j ≡ octets_in table g (octets_in at g j)
found_at table at n g j len h k small =
    let m : ℕ = 16 * g + j in
    let here : (0 + m) / 16 ≡ g = omega arith in
    get_or-swz_l_below w8 16 table 0 at m (omega arith) small
    ∙ ap (λ (q : ℕ). get_or table (16 * q + get_or at m 0) 0) here

-- the place before
unfoldable pub before : ℕ → ℕ
before zero = 128
before (suc j) = j

before_are : map (λ m. get_or BEFORE m 0) (range_with_len 0 32) ≡ map (λ m. before (m % 16)) (range_with_len 0 32)
unfolding before
before_are = refl

-- the last place in the first
unfoldable pub last : ℕ → ℕ
last zero = 15
last (suc j) = 128

last_are : map (λ m. get_or LAST m 0) (range_with_len 0 32) ≡ map (λ m. last (m % 16)) (range_with_len 0 32)
unfolding last
last_are = refl

table_at : (table : List ℕ) (f : ℕ → ℕ)
    → map (λ m. get_or table m 0) (range_with_len 0 32) ≡ map (λ m. f (m % 16)) (range_with_len 0 32)
    → (n g j : ℕ) → n ≤ 2 → g < n → j < 16 → get_or (take (16 * n) table) (16 * g + j) 0 ≡ f j
table_at table f e n g j le h k =
    let m : ℕ = 16 * g + j in
    let here : m % 16 ≡ j = omega arith in
    get_or-take (16 * n) table m 0 (omega arith)
    ∙ sym (get_or-map-range_with_len (λ m. get_or table m 0) 0 32 m m 0 (omega arith) (omega arith))
    ∙ ap (λ xs. get_or xs m 0) e
    ∙ get_or-map-range_with_len (λ m. f (m % 16)) 0 32 m m 0 (omega arith) (omega arith) ∙ ap f here

pub before_at : (n g j : ℕ) → n ≤ 2 → g < n → j < 16 → get_or (take (16 * n) BEFORE) (16 * g + j) 0 ≡ before j
before_at n g j le h k = table_at BEFORE before before_are n g j le h k

pub last_at : (n g j : ℕ) → n ≤ 2 → g < n → j < 16 → get_or (take (16 * n) LAST) (16 * g + j) 0 ≡ last j
last_at n g j le h k = table_at LAST last last_are n g j le h k

flipped_are : map (λ m. get_or FLIPPED m 0) (range_with_len 0 32) ≡ map (λ m. bit_xor (m % 16) 7) (range_with_len 0 32)
flipped_are = refl

pub flipped_at : (n g j : ℕ) → n ≤ 2 → g < n → j < 16 → get_or (take (16 * n) FLIPPED) (16 * g + j) 0 ≡ bit_xor j 7
flipped_at n g j le h k = table_at FLIPPED (λ j. bit_xor j 7) flipped_are n g j le h k

cond_at : (v p : ℕ) → p ≡ 128 → cond (zeroes 16 w8 p) 0 v ≡ 0
cond_at v p e = subst (λ (q : ℕ). cond (zeroes 16 w8 q) 0 v ≡ 0) (sym e) refl

none_there : (x js : List ℕ) (m : ℕ) → m < length js → get_or js m 0 ≡ 128 → get_or (swz_l w8 16 x 0 js) m 0 ≡ 0
none_there x js m h e =
    get_or-swz_l w8 16 x 0 js m h ∙ cond_at (get_or x (16 * ((0 + m) / 16) + get_or js m 0) 0) (get_or js m 0) e

pub further_at : (x : List ℕ) (n g j : ℕ) → n ≤ 2 → g < n → j < 16
    → octets_in (swz_l w8 16 x 0 (take (16 * n) BEFORE)) g j ≡ pushed 0 (octets_in x g) j
unfolding before pushed
further_at x n g zero le h k =
    let size : length (take (16 * n) BEFORE) ≡ 16 * n = length-take-le (16 * n) BEFORE (omega arith) in
    none_there x (take (16 * n) BEFORE) (16 * g + 0) (omega arith) (before_at n g 0 le h k)
further_at x n g (suc j) le h k =
    let js : List ℕ = take (16 * n) BEFORE in
    let m : ℕ = 16 * g + suc j in
    let size : length js ≡ 16 * n = length-take-le (16 * n) BEFORE (omega arith) in
    let here : (0 + m) / 16 ≡ g = omega arith in
    let from : get_or js m 0 ≡ j = before_at n g (suc j) le h k in
    get_or-swz_l_below w8 16 x 0 js m (omega arith) (omega arith) ∙ ap₂ (λ (q p : ℕ). get_or x (16 * q + p) 0) here from

pub last_first_at : (x : List ℕ) (n g j : ℕ) → n ≤ 2 → g < n → j < 16
    → octets_in (swz_l w8 16 x 0 (take (16 * n) LAST)) g j ≡ pushed (octets_in x g 15) (λ i. 0) j
unfolding last pushed
last_first_at x n g zero le h k =
    let js : List ℕ = take (16 * n) LAST in
    let m : ℕ = 16 * g + 0 in
    let size : length js ≡ 16 * n = length-take-le (16 * n) LAST (omega arith) in
    let here : (0 + m) / 16 ≡ g = omega arith in
    let from : get_or js m 0 ≡ 15 = last_at n g 0 le h k in
    get_or-swz_l_below w8 16 x 0 js m (omega arith) (omega arith) ∙ ap₂ (λ (q p : ℕ). get_or x (16 * q + p) 0) here from
last_first_at x n g (suc j) le h k =
    let size : length (take (16 * n) LAST) ≡ 16 * n = length-take-le (16 * n) LAST (omega arith) in
    none_there x (take (16 * n) LAST) (16 * g + suc j) (omega arith) (last_at n g (suc j) le h k)

-- ---- octets after others

pub pushed_equal : (x y : ℕ) (f g : ℕ → ℕ) (j : ℕ) → x ≡ y → ((i : ℕ) → i < j → f i ≡ g i) → pushed x f j ≡ pushed y g j
unfolding pushed
pushed_equal x y f g zero e h = e
pushed_equal x y f g (suc j) e h = h j (omega arith)

pub pushed_joined : (x : ℕ) (f : ℕ → ℕ) (j : ℕ) → bit_or (pushed x (λ i. 0) j) (pushed 0 f j) ≡ pushed x f j
unfolding pushed
pushed_joined x f zero = or_zero_r x
pushed_joined x f (suc j) = or_zero_l (f j)

-- ---- a number from its octets

number_small : (x0 x1 x2 x3 x4 x5 x6 x7 x8 x9 x10 x11 x12 x13 x14 x15 : ℕ) → x0 < 256 → x1 < 256 → x2 < 256 → x3 < 256
    → x4 < 256 → x5 < 256 → x6 < 256 → x7 < 256 → x8 < 256 → x9 < 256 → x10 < 256 → x11 < 256 → x12 < 256 → x13 < 256
    → x14 < 256 → x15 < 256 → from_be_bytes w128
    (x0 ∷ x1 ∷ x2 ∷ x3 ∷ x4 ∷ x5 ∷ x6 ∷ x7 ∷ x8 ∷ x9 ∷ x10 ∷ x11 ∷ x12 ∷ x13 ∷ x14 ∷ x15 ∷ []) < 2 ^ 128
number_small x0 x1 x2 x3 x4 x5 x6 x7 x8 x9 x10 x11 x12 x13 x14 x15 hx0 hx1 hx2 hx3 hx4 hx5 hx6 hx7 hx8 hx9 hx10 hx11
    hx12 hx13 hx14 hx15 = omega arith

number_octets : (x0 x1 x2 x3 x4 x5 x6 x7 x8 x9 x10 x11 x12 x13 x14 x15 : ℕ) → x0 < 256 → x1 < 256 → x2 < 256 → x3 < 256
    → x4 < 256 → x5 < 256 → x6 < 256 → x7 < 256 → x8 < 256 → x9 < 256 → x10 < 256 → x11 < 256 → x12 < 256 → x13 < 256
    → x14 < 256 → x15 < 256 → (j : ℕ) → j < 16
    → octet_from_left
    (from_be_bytes w128 (x0 ∷ x1 ∷ x2 ∷ x3 ∷ x4 ∷ x5 ∷ x6 ∷ x7 ∷ x8 ∷ x9 ∷ x10 ∷ x11 ∷ x12 ∷ x13 ∷ x14 ∷ x15 ∷ []))
    j ≡ get_or (x0 ∷ x1 ∷ x2 ∷ x3 ∷ x4 ∷ x5 ∷ x6 ∷ x7 ∷ x8 ∷ x9 ∷ x10 ∷ x11 ∷ x12 ∷ x13 ∷ x14 ∷ x15 ∷ []) j 0
number_octets x0 x1 x2 x3 x4 x5 x6 x7 x8 x9 x10 x11 x12 x13 x14 x15 hx0 hx1 hx2 hx3 hx4 hx5 hx6 hx7 hx8 hx9 hx10 hx11
    hx12 hx13 hx14 hx15 j h =
    below_sixteen (λ j. octet_from_left
    (from_be_bytes w128 (x0 ∷ x1 ∷ x2 ∷ x3 ∷ x4 ∷ x5 ∷ x6 ∷ x7 ∷ x8 ∷ x9 ∷ x10 ∷ x11 ∷ x12 ∷ x13 ∷ x14 ∷ x15 ∷ []))
    j ≡ get_or (x0 ∷ x1 ∷ x2 ∷ x3 ∷ x4 ∷ x5 ∷ x6 ∷ x7 ∷ x8 ∷ x9 ∷ x10 ∷ x11 ∷ x12 ∷ x13 ∷ x14 ∷ x15 ∷ []) j 0)
    (omega arith) (omega arith) (omega arith) (omega arith) (omega arith) (omega arith) (omega arith) (omega arith)
    (omega arith) (omega arith) (omega arith) (omega arith) (omega arith) (omega arith) (omega arith)
    (omega arith) j h

-- sixteen octets as a number
pub block_number : (block : List ℕ) → length block ≡ 16 → ((j : ℕ) → j < 16 → get_or block j 0 < 256)
    → from_be_bytes w128 block ≡ block_of_octets (λ j. get_or block j 0)
block_number block len small =
    let x : ℕ → ℕ = λ j. get_or block j 0 in
    let cells : List ℕ =
    x 0 ∷ x 1 ∷ x 2 ∷ x 3 ∷ x 4 ∷ x 5 ∷ x 6 ∷ x 7 ∷ x 8 ∷ x 9 ∷ x 10 ∷ x 11 ∷ x 12 ∷ x 13 ∷ x 14 ∷ x 15 ∷ [] in
    let v : ℕ = from_be_bytes w128 cells in
    let same : block ≡ cells = fill_by_all x block 16 0 len (λ k h. refl) in
    ap (from_be_bytes w128) same
    ∙ sym (octets_whole v (number_small (x 0) (x 1) (x 2) (x 3) (x 4) (x 5) (x 6) (x 7) (x 8) (x 9) (x 10) (x 11)
    (x 12) (x 13) (x 14) (x 15) (small 0 (omega arith)) (small 1 (omega arith)) (small 2 (omega arith)) (small 3
    (omega arith)) (small 4 (omega arith)) (small 5 (omega arith)) (small 6 (omega arith)) (small 7 (omega arith))
    (small 8 (omega arith)) (small 9 (omega arith)) (small 10 (omega arith)) (small 11 (omega arith))
    (small 12 (omega arith)) (small 13 (omega arith)) (small 14 (omega arith)) (small 15 (omega arith))))
    ∙ block_equal (octet_from_left v) x (λ j h.
    number_octets (x 0) (x 1) (x 2) (x 3) (x 4) (x 5) (x 6) (x 7) (x 8) (x 9) (x 10) (x 11) (x 12) (x 13) (x 14) (x 15)
    (small 0 (omega arith)) (small 1 (omega arith)) (small 2 (omega arith)) (small 3 (omega arith)) (small 4
    (omega arith)) (small 5 (omega arith)) (small 6 (omega arith)) (small 7 (omega arith)) (small 8 (omega arith))
    (small 9 (omega arith)) (small 10 (omega arith)) (small 11 (omega arith)) (small 12 (omega arith)) (small 13
    (omega arith)) (small 14 (omega arith)) (small 15 (omega arith)) j h ∙ ap (λ b. get_or b j 0) (sym same))

-- the octets of a number of sixteen
pub octet_of_number : (block : List ℕ) → length block ≡ 16 → ((j : ℕ) → j < 16 → get_or block j 0 < 256)
    → (j : ℕ) → j < 16
    → octet_from_left (from_be_bytes w128 block) j ≡ get_or block j 0
octet_of_number block len small j h =
    let x : ℕ → ℕ = λ j. get_or block j 0 in
    let cells : List ℕ =
    x 0 ∷ x 1 ∷ x 2 ∷ x 3 ∷ x 4 ∷ x 5 ∷ x 6 ∷ x 7 ∷ x 8 ∷ x 9 ∷ x 10 ∷ x 11 ∷ x 12 ∷ x 13 ∷ x 14 ∷ x 15 ∷ [] in
    let same : block ≡ cells = fill_by_all x block 16 0 len (λ k h. refl) in
    ap (λ b. octet_from_left (from_be_bytes w128 b) j) same
    ∙ number_octets (x 0) (x 1) (x 2) (x 3) (x 4) (x 5) (x 6) (x 7) (x 8) (x 9) (x 10) (x 11) (x 12) (x 13) (x 14)
    (x 15) (small 0 (omega arith)) (small 1 (omega arith)) (small 2 (omega arith)) (small 3 (omega arith)) (small 4
    (omega arith)) (small 5 (omega arith)) (small 6 (omega arith)) (small 7 (omega arith)) (small 8 (omega arith))
    (small 9 (omega arith)) (small 10 (omega arith)) (small 11 (omega arith)) (small 12 (omega arith)) (small 13
    (omega arith)) (small 14 (omega arith)) (small 15 (omega arith)) j h ∙ ap (λ b. get_or b j 0) (sym same)
