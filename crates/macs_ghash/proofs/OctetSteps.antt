-- Sums moved on octet by octet.
use Rattle.std.proofs.Common.{◌≡◌, ℕ, zero, suc, ◌+◌, ◌-◌, ◌*◌, ◌/◌, ◌%◌, ◌^◌, ◌<◌, ◌≤◌, ◌∙◌, bit_xor, ap, ap₂, sym}
use Rattle.std.proofs.Common.{refl, arith}
use Rattle.std.proofs.Math.Nat.{add_comm}
use Rattle.std.proofs.lemmas.Nat.{xor_comm}
use lib.Bits.{xor_assoc, xor_shifted, xor_zero_l, xor_zero_r}
use Rattle.macs_gf.specs.Gf128.{times_power}
use Rattle.macs_gf.proofs.BlockField.{times_power-xor}
use Rattle.macs_gf.proofs.Xor.{xor_shl}
use Rattle.macs_ghash.specs.Tables.{block_of_octets, octet_placed, pushed, stepped, sum_of, with_beyond}
use Rattle.macs_ghash.proofs.Overflow.{power-add, power-exact}
use Rattle.macs_ghash.proofs.OctetSums.{placed-xor, placed_none, sum-map, sum_equal, sum_split, sum_xor}

pub block_equal : (f g : ℕ → ℕ) → ((j : ℕ) → j < 16 → f j ≡ g j) → block_of_octets f ≡ block_of_octets g
unfolding block_of_octets
block_equal f g h =
    sum_equal (λ j. octet_placed j (f j)) (λ j. octet_placed j (g j)) 16 (λ j k. ap (octet_placed j) (h j k))

pub block_xor : (f g : ℕ → ℕ)
    → block_of_octets (λ j. bit_xor (f j) (g j)) ≡ bit_xor (block_of_octets f) (block_of_octets g)
unfolding block_of_octets
block_xor f g =
    sum_equal (λ j. octet_placed j (bit_xor (f j) (g j))) (λ j. bit_xor (octet_placed j (f j)) (octet_placed j (g j)))
    16 (λ j k. placed-xor j (f j) (g j))
    ∙ sum_xor (λ j. octet_placed j (f j)) (λ j. octet_placed j (g j)) 16

pub block_none : block_of_octets (λ j. 0) ≡ 0
unfolding block_of_octets sum_of
block_none = sum_equal (λ j. octet_placed j 0) (λ j. 0) 16 (λ j k. placed_none j)

-- an octet one place further
placed_further : (j o : ℕ) → times_power 8 (octet_placed j o) ≡ octet_placed (j + 1) o
unfolding octet_placed
placed_further j o =
    let e : 8 + 8 * j ≡ 8 * (j + 1) = omega arith in
    sym (power-add 8 (8 * j) (o * 2 ^ 120)) ∙ ap (λ (i : ℕ). times_power i (o * 2 ^ 120)) e

placed_beyond : (o : ℕ) → octet_placed 16 o ≡ times_power 128 (octet_placed 0 o)
unfolding octet_placed times_power
placed_beyond o = refl

sum_last : (f : ℕ → ℕ) → sum_of f 16 ≡ bit_xor (sum_of f 15) (f 15)
unfolding sum_of
sum_last f = refl

sum_one : (f : ℕ → ℕ) → sum_of f 1 ≡ f 0
unfolding sum_of
sum_one f = xor_zero_l (f 0)

-- octets after another
pushed_sum : (x : ℕ) (f : ℕ → ℕ)
    → block_of_octets (pushed x f) ≡ bit_xor (octet_placed 0 x) (sum_of (λ k. octet_placed (k + 1) (f k)) 15)
unfolding block_of_octets pushed
pushed_sum x f =
    sum_split (λ j. octet_placed j (pushed x f j)) 15 1
    ∙ ap₂ bit_xor (sum_one (λ j. octet_placed j (pushed x f j)))
    (sum_equal (λ k. octet_placed (k + 1) (pushed x f (k + 1))) (λ k. octet_placed (k + 1) (f k)) 15
    (λ k h.
    let e : k + 1 ≡ suc k = omega arith in
    ap (λ (i : ℕ). octet_placed (k + 1) (pushed x f i)) e))

-- x^8 times a block
pub block_further : (f : ℕ → ℕ) → times_power 8 (block_of_octets f)
    ≡ bit_xor (block_of_octets (pushed 0 f)) (times_power 128 (octet_placed 0 (f 15)))
unfolding block_of_octets
block_further f =
    let g : ℕ → ℕ = λ k. octet_placed (k + 1) (f k) in
    sum-map (times_power 8) (times_power-xor 8) (λ j. octet_placed j (f j)) 16
    ∙ sum_equal (λ j. times_power 8 (octet_placed j (f j))) g 16 (λ j h. placed_further j (f j))
    ∙ sum_last g
    ∙ ap₂ bit_xor (sym (pushed_sum 0 f ∙ ap (λ (v : ℕ). bit_xor v (sum_of g 15)) (placed_none 0)
    ∙ xor_zero_l (sum_of g 15))) (placed_beyond (f 15))

pushed_front : (x : ℕ) (f : ℕ → ℕ)
    → block_of_octets (pushed x f) ≡ bit_xor (octet_placed 0 x) (block_of_octets (pushed 0 f))
pushed_front x f =
    let s : ℕ = sum_of (λ k. octet_placed (k + 1) (f k)) 15 in
    pushed_sum x f ∙ ap (bit_xor (octet_placed 0 x))
    (sym (pushed_sum 0 f ∙ ap (λ (v : ℕ). bit_xor v s) (placed_none 0) ∙ xor_zero_l s))

-- what goes beyond the right end goes to the front of what is there
pub moved_on : (low high : ℕ → ℕ) → high 15 ≡ 0
    → with_beyond (pushed 0 low) (pushed (low 15) high) ≡ times_power 8 (with_beyond low high)
unfolding with_beyond sum_of
moved_on low high none =
    let t : ℕ → ℕ = times_power 128 in
    let a : ℕ = block_of_octets (pushed 0 low) in
    let b : ℕ = octet_placed 0 (low 15) in
    let d : ℕ = block_of_octets (pushed 0 high) in
    let out : t (octet_placed 0 (high 15)) ≡ 0 =
    ap (λ (o : ℕ). t (octet_placed 0 o)) none ∙ ap t (placed_none 0) ∙ sum-map t (times_power-xor 128) (λ k. 0) 0 in
    let far : times_power 8 (t (block_of_octets high)) ≡ t d =
    sym (power-add 8 128 (block_of_octets high)) ∙ power-add 128 8 (block_of_octets high)
    ∙ ap t (block_further high ∙ ap (bit_xor d) out ∙ xor_zero_r d) in
    ap (λ (v : ℕ). bit_xor a (t v)) (pushed_front (low 15) high) ∙ ap (bit_xor a) (times_power-xor 128 b d)
    ∙ sym (xor_assoc a (t b) (t d))
    ∙ sym (times_power-xor 8 (block_of_octets low) (t (block_of_octets high)) ∙ ap₂ bit_xor (block_further low) far)

-- octets added to the block
pub added_on : (low high more : ℕ → ℕ)
    → with_beyond (λ j. bit_xor (low j) (more j)) high ≡ bit_xor (with_beyond low high) (block_of_octets more)
unfolding with_beyond
added_on low high more =
    let a : ℕ = block_of_octets low in
    let b : ℕ = block_of_octets more in
    let t : ℕ = times_power 128 (block_of_octets high) in
    ap (λ (v : ℕ). bit_xor v t) (block_xor low more) ∙ xor_assoc a b t ∙ ap (bit_xor a) (xor_comm b t)
    ∙ sym (xor_assoc a t b)

pub beyond_equal : (low high low2 high2 : ℕ → ℕ) → ((j : ℕ) → j < 16 → low j ≡ low2 j)
    → ((j : ℕ) → j < 16 → high j ≡ high2 j) → with_beyond low high ≡ with_beyond low2 high2
unfolding with_beyond
beyond_equal low high low2 high2 f g =
    ap₂ (λ (a b : ℕ). bit_xor a (times_power 128 b)) (block_equal low low2 f) (block_equal high high2 g)

-- ---- x^4 times octets: each in two halves

in_halves : (o : ℕ) → o * 2 ^ 120 ≡ bit_xor (o / 16 * 2 ^ 120 * 2 ^ 4) (o % 16 * 2 ^ 120)
in_halves o =
    let low : o % 16 < 2 ^ 4 = omega arith in
    let whole : o / 16 * 2 ^ 4 + o % 16 ≡ o = omega arith in
    let turned : o / 16 * 2 ^ 4 * 2 ^ 120 ≡ o / 16 * 2 ^ 120 * 2 ^ 4 = omega arith in
    sym (ap (λ (v : ℕ). bit_xor v (o % 16 * 2 ^ 120)) (sym turned) ∙ sym (xor_shl (o / 16 * 2 ^ 4) (o % 16) 120)
    ∙ ap (λ (v : ℕ). v * 2 ^ 120) (xor_shifted (o / 16) 4 (o % 16) low ∙ whole))

low_half : (v : ℕ) → times_power 8 (v * 16 * 2 ^ 120) ≡ times_power 4 (v * 2 ^ 120)
low_half v =
    let e : v * 16 * 2 ^ 120 ≡ v * 2 ^ 120 * 2 ^ 4 = omega arith in
    ap (times_power 8) e ∙ power-add 4 4 (v * 2 ^ 120 * 2 ^ 4) ∙ ap (times_power 4) (power-exact 4 (v * 2 ^ 120))

placed_halves : (j o : ℕ) → times_power 4 (octet_placed j o)
    ≡ bit_xor (octet_placed j (o / 16)) (times_power 8 (octet_placed j (o % 16 * 16)))
unfolding octet_placed
placed_halves j o =
    let p : ℕ → ℕ = times_power (8 * j) in
    let swapped : (i v : ℕ) → times_power i (p v) ≡ p (times_power i v) = λ i v.
    sym (power-add i (8 * j) v) ∙ ap (λ (n : ℕ). times_power n v) (add_comm i (8 * j)) ∙ power-add (8 * j) i v in
    swapped 4 (o * 2 ^ 120)
    ∙ ap p (ap (times_power 4) (in_halves o) ∙ times_power-xor 4 (o / 16 * 2 ^ 120 * 2 ^ 4) (o % 16 * 2 ^ 120)
    ∙ ap₂ bit_xor (power-exact 4 (o / 16 * 2 ^ 120)) (sym (low_half (o % 16))))
    ∙ times_power-xor (8 * j) (o / 16 * 2 ^ 120) (times_power 8 (o % 16 * 16 * 2 ^ 120))
    ∙ ap (bit_xor (p (o / 16 * 2 ^ 120))) (sym (swapped 8 (o % 16 * 16 * 2 ^ 120)))

pub block_halves : (f : ℕ → ℕ) → times_power 4 (block_of_octets f)
    ≡ bit_xor (block_of_octets (λ j. f j / 16)) (times_power 8 (block_of_octets (λ j. f j % 16 * 16)))
unfolding block_of_octets
block_halves f =
    sum-map (times_power 4) (times_power-xor 4) (λ j. octet_placed j (f j)) 16
    ∙ sum_equal (λ j. times_power 4 (octet_placed j (f j))) (λ j. bit_xor (octet_placed j (f j / 16))
    (times_power 8 (octet_placed j (f j % 16 * 16)))) 16 (λ j h. placed_halves j (f j))
    ∙ sum_xor (λ j. octet_placed j (f j / 16)) (λ j. times_power 8 (octet_placed j (f j % 16 * 16))) 16
    ∙ ap (bit_xor (sum_of (λ j. octet_placed j (f j / 16)) 16))
    (sym (sum-map (times_power 8) (times_power-xor 8) (λ j. octet_placed j (f j % 16 * 16)) 16))

-- ---- one step: the left halves of the blocks' octets give `left`, the right ones `right`

pub one_step : (low high left right : ℕ → ℕ) → high 15 ≡ 0
    → with_beyond (λ j. bit_xor (pushed 0 (λ i. bit_xor (low i) (right i % 16 * 16)) j)
    (bit_xor (left j) (right j / 16))) (pushed (bit_xor (low 15) (right 15 % 16 * 16)) high)
    ≡ bit_xor (times_power 8 (with_beyond low high))
    (bit_xor (block_of_octets left) (times_power 4 (block_of_octets right)))
one_step low high left right none =
    let up : ℕ → ℕ = λ i. right i % 16 * 16 in
    let down : ℕ → ℕ = λ i. right i / 16 in
    let more : ℕ → ℕ = λ i. bit_xor (low i) (up i) in
    let w : ℕ = times_power 8 (with_beyond low high) in
    let a : ℕ = times_power 8 (block_of_octets up) in
    let l : ℕ = block_of_octets left in
    let r : ℕ = block_of_octets down in
    added_on (pushed 0 more) (pushed (more 15) high) (λ j. bit_xor (left j) (down j))
    ∙ ap₂ bit_xor (moved_on more high none ∙ ap (times_power 8) (added_on low high up)
    ∙ times_power-xor 8 (with_beyond low high) (block_of_octets up)) (block_xor left down)
    ∙ xor_assoc w a (bit_xor l r)
    ∙ ap (bit_xor w) (sym (xor_assoc a l r) ∙ ap (λ (v : ℕ). bit_xor v r) (xor_comm a l) ∙ xor_assoc l a r
    ∙ ap (bit_xor l) (xor_comm a r ∙ sym (block_halves right)))

-- ---- sixteen steps

first_power : (v : ℕ) → times_power (8 * 0) v ≡ v
unfolding times_power
first_power v = refl

stepped_some : (f : ℕ → ℕ) (k : ℕ) → k ≤ 16 → stepped f k ≡ sum_of (λ i. times_power (8 * i) (f (16 - k + i))) k
unfolding stepped sum_of
stepped_some f zero h = refl
stepped_some f (suc k) h =
    let g : ℕ → ℕ = λ i. times_power (8 * i) (f (16 - suc k + i)) in
    let whole : k + 1 ≡ suc k = omega arith in
    let first : 16 - suc k + 0 ≡ 15 - k = omega arith in
    let front : g 0 ≡ f (15 - k) = first_power (f (16 - suc k + 0)) ∙ ap f first in
    let rest : times_power 8 (stepped f k) ≡ sum_of (λ i. g (i + 1)) k =
    ap (times_power 8) (stepped_some f k (omega arith))
    ∙ sum-map (times_power 8) (times_power-xor 8) (λ i. times_power (8 * i) (f (16 - k + i))) k
    ∙ sum_equal (λ i. times_power 8 (times_power (8 * i) (f (16 - k + i)))) (λ i. g (i + 1)) k (λ i l.
    let e : 8 + 8 * i ≡ 8 * (i + 1) = omega arith in
    let at : 16 - k + i ≡ 16 - suc k + (i + 1) = omega arith in
    sym (power-add 8 (8 * i) (f (16 - k + i))) ∙ ap₂ (λ (n m : ℕ). times_power n (f m)) e at) in
    ap₂ bit_xor rest (sym front) ∙ xor_comm (sum_of (λ i. g (i + 1)) k) (g 0)
    ∙ ap (λ (v : ℕ). bit_xor v (sum_of (λ i. g (i + 1)) k)) (sym (sum_one g))
    ∙ sym (sum_split g k 1) ∙ ap (sum_of g) whole

pub stepped_all : (f : ℕ → ℕ) → stepped f 16 ≡ sum_of (λ b. times_power (8 * b) (f b)) 16
stepped_all f =
    stepped_some f 16 (omega arith)
    ∙ sum_equal (λ i. times_power (8 * i) (f (16 - 16 + i))) (λ b. times_power (8 * b) (f b)) 16
    (λ i h.
    let e : 16 - 16 + i ≡ i = omega arith in
    ap (λ (n : ℕ). times_power (8 * i) (f n)) e)
