-- Products by tables of four bits: what the rows add is the sum of products.
use Rattle.std.proofs.Common.{set, subst, inl, inr, length, ◌≡◌, ℕ, zero, suc, ◌+◌, ◌-◌, ◌*◌, ◌/◌, ◌%◌, ◌^◌, ◌<◌, ◌≤◌}
use Rattle.std.proofs.Common.{◌∙◌, List, [], get_or, bit_xor, ap, ap₂, sym, arith}
use Rattle.std.specs.Int.{bit_at}
use Rattle.std.proofs.Math.Nat.{add_comm}
use Rattle.std.proofs.lemmas.Bool.{cases_lt}
use Rattle.std.proofs.lemmas.List.{get_or-set_other, get_or-set_same}
use Rattle.std.proofs.lemmas.Nat.{xor_lt}
use Rattle.std.proofs.lemmas.Nat.Bits.{bit_at-lt}
use Rattle.macs_gf.specs.Gf128.{block_product, times_power}
use Rattle.macs_gf.proofs.BlockField.{times_power-lt, times_power-xor}
use Rattle.macs_gf.proofs.Xor.{digit-lt}
use Rattle.macs_ghash.specs.Tables.{AreTables, block_of_octets, nibble_product, octet_from_left, octet_times, octets_in}
use Rattle.macs_ghash.specs.Tables.{pushed, row_sum, row_term, stepped, sum_of, with_beyond}
use Rattle.macs_ghash.proofs.OctetSteps.{beyond_equal, block_equal, block_none, block_xor, one_step, stepped_all}
use Rattle.macs_ghash.proofs.Overflow.{power-add}
use Rattle.macs_ghash.proofs.OctetSums.{product_by_octets, rows_products, sum-map, sum_equal, sum_split, sum_swapped}
use Rattle.macs_ghash.proofs.OctetSums.{sum_xor}

-- the blocks of sums of octets
block_sum : (f : ℕ → ℕ → ℕ) (n : ℕ)
    → block_of_octets (λ j. sum_of (λ p. f p j) n) ≡ sum_of (λ p. block_of_octets (f p)) n
unfolding sum_of
block_sum f zero = block_none
block_sum f (suc n) = block_xor (λ j. sum_of (λ p. f p j) n) (f n)
    ∙ ap (λ (v : ℕ). bit_xor v (block_of_octets (f n))) (block_sum f n)

-- x^4 times the second of two sums
apart : (a b : ℕ → ℕ) → sum_of (λ k. times_power (8 * k) (bit_xor (a k) (times_power 4 (b k)))) 16
    ≡ bit_xor (sum_of (λ k. times_power (8 * k) (a k)) 16) (times_power 4 (sum_of (λ k. times_power (8 * k) (b k)) 16))
apart a b =
    let swapped : (k : ℕ) → times_power (8 * k) (times_power 4 (b k)) ≡ times_power 4 (times_power (8 * k) (b k)) = λ k.
    sym (power-add (8 * k) 4 (b k)) ∙ ap (λ (i : ℕ). times_power i (b k)) (add_comm (8 * k) 4)
    ∙ power-add 4 (8 * k) (b k) in
    sum_equal (λ k. times_power (8 * k) (bit_xor (a k) (times_power 4 (b k))))
    (λ k. bit_xor (times_power (8 * k) (a k)) (times_power 4 (times_power (8 * k) (b k)))) 16
    (λ k h. times_power-xor (8 * k) (a k) (times_power 4 (b k)) ∙ ap (bit_xor (times_power (8 * k) (a k))) (swapped k))
    ∙ sum_xor (λ k. times_power (8 * k) (a k)) (λ k. times_power 4 (times_power (8 * k) (b k))) 16
    ∙ ap (bit_xor (sum_of (λ k. times_power (8 * k) (a k)) 16))
    (sym (sum-map (times_power 4) (times_power-xor 4) (λ k. times_power (8 * k) (b k)) 16))

nibble_term : (n p k : ℕ) → p < 2 ^ 128 → bit_at n (3 - k) * times_power k p < 2 ^ 128
nibble_term n p k h = digit-lt 128 (bit_at n (3 - k)) (times_power k p) (bit_at-lt n (3 - k)) (times_power-lt k p h)

pub nibble-lt : (n p : ℕ) → p < 2 ^ 128 → nibble_product n p < 2 ^ 128
unfolding nibble_product sum_of
nibble-lt n p h =
    let t : ℕ → ℕ = λ k. bit_at n (3 - k) * times_power k p in
    xor_lt 128 (bit_xor (bit_xor (bit_xor 0 (t 0)) (t 1)) (t 2)) (t 3)
    (xor_lt 128 (bit_xor (bit_xor 0 (t 0)) (t 1)) (t 2)
    (xor_lt 128 (bit_xor 0 (t 0)) (t 1) (xor_lt 128 0 (t 0) (omega arith) (nibble_term n p 0 h)) (nibble_term n p 1 h))
    (nibble_term n p 2 h)) (nibble_term n p 3 h)

-- rows of several powers
rows_of_powers : (n : ℕ → ℕ → ℕ) (powers : ℕ → ℕ) (parts : ℕ) → ((p : ℕ) → p < parts → powers p < 2 ^ 128)
    → sum_of (λ b. times_power (8 * b)
    (block_of_octets (λ j. sum_of (λ p. octet_from_left (nibble_product (n p j) (powers p)) b) parts))) 16
    ≡ sum_of (λ p. sum_of (λ j. times_power (8 * j) (nibble_product (n p j) (powers p))) 16) parts
rows_of_powers n powers parts small =
    let row : ℕ → ℕ
    → ℕ = λ (b : ℕ) (p : ℕ). block_of_octets (λ j. octet_from_left (nibble_product (n p j) (powers p)) b) in
    sum_equal (λ b. times_power (8 * b)
    (block_of_octets (λ j. sum_of (λ p. octet_from_left (nibble_product (n p j) (powers p)) b) parts)))
    (λ b. sum_of (λ p. times_power (8 * b) (row b p)) parts) 16
    (λ b h. ap (times_power (8 * b)) (block_sum (λ p j. octet_from_left (nibble_product (n p j) (powers p)) b) parts)
    ∙ sum-map (times_power (8 * b)) (times_power-xor (8 * b)) (row b) parts)
    ∙ sum_swapped (λ b p. times_power (8 * b) (row b p)) parts 16
    ∙ sum_equal (λ p. sum_of (λ b. times_power (8 * b) (row b p)) 16)
    (λ p. sum_of (λ j. times_power (8 * j) (nibble_product (n p j) (powers p))) 16) parts
    (λ p h. rows_products (n p) (powers p) (λ j. nibble-lt (n p j) (powers p) (small p h)))

-- the rows' terms are the products
row_products : (d : ℕ → ℕ → ℕ) (blocks powers : ℕ → ℕ) (parts : ℕ) → ((p : ℕ) → p < parts → powers p < 2 ^ 128)
    → ((p j : ℕ) → p < parts → j < 16 → octet_from_left (blocks p) j ≡ d p j)
    → sum_of (λ b. times_power (8 * b)
    (bit_xor (block_of_octets (λ j. sum_of (λ p. octet_from_left (nibble_product (d p j / 16) (powers p)) b) parts))
    (times_power 4
    (block_of_octets (λ j. sum_of (λ p. octet_from_left (nibble_product (d p j % 16) (powers p)) b) parts))))) 16
    ≡ sum_of (λ p. block_product (blocks p) (powers p)) parts
unfolding octet_times
row_products d blocks powers parts small is =
    let l : ℕ → ℕ = λ p. sum_of (λ j. times_power (8 * j) (nibble_product (d p j / 16) (powers p))) 16 in
    let r : ℕ → ℕ = λ p. sum_of (λ j. times_power (8 * j) (nibble_product (d p j % 16) (powers p))) 16 in
    apart (λ b. block_of_octets (λ j. sum_of (λ p. octet_from_left (nibble_product (d p j / 16) (powers p)) b) parts))
    (λ b. block_of_octets (λ j. sum_of (λ p. octet_from_left (nibble_product (d p j % 16) (powers p)) b) parts))
    ∙ ap₂ (λ (a b : ℕ). bit_xor a (times_power 4 b)) (rows_of_powers (λ p j. d p j / 16) powers parts small)
    (rows_of_powers (λ p j. d p j % 16) powers parts small)
    ∙ ap (bit_xor (sum_of l parts)) (sum-map (times_power 4) (times_power-xor 4) r parts)
    ∙ sym (sum_xor l (λ p. times_power 4 (r p)) parts)
    ∙ sum_equal (λ p. bit_xor (l p) (times_power 4 (r p))) (λ p. block_product (blocks p) (powers p)) parts
    (λ p h. sym (apart (λ j. nibble_product (d p j / 16) (powers p)) (λ j. nibble_product (d p j % 16) (powers p)))
    ∙ sum_equal (λ j. times_power (8 * j) (octet_times (d p j) (powers p)))
    (λ j. times_power (8 * j) (octet_times (octet_from_left (blocks p) j) (powers p))) 16
    (λ j k. ap (λ (o : ℕ). times_power (8 * j) (octet_times o (powers p))) (sym (is p j h k)))
    ∙ sym (product_by_octets (blocks p) (powers p)))

-- a sum by parts
sum_by_parts : (f : ℕ → ℕ) (s n : ℕ) → sum_of (λ p. sum_of (λ g. f (s * p + g)) s) n ≡ sum_of f (s * n)
unfolding sum_of
sum_by_parts f s zero =
    let none : s * 0 ≡ 0 = omega arith in
    sym (ap (sum_of f) none)
sum_by_parts f s (suc n) =
    let more : s + s * n ≡ s * suc n = omega arith in
    ap₂ bit_xor (sum_by_parts f s n)
    (sum_equal (λ g. f (s * n + g)) (λ g. f (g + s * n)) s (λ g h. ap f (add_comm (s * n) g)))
    ∙ sym (sum_split f s (s * n)) ∙ ap (sum_of f) more

pub sum_of_parts : (f : ℕ → ℕ) (s n : ℕ) → sum_of (λ g. sum_of (λ p. f (s * p + g)) n) s ≡ sum_of f (s * n)
sum_of_parts f s n = sum_swapped (λ g p. f (s * p + g)) n s ∙ sum_by_parts f s n

-- a sum of sums and of what went beyond
pub beyond_sum : (low high : ℕ → ℕ → ℕ) (n : ℕ)
    → bit_xor (sum_of (λ g. block_of_octets (low g)) n) (times_power 128 (sum_of (λ g. block_of_octets (high g)) n))
    ≡ sum_of (λ g. with_beyond (low g) (high g)) n
unfolding with_beyond
beyond_sum low high n =
    ap (bit_xor (sum_of (λ g. block_of_octets (low g)) n))
    (sum-map (times_power 128) (times_power-xor 128) (λ g. block_of_octets (high g)) n)
    ∙ sym (sum_xor (λ g. block_of_octets (low g)) (λ g. times_power 128 (block_of_octets (high g))) n)

-- all rows, in one sixteen
sixteen_products : (sixteens parts : ℕ) (powers blocks : ℕ → ℕ) (tables : List (List (List ℕ)))
    (left right : List (List ℕ)) (octets : ℕ → ℕ) (g : ℕ) → g < sixteens
    → AreTables sixteens parts powers tables
    → ((m : ℕ) → octets m < 256)
    → ((p j : ℕ) → p < parts → j < 16 → octets_in (get_or left p []) g j ≡ octets (16 * (sixteens * p + g) + j) / 16)
    → ((p j : ℕ) → p < parts → j < 16 → octets_in (get_or right p []) g j ≡ octets (16 * (sixteens * p + g) + j) % 16)
    → ((p j : ℕ) → p < parts → j < 16
    → octet_from_left (blocks (sixteens * p + g)) j ≡ octets (16 * (sixteens * p + g) + j))
    → ((p : ℕ) → p < parts → sixteens * p + g < sixteens * parts)
    → stepped (row_term parts tables left right g) 16
    ≡ sum_of (λ p. block_product (blocks (sixteens * p + g)) (powers (sixteens * p + g))) parts
sixteen_products sixteens parts powers blocks tables left right octets g below are small is_left is_right
    is_block within =
    let d : ℕ → ℕ → ℕ = λ (p : ℕ) (j : ℕ). octets (16 * (sixteens * p + g) + j) in
    let w : ℕ → ℕ = λ (p : ℕ). powers (sixteens * p + g) in
    let looked : (at : List (List ℕ)) (n : ℕ → ℕ → ℕ) → ((p j : ℕ) → p < parts → j < 16
    → octets_in (get_or at p []) g j ≡ n p j) → ((p j : ℕ) → n p j < 16) → (b : ℕ) → b < 16
    → block_of_octets (row_sum parts tables at g b)
    ≡ block_of_octets (λ j. sum_of (λ p. octet_from_left (nibble_product (n p j) (w p)) b) parts) =
    λ at n e fits b h. block_equal (row_sum parts tables at g b)
    (λ j. sum_of (λ p. octet_from_left (nibble_product (n p j) (w p)) b) parts)
    (λ j k. sum_equal (λ p. octets_in (get_or (get_or tables b []) p []) g (octets_in (get_or at p []) g j))
    (λ p. octet_from_left (nibble_product (n p j) (w p)) b) parts
    (λ p l. ap (octets_in (get_or (get_or tables b []) p []) g) (e p j l k)
    ∙ are.each b p g (n p j) h l below (fits p j))) in
    stepped_all (row_term parts tables left right g)
    ∙ sum_equal (λ b. times_power (8 * b) (row_term parts tables left right g b))
    (λ b. times_power (8 * b)
    (bit_xor (block_of_octets (λ j. sum_of (λ p. octet_from_left (nibble_product (d p j / 16) (w p)) b) parts))
    (times_power 4 (block_of_octets (λ j. sum_of (λ p. octet_from_left (nibble_product (d p j % 16) (w p)) b) parts)))))
    16
    (λ b h. ap₂ (λ (x y : ℕ). times_power (8 * b) (bit_xor x (times_power 4 y)))
    (looked left (λ p j. d p j / 16) is_left (λ p j. omega (arith, small (16 * (sixteens * p + g) + j))) b h)
    (looked right (λ p j. d p j % 16) is_right (λ p j. omega arith) b h))
    ∙ row_products d (λ p. blocks (sixteens * p + g)) w parts (λ p h. are.small (sixteens * p + g) (within p h))
    (λ p j h k. is_block p j h k)

-- all rows, in all
pub all_products : (sixteens parts : ℕ) (powers blocks : ℕ → ℕ) (tables : List (List (List ℕ)))
    (left right : List (List ℕ)) (octets : ℕ → ℕ) (low high : ℕ → ℕ → ℕ)
    → AreTables sixteens parts powers tables
    → ((m : ℕ) → octets m < 256)
    → ((p g j : ℕ) → p < parts → g < sixteens → j < 16
    → octets_in (get_or left p []) g j ≡ octets (16 * (sixteens * p + g) + j) / 16)
    → ((p g j : ℕ) → p < parts → g < sixteens → j < 16
    → octets_in (get_or right p []) g j ≡ octets (16 * (sixteens * p + g) + j) % 16)
    → ((p g j : ℕ) → p < parts → g < sixteens → j < 16
    → octet_from_left (blocks (sixteens * p + g)) j ≡ octets (16 * (sixteens * p + g) + j))
    → ((p g : ℕ) → p < parts → g < sixteens → sixteens * p + g < sixteens * parts)
    → ((g : ℕ) → g < sixteens → with_beyond (low g) (high g) ≡ stepped (row_term parts tables left right g) 16)
    → bit_xor (sum_of (λ g. block_of_octets (low g)) sixteens)
    (times_power 128 (sum_of (λ g. block_of_octets (high g)) sixteens))
    ≡ sum_of (λ l. block_product (blocks l) (powers l)) (sixteens * parts)
all_products sixteens parts powers blocks tables left right octets low high are small is_left is_right is_block
    within held =
    beyond_sum low high sixteens
    ∙ sum_equal (λ g. with_beyond (low g) (high g))
    (λ g. sum_of (λ p. block_product (blocks (sixteens * p + g)) (powers (sixteens * p + g))) parts) sixteens
    (λ g h. held g h
    ∙ sixteen_products sixteens parts powers blocks tables left right octets g h are small (λ p j k l. is_left p g j k
    h l) (λ p j k l. is_right p g j k h l) (λ p j k l. is_block p g j k h l) (λ p k. within p g k h))
    ∙ sum_of_parts (λ l. block_product (blocks l) (powers l)) sixteens parts

-- ---- the loop

pub none_yet : (low high : ℕ → ℕ) (f : ℕ → ℕ) → ((j : ℕ) → j < 16 → low j ≡ 0) → ((j : ℕ) → j < 16 → high j ≡ 0)
    → with_beyond low high ≡ stepped f 0
unfolding with_beyond stepped sum_of
none_yet low high f l h =
    let none : times_power 128 0 ≡ 0 = sum-map (times_power 128) (times_power-xor 128) (λ k. 0) 0 in
    ap₂ (λ (a b : ℕ). bit_xor a (times_power 128 b)) (block_equal low (λ j. 0) l ∙ block_none)
    (block_equal high (λ j. 0) h ∙ block_none)
    ∙ ap (bit_xor 0) none

stepped_next : (f : ℕ → ℕ) (k : ℕ) → stepped f (k + 1) ≡ bit_xor (times_power 8 (stepped f k)) (f (15 - k))
unfolding stepped
stepped_next f k =
    let e : k + 1 ≡ suc k = omega arith in
    ap (stepped f) e

pub step_taken : (low high low2 high2 left right : ℕ → ℕ) (f : ℕ → ℕ) (k : ℕ) → k < 16
    → ((j : ℕ) → j < 16
    → low2 j ≡ bit_xor (pushed 0 (λ i. bit_xor (low i) (right i % 16 * 16)) j) (bit_xor (left j) (right j / 16)))
    → ((j : ℕ) → j < 16 → high2 j ≡ pushed (bit_xor (low 15) (right 15 % 16 * 16)) high j)
    → ((j : ℕ) → j < 16 → k ≤ j → high j ≡ 0)
    → with_beyond low high ≡ stepped f k
    → f (15 - k) ≡ bit_xor (block_of_octets left) (times_power 4 (block_of_octets right))
    → with_beyond low2 high2 ≡ stepped f (k + 1)
step_taken low high low2 high2 left right f k h l2 h2 tail held is =
    beyond_equal low2 high2 _ _ l2 h2 ∙ one_step low high left right (tail 15 (omega arith) (omega arith))
    ∙ ap₂ (λ (a b : ℕ). bit_xor (times_power 8 a) b) held (sym is) ∙ sym (stepped_next f k)

pub tail_taken : (high high2 : ℕ → ℕ) (x k : ℕ) → ((j : ℕ) → j < 16 → high2 j ≡ pushed x high j)
    → ((j : ℕ) → j < 16 → k ≤ j → high j ≡ 0)
    → (j : ℕ) → j < 16 → k + 1 ≤ j → high2 j ≡ 0
unfolding pushed
tail_taken high high2 x k h2 tail zero h l = absurd (omega arith)
tail_taken high high2 x k h2 tail (suc j) h l = h2 (suc j) h ∙ tail j (omega arith) (omega arith)

-- ---- lists that are filled from the front

pub part_more : {A : Type 0} (P : ℕ → A → Type 0) (d : A) (xs : List A) (i : ℕ) (v : A) → i < length xs
    → ((k : ℕ) → k < i → P k (get_or xs k d)) → P i v
    → (k : ℕ) → k < i + 1 → P k (get_or (set xs i v) k d)
part_more P d xs i v within held is k h = elim (cases_lt k i) [
  | inl lt ↦ rw (get_or-set_other xs i k v d (omega arith)) (held k lt)
  | inr ge ↦
      let same : k ≡ i = omega arith in
      rw same (rw (get_or-set_same xs i v d within) is)
]

-- tables of the same powers
pub of_same_powers : (sixteens parts : ℕ) (f g : ℕ → ℕ) (tables : List (List (List ℕ)))
    → ((l : ℕ) → l < sixteens * parts → f l ≡ g l)
    → ((p i : ℕ) → p < parts → i < sixteens → sixteens * p + i < sixteens * parts) → AreTables sixteens parts f tables
    → AreTables sixteens parts g tables
of_same_powers sixteens parts f g tables same within are = record {
  small = λ l h. subst (λ (v : ℕ). v < 2 ^ 128) (same l h) (are.small l h);
  each = λ b p i n h k l m. are.each b p i n h k l m
      ∙ ap (λ (v : ℕ). octet_from_left (nibble_product n v) b) (same (sixteens * p + i) (within p i k l));
}
