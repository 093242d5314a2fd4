-- From each octet to each block.
use Rattle.std.proofs.Common.{◌≡◌, ℕ, zero, suc, ◌+◌, ◌*◌, ◌<◌, ◌≤◌, List, [], ◌∷◌, map, get_or, length}
use Rattle.std.proofs.Common.{bit_xor, refl, ap, ap₂, sym, ◌∙◌, arith, ◌^◌}
use lib.Bits.{xor_assoc}
use Rattle.std.specs.List.{range_with_len}
use Rattle.std.specs.Int.{bit_at}
use Rattle.std.proofs.lemmas.List.FromFn.{get_or-map-range_with_len}
use Rattle.macs_gf.specs.Gf256.{octet_product, aes_modulus}
use Rattle.macs_gf.specs.Polynomial.{product_below, remainder}
use Rattle.macs_gf.proofs.Division.{remainder-xor}
use Rattle.macs_gf.proofs.Xor.{bit_at_xor_product, xor_middle}
use Rattle.macs_aes.specs.Cipher.{mix_columns, mixed_octet, shift_rows, sub_bytes}
use Rattle.macs_aes.specs.SBox.{s_box}
use Rattle.macs_aes.specs.Blocks.{bit_in, block_in, blocks_in, octet, octet_basis, octet_in}
use Rattle.macs_aes.specs.BlockSteps.{AreBlocks}
use Rattle.macs_aes.specs.Rows.{below, shifted}
use Rattle.macs_aes.proofs.Circuit.{octet_of}
use Rattle.macs_aes.proofs.Inverse.{octet_small}

pub map_same : {X : Type 0} (f g : ℕ → X) (a n : ℕ) → ((k : ℕ) → a ≤ k → k < a + n → f k ≡ g k)
    → map f (range_with_len a n) ≡ map g (range_with_len a n)
map_same f g a zero h = refl
map_same f g a (suc n) h = ap₂ (λ x xs. x ∷ xs) (h a (omega arith) (omega arith))
    (map_same f g (a + 1) n (λ k l u. h k (omega arith) (omega arith)))

pub map_map : {X Y : Type 0} (g : X → Y) (f : ℕ → X) (a n : ℕ)
    → map g (map f (range_with_len a n)) ≡ map (λ k. g (f k)) (range_with_len a n)
map_map g f a zero = refl
map_map g f a (suc n) = ap (λ xs. g (f a) ∷ xs) (map_map g f (a + 1) n)

-- the planes' blocks are blocks
pub planes_blocks : (lanes : ℕ) (planes blocks : List (List ℕ)) → length planes ≡ 8
    → blocks_in lanes octet_basis planes ≡ blocks → AreBlocks lanes blocks
unfolding blocks_in block_in
planes_blocks lanes planes blocks len e = record {
  whole =
      sym e ∙ map_same (block_in octet_basis planes) (λ i. map (octet blocks i) (range_with_len 0 16)) 0 lanes
      (λ i l u. map_same (octet_in octet_basis planes i) (octet blocks i) 0 16
      (λ j l2 u2. sym (octet_of lanes octet_basis planes i j (omega arith) (omega arith)) ∙ ap (λ b. octet b i j) e));
  small = λ i j h k.
      let same : octet blocks i j ≡ octet_in octet_basis planes i j = ap (λ b. octet b i j) (sym e)
      ∙ octet_of lanes octet_basis planes i j h k in
      let small : octet_in octet_basis planes i j < 256 = octet_small planes i j len in
      omega arith;
}

-- a step that makes each octet from those of its block
pub each_block : (lanes : ℕ) (step : List ℕ → List ℕ) (f : (ℕ → ℕ) → ℕ → ℕ) (new old : List (List ℕ))
    → AreBlocks lanes new → AreBlocks lanes old
    → ((g : ℕ → ℕ) → map (f g) (range_with_len 0 16) ≡ step (map g (range_with_len 0 16)))
    → ((i j : ℕ) → i < lanes → j < 16 → octet new i j ≡ f (octet old i) j) → new ≡ map step old
each_block lanes step f new old n o is each =
    n.whole
    ∙ map_same (λ i. map (octet new i) (range_with_len 0 16))
    (λ i. step (map (octet old i) (range_with_len 0 16))) 0 lanes
    (λ i l u. map_same (octet new i) (f (octet old i)) 0 16 (λ j l2 u2. each i j (omega arith) (omega arith))
    ∙ is (octet old i))
    ∙ sym (map_map step (λ i. map (octet old i) (range_with_len 0 16)) 0 lanes) ∙ ap (map step) (sym o.whole)

pub sub_bytes_is : (g : ℕ → ℕ) → map (λ j. s_box (g j)) (range_with_len 0 16) ≡ sub_bytes (map g (range_with_len 0 16))
sub_bytes_is g = refl

pub shift_rows_is : (g : ℕ → ℕ)
    → map (λ j. g (shifted j)) (range_with_len 0 16) ≡ shift_rows (map g (range_with_len 0 16))
unfolding shifted
shift_rows_is g = refl

pub mix_columns_is : (g : ℕ → ℕ) → map (λ j. mixed_octet (g j) (g (below 1 j)) (g (below 2 j)) (g (below 3 j)))
    (range_with_len 0 16) ≡ mix_columns (map g (range_with_len 0 16))
unfolding below
mix_columns_is g = refl

pub shifted-lt : (j : ℕ) → j < 16 → shifted j < 16
unfolding shifted
shifted-lt j h = omega arith

pub below-lt : (n j : ℕ) → j < 16 → below n j < 16
unfolding below
below-lt n j h = omega arith

pub below_next : (j : ℕ) → j < 16 → below 1 (below 2 j) ≡ below 3 j
unfolding below
below_next j h = omega arith

-- ---- a column mixed_octet

product_below-xor : (a u v n : ℕ)
    → product_below a (bit_xor u v) n ≡ bit_xor (product_below a u n) (product_below a v n)
unfolding product_below
product_below-xor a u v zero = refl
product_below-xor a u v (suc n) =
    ap₂ bit_xor (product_below-xor a u v n) (bit_at_xor_product u v n (a * 2 ^ n))
    ∙ xor_middle (product_below a u n) (product_below a v n) (bit_at u n * (a * 2 ^ n)) (bit_at v n * (a * 2 ^ n))

pub product-xor : (a u v : ℕ) → octet_product a (bit_xor u v) ≡ bit_xor (octet_product a u) (octet_product a v)
unfolding octet_product
product-xor a u v = ap (λ (p : ℕ). remainder aes_modulus p 8) (product_below-xor a u v 8)
    ∙ remainder-xor aes_modulus (product_below a u 8) (product_below a v 8) 8

thrice_values : map (λ b. octet_product 3 b) (range_with_len 0 256)
    ≡ map (λ b. bit_xor (octet_product 2 b) b) (range_with_len 0 256)
unfolding octet_product product_below remainder
thrice_values = refl

thrice : (b : ℕ) → b < 256 → octet_product 3 b ≡ bit_xor (octet_product 2 b) b
thrice b h =
    sym (get_or-map-range_with_len (λ n. octet_product 3 n) 0 256 b b 0 h (omega arith))
    ∙ ap (λ t. get_or t b 0) thrice_values
    ∙ get_or-map-range_with_len (λ n. bit_xor (octet_product 2 n) n) 0 256 b b 0 h (omega arith)

pub mixed_is : (a b c d : ℕ) → b < 256
    → bit_xor (bit_xor (octet_product 2 (bit_xor a b)) b) (bit_xor c d) ≡ mixed_octet a b c d
mixed_is a b c d h =
    ap (λ (t : ℕ). bit_xor (bit_xor t b) (bit_xor c d)) (product-xor 2 a b)
    ∙ ap (λ (t : ℕ). bit_xor t (bit_xor c d))
    (xor_assoc (octet_product 2 a) (octet_product 2 b) b ∙ ap (bit_xor (octet_product 2 a)) (sym (thrice b h)))
    ∙ sym (xor_assoc (bit_xor (octet_product 2 a) (octet_product 3 b)) c d)

-- ---- eight planes with the same bits elsewhere
pub same_eight : (a0 a1 a2 a3 a4 a5 a6 a7 b0 b1 b2 b3 b4 b5 b6 b7 : List ℕ) (i j k : ℕ)
    → bit_in a0 i j ≡ bit_in b0 i k → bit_in a1 i j ≡ bit_in b1 i k → bit_in a2 i j ≡ bit_in b2 i k
    → bit_in a3 i j ≡ bit_in b3 i k
    → bit_in a4 i j ≡ bit_in b4 i k → bit_in a5 i j ≡ bit_in b5 i k → bit_in a6 i j ≡ bit_in b6 i k
    → bit_in a7 i j ≡ bit_in b7 i k
    → octet_in octet_basis (a0 ∷ a1 ∷ a2 ∷ a3 ∷ a4 ∷ a5 ∷ a6 ∷ a7 ∷ []) i j
    ≡ octet_in octet_basis (b0 ∷ b1 ∷ b2 ∷ b3 ∷ b4 ∷ b5 ∷ b6 ∷ b7 ∷ []) i k
same_eight a0 a1 a2 a3 a4 a5 a6 a7 b0 b1 b2 b3 b4 b5 b6 b7 i j k e0 e1 e2 e3 e4 e5 e6 e7 = cc
