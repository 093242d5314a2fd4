-- The S-box of an octet by the tower.
use Rattle.std.proofs.Common.{◌≡◌, ℕ, ◌^◌, ◌<◌, ◌%◌, List, map, get_or, length, refl, ap, sym, ◌∙◌, true, arith}
use Rattle.std.proofs.Common.{bit_xor}
use Rattle.std.specs.List.{range_with_len}
use Rattle.std.proofs.lemmas.List.FromFn.{get_or-map-range_with_len}
use Rattle.macs_gf.specs.Gf256.{octet_product}
use Rattle.macs_gf.specs.Polynomial.{product_below, remainder}
use Rattle.macs_gf.proofs.OctetInverse.{inverse-power_254, ones_power, power_254, squared}
use Rattle.macs_aes.specs.SBox.{affine_bit, from_bits, s_box}
use Rattle.macs_aes.specs.Blocks.{bits_in, combined, octet_basis, octet_in}
use Rattle.macs_aes.specs.Tower.{affine, fourteenth, high_of, low_of, tower_root, tower_unit}
use Rattle.macs_aes.proofs.Circuit.{agree, agreed, are_bits, bits_in_length}

-- u + v
both_of : ℕ → ℕ
both_of x = bit_xor (high_of x) (low_of x)

-- x^17
norm_of : ℕ → ℕ
norm_of x =
    bit_xor (octet_product (low_of x) (both_of x)) (octet_product tower_unit (octet_product (high_of x) (high_of x)))

by_tower : ℕ → ℕ
by_tower x =
    affine (bit_xor (octet_product (both_of x) (fourteenth (norm_of x)))
    (octet_product tower_root (bit_xor (octet_product (both_of x) (fourteenth (norm_of x)))
    (octet_product (low_of x) (fourteenth (norm_of x))))))

-- the S-box by the power 254 in place of the inverse
s_box_by_power : ℕ → ℕ
s_box_by_power x = from_bits (affine_bit (power_254 x)) 8

-- the same at each octet
values_are : map by_tower (range_with_len 0 256) ≡ map s_box_by_power (range_with_len 0 256)
unfolding by_tower fourteenth norm_of both_of low_of high_of affine s_box_by_power power_254 ones_power squared
    octet_product product_below remainder
values_are = refl

by_power-is : (x : ℕ) → x < 2 ^ 8 → s_box_by_power x ≡ s_box x
unfolding s_box s_box_by_power
by_power-is x h = ap (λ (b : ℕ). from_bits (affine_bit b) 8) (sym (inverse-power_254 x h))

by_tower-is : (x : ℕ) → x < 256 → by_tower x ≡ s_box x
by_tower-is x h =
    sym (get_or-map-range_with_len by_tower 0 256 x x 0 h (omega arith))
    ∙ ap (λ t. get_or t x 0) values_are
    ∙ get_or-map-range_with_len s_box_by_power 0 256 x x 0 h (omega arith) ∙ by_power-is x h

-- the steps of the code, one after another
pub tower_steps : (x u v w q p n m e f z : ℕ) → x < 256 → u ≡ high_of x → v ≡ low_of x → w ≡ bit_xor u v
    → q ≡ octet_product tower_unit (octet_product u u) → p ≡ octet_product v w → n ≡ bit_xor p q
    → m ≡ fourteenth n → e ≡ octet_product w m → f ≡ octet_product v m
    → z ≡ affine (bit_xor e (octet_product tower_root (bit_xor e f))) → z ≡ s_box x
unfolding by_tower norm_of both_of
tower_steps x u v w q p n m e f z h eu ev ew eq ep en em ee ef ez =
    let whole = by_tower-is x h in
    cc

-- an octet of eight planes is one
eight_small : agree 8 (λ v. combined octet_basis v) (λ v. combined octet_basis v % 256) ≡ true
unfolding agree combined
eight_small = refl

pub octet_small : (planes : List (List ℕ)) (i j : ℕ) → length planes ≡ 8 → octet_in octet_basis planes i j < 256
octet_small planes i j len =
    let e : combined octet_basis (bits_in planes i j) ≡ combined octet_basis (bits_in planes i j) % 256 =
    agreed 8 (λ v. combined octet_basis v) (λ v. combined octet_basis v % 256) eight_small (bits_in planes i j)
    (bits_in_length planes i j ∙ len) (are_bits planes i j) in
    omega arith
