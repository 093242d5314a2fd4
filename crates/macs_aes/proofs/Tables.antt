-- The circuits on the bits of one octet, at each octet.
use Rattle.std.proofs.Common.{◌≡◌, ℕ, List, [], ◌∷◌, ◌++◌, take, drop, refl, true, bit_xor}
use Rattle.macs_gf.specs.Gf256.{octet_product}
use Rattle.macs_gf.specs.Polynomial.{product_below, remainder}
use Rattle.macs_aes.specs.Blocks.{combined, octet_basis, subfield_basis}
use Rattle.macs_aes.specs.Tower.{affine, fourteenth, high_of, low_of, tower_root, tower_unit}
use Rattle.macs_aes.proofs.Circuit.{agree, bit_circuit, bit_gate, bit_pick, bit_run}
use Rattle.macs_aes.proofs.Gates.{affine_of_gates, affine_of_outputs, high_gates, high_outputs, inverse_gates}
use Rattle.macs_aes.proofs.Gates.{inverse_outputs, low_gates, low_outputs, scaled_gates, scaled_outputs}
use Rattle.macs_aes.proofs.Gates.{product_gates, product_outputs, twice_gates, twice_outputs}

unfoldable pub product_of : List ℕ → ℕ
product_of v = octet_product (combined subfield_basis (take 4 v)) (combined subfield_basis (drop 4 v))

pub product_agrees : agree 8 (λ v. combined subfield_basis (bit_circuit product_gates product_outputs v))
    product_of ≡ true
unfolding agree combined bit_circuit bit_gate bit_pick bit_run product_gates product_outputs product_of octet_product
    product_below remainder
product_agrees = refl

unfoldable pub inverse_of : List ℕ → ℕ
inverse_of v = fourteenth (combined subfield_basis v)

pub inverse_agrees : agree 4 (λ v. combined subfield_basis (bit_circuit inverse_gates inverse_outputs v))
    inverse_of ≡ true
unfolding agree combined bit_circuit bit_gate bit_pick bit_run inverse_gates inverse_outputs inverse_of fourteenth
    octet_product product_below remainder
inverse_agrees = refl

unfoldable pub twice_of : List ℕ → ℕ
twice_of v = octet_product 2 (combined octet_basis v)

pub twice_agrees : agree 8 (λ v. combined octet_basis (bit_circuit twice_gates twice_outputs v)) twice_of ≡ true
unfolding agree combined bit_circuit bit_gate bit_pick bit_run twice_gates twice_outputs twice_of octet_product
    product_below remainder
twice_agrees = refl

unfoldable pub scaled_of : List ℕ → ℕ
scaled_of v = octet_product tower_unit (octet_product (combined subfield_basis v) (combined subfield_basis v))

pub scaled_agrees : agree 4 (λ v. combined subfield_basis (bit_circuit scaled_gates scaled_outputs v)) scaled_of ≡ true
unfolding agree combined bit_circuit bit_gate bit_pick bit_run scaled_gates scaled_outputs scaled_of octet_product
    product_below remainder
scaled_agrees = refl

unfoldable pub high_in : List ℕ → ℕ
high_in v = high_of (combined octet_basis v)

pub high_agrees : agree 8 (λ v. combined subfield_basis (bit_circuit high_gates high_outputs v)) high_in ≡ true
unfolding agree combined bit_circuit bit_gate bit_pick bit_run high_gates high_outputs high_in high_of octet_product
    product_below remainder
high_agrees = refl

unfoldable pub low_in : List ℕ → ℕ
low_in v = low_of (combined octet_basis v)

pub low_agrees : agree 8 (λ v. combined subfield_basis (bit_circuit low_gates low_outputs v)) low_in ≡ true
unfolding agree combined bit_circuit bit_gate bit_pick bit_run low_gates low_outputs low_in low_of high_of octet_product
    product_below remainder
low_agrees = refl

unfoldable pub affine_in : List ℕ → ℕ
affine_in v = affine (bit_xor (combined subfield_basis (take 4 v))
    (octet_product tower_root (bit_xor (combined subfield_basis (take 4 v)) (combined subfield_basis (drop 4 v)))))

pub affine_agrees : agree 8 (λ v. combined octet_basis (bit_circuit affine_of_gates affine_of_outputs (v ++ 1 ∷ [])))
    affine_in ≡ true
unfolding agree combined bit_circuit bit_gate bit_pick bit_run affine_of_gates affine_of_outputs affine_in affine
    octet_product product_below remainder
affine_agrees = refl
