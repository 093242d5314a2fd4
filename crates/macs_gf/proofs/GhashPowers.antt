-- Blocks absorbed side by side, each under its own power of the hash subkey.
use Rattle.std.proofs.Common.{◌≡◌, ℕ, zero, suc, ◌^◌, ◌<◌, List, [], ◌∷◌, length, bit_xor, ap, sym, ◌∙◌, lit<}
use lib.Bits.{xor_assoc, xor_zero_r}
use Rattle.macs_gf.specs.Gf128.{block_product}
use Rattle.macs_gf.specs.Ghash.{absorb, ghash, ghash_from, subkey_power}
use Rattle.macs_gf.proofs.BlockField.{one, product-assoc, product-lt, product-one, product-xor_left}

-- a power of the hash subkey is a block
pub key_power-lt : (h n : ℕ) → h < 2 ^ 128 → subkey_power h n < 2 ^ 128
unfolding subkey_power
key_power-lt h zero k = lit< tt
key_power-lt h (suc n) k = product-lt h (subkey_power h n) (key_power-lt h n k)

-- a state times the one
times_one : (y : ℕ) → y < 2 ^ 128 → block_product y (2 ^ 127) ≡ y
unfolding one
times_one y k = product-one y k

-- the state y before the blocks goes through with the power that counts them
pub ghash_split : (h y : ℕ) (blocks : List ℕ) → h < 2 ^ 128 → y < 2 ^ 128
    → ghash_from h y blocks ≡ bit_xor (block_product y (subkey_power h (length blocks))) (ghash h blocks)
unfolding subkey_power
ghash_split h y [] k l = sym (ap (λ (v : ℕ). bit_xor v 0) (times_one y l) ∙ xor_zero_r y)
ghash_split h y (b ∷ blocks) k l =
    let n : ℕ = length blocks in
    let rest : ℕ = ghash h blocks in
    let p : ℕ = subkey_power h n in
    let from_y : ghash_from h (absorb h y b) blocks ≡ bit_xor (block_product (absorb h y b) p) rest =
    ghash_split h (absorb h y b) blocks k (product-lt (bit_xor y b) h k) in
    let from_zero : ghash_from h (absorb h 0 b) blocks ≡ bit_xor (block_product (absorb h 0 b) p) rest =
    ghash_split h (absorb h 0 b) blocks k (product-lt (bit_xor 0 b) h k) in
    let apart : block_product (absorb h y b) p
    ≡ bit_xor (block_product (block_product y h) p) (block_product (absorb h 0 b) p) =
    ap (λ (v : ℕ). block_product v p) (product-xor_left 128 y b h)
    ∙ product-xor_left 128 (block_product y h) (block_product b h) p in
    let grouped : block_product (block_product y h) p ≡ block_product y (subkey_power h (suc n)) =
    product-assoc y h p k (key_power-lt h n k) in
    from_y ∙ ap (λ (v : ℕ). bit_xor v rest) (apart ∙ ap (λ (v : ℕ). bit_xor v (block_product (absorb h 0 b) p)) grouped)
    ∙ xor_assoc (block_product y (subkey_power h (suc n))) (block_product (absorb h 0 b) p) rest
    ∙ ap (bit_xor (block_product y (subkey_power h (suc n)))) (sym from_zero)
