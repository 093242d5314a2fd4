-- The product of blocks, one bit of the first factor at a time.
use Rattle.std.proofs.Common.{◌≡◌, ℕ, ◌+◌, bit_xor, refl, add-one}
use Rattle.macs_gf.specs.Gf128.{block_bit, block_product_below, times_power, times_x}
use Rattle.macs_gf.proofs.Xor.{chosen_one, chosen_zero}

-- x^0 times a block
pub power_first : (b : ℕ) → b ≡ times_power 0 b
unfolding times_power
power_first b = refl

-- one more power of x
pub power_next : (i b : ℕ) → times_power (i + 1) b ≡ times_x (times_power i b)
unfolding times_power
power_next i b = rw add-one refl

-- no bit taken yet
pub product_first : (a b : ℕ) → 0 ≡ block_product_below a b 0
unfolding block_product_below
product_first a b = refl

-- a bit that is 1 adds the multiple
pub product_next_one : (a b i : ℕ) → block_bit a i ≡ 1
    → block_product_below a b (i + 1) ≡ bit_xor (block_product_below a b i) (times_power i b)
unfolding block_product_below
product_next_one a b i bit = rw (add-one, bit) (chosen_one (block_product_below a b i) (times_power i b))

-- a bit that is 0 adds nothing
pub product_next_zero : (a b i : ℕ) → block_bit a i ≡ 0 → block_product_below a b (i + 1) ≡ block_product_below a b i
unfolding block_product_below
product_next_zero a b i bit = rw (add-one, bit) (chosen_zero (block_product_below a b i) (times_power i b))
