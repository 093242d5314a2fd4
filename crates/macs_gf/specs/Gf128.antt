-- The field of 2^128 elements of GHASH (SP 800-38D, 6.3): a block is a number below 2 ^ 128, whose
-- leftmost bit, bit 0, is the coefficient of x^0.
use Rattle.std.specs.Prelude.{ℕ, zero, suc, ◌-◌, ◌*◌, ◌/◌, ◌%◌, ◌^◌, bit_xor}
use Rattle.std.specs.Int.{bit_at}

-- bit i of a block, counted from the left
abbrev pub block_bit : ℕ → ℕ → ℕ
block_bit a i = bit_at a (127 - i)

-- R: the octet E1 and 15 zero octets
abbrev pub reduction : ℕ
reduction = 0xE1 * 2 ^ 120

-- x * v: a shift to the right, with R added if the bit shifted out was 1 (algorithm 1, step 3: the next V from V)
abbrev pub times_x : ℕ → ℕ
times_x v = bit_xor (v / 2) (v % 2 * reduction)

-- x^i * v
unfoldable pub times_power : ℕ → ℕ → ℕ
times_power zero v = v
times_power (suc i) v = times_x (times_power i v)

-- the sum of those x^i * b, i below n, for which bit i of a is 1
unfoldable pub block_product_below : ℕ → ℕ → ℕ → ℕ
block_product_below a b zero = 0
block_product_below a b (suc i) = bit_xor (block_product_below a b i) (block_bit a i * times_power i b)

-- the product of two blocks (algorithm 1)
abbrev pub block_product : ℕ → ℕ → ℕ
block_product a b = block_product_below a b 128
