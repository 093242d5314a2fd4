-- Numbers with a maximum: packet numbers and counters.
use Rattle.std.specs.Prelude.{◌+◌, ◌-◌, ◌^◌, ℕ, min}

-- a block beyond a number, limited to the range of packet numbers
abbrev pub block_beyond : ℕ → ℕ → ℕ
block_beyond number block = min (number + block) (2 ^ 32)

-- one more, up to 2^64 - 1
abbrev pub one_more : ℕ → ℕ
one_more count = min (count + 1) (2 ^ 64 - 1)
