-- Bits of vectors, crossed.
use Rattle.std.specs.Prelude.{◌≡◌, ◌<◌, ◌+◌, ◌-◌, ◌*◌, ◌/◌, ◌%◌, ℕ, List, get_or}
use Rattle.macs_aes.specs.Blocks.{bit_in, zeros}

-- a number with another one's bit of weight d, a power of two
abbrev pub with_bit : ℕ → ℕ → ℕ → ℕ
with_bit d n m = n - n / d % 2 * d + m / d % 2 * d

-- x is vector k of the vectors xs, where the number of a vector and the place of a bit have exchanged their bits of
-- weight d
abbrev pub IsExchanged : ℕ → ℕ → ℕ → List (List ℕ) → List ℕ → Type 0
IsExchanged lanes d k xs x = (i j : ℕ) → i < lanes → j < 16
    → bit_in x i j ≡ bit_in (get_or xs (with_bit d k j) (zeros lanes)) i (with_bit d j k)

-- x is vector k of the vectors xs, crossed: bit m of each half of a lane is bit k of the same half in vector m. Bit j
-- of a lane is bit m = j % 8 of its half j / 8
abbrev pub IsCrossed : ℕ → ℕ → List (List ℕ) → List ℕ → Type 0
IsCrossed lanes k xs x = (i j : ℕ) → i < lanes → j < 16
    → bit_in x i j ≡ bit_in (get_or xs (j % 8) (zeros lanes)) i (8 * (j / 8) + k)
