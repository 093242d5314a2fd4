-- One bit of each octet.
use Rattle.std.specs.Prelude.{◌≡◌, ◌<◌, ℕ, List, length, slice_index, bit_and, if◌then◌else◌, ◌==◌}
use Rattle.macs_aes.specs.Blocks.{bit_in, octet}

-- 1 where an octet has the bit of a mask
abbrev pub tested : ℕ → ℕ → ℕ
tested mask x = if bit_and x mask == mask then 1 else 0

-- bit j of lane i: whether octet j of block i has the bit of a mask
abbrev pub HasBits : ℕ → ℕ → List (List ℕ) → List ℕ → Type 0
HasBits lanes mask blocks x = (i j : ℕ) → i < lanes → j < 16 → bit_in x i j ≡ tested mask (octet blocks i j)

-- sixteen octets
abbrev pub IsBlock : List ℕ → Type 0
IsBlock octets = (length octets ≡ 16) × ((j : ℕ) → slice_index octets j < 256)
