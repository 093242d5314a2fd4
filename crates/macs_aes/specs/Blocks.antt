-- Blocks in planes of bits. A plane has a lane for each block: bit j of lane i of a plane belongs to
-- octet j of block i.
use Rattle.std.specs.Prelude.{◌≡◌, ℕ, ◌*◌, List, [], ◌∷◌, map, get_or, length, replicate, slice_index, bit_xor}
use Rattle.std.specs.List.{range_with_len}
use Rattle.std.specs.Int.{bit_at}

-- bit j of lane i
unfoldable pub bit_in : List ℕ → ℕ → ℕ → ℕ
bit_in plane i j = bit_at (get_or plane i 0) j

-- the xor of those elements of the basis whose bit is 1
unfoldable pub combined : List ℕ → List ℕ → ℕ
combined [] bits = 0
combined (e ∷ basis) [] = 0
combined (e ∷ basis) (b ∷ bits) = bit_xor (b * e) (combined basis bits)

-- the bits of octet j of block i, one of each plane
abbrev pub bits_in : List (List ℕ) → ℕ → ℕ → List ℕ
bits_in planes i j = map (λ p. bit_in p i j) planes

-- octet j of block i, where plane k counts element k of the basis
abbrev pub octet_in : List ℕ → List (List ℕ) → ℕ → ℕ → ℕ
octet_in basis planes i j = combined basis (bits_in planes i j)

-- the sixteen octets of block i
unfoldable pub block_in : List ℕ → List (List ℕ) → ℕ → List ℕ
block_in basis planes i = map (octet_in basis planes i) (range_with_len 0 16)

-- the blocks of planes of this many lanes
unfoldable pub blocks_in : ℕ → List ℕ → List (List ℕ) → List (List ℕ)
blocks_in lanes basis planes = map (block_in basis planes) (range_with_len 0 lanes)

-- the bits of an octet, the lowest first
abbrev pub octet_basis : List ℕ
octet_basis = 0x01 ∷ 0x02 ∷ 0x04 ∷ 0x08 ∷ 0x10 ∷ 0x20 ∷ 0x40 ∷ 0x80 ∷ []

-- w z, w^2 z, w z^4 and w^2 z^4, where w is a root of x^2 + x + 1 and z one of x^2 + x + w: the sums of these are the
-- subfield of sixteen elements
abbrev pub subfield_basis : List ℕ
subfield_basis = 0xb0 ∷ 0xec ∷ 0x0c ∷ 0x51 ∷ []

-- octet j of block i
abbrev pub octet : List (List ℕ) → ℕ → ℕ → ℕ
octet blocks i j = slice_index (get_or blocks i []) j

-- each plane has this many lanes
abbrev pub ArePlanes : ℕ → List (List ℕ) → Type 0
ArePlanes lanes [] = Unit {0}
ArePlanes lanes (p ∷ planes) = (length p ≡ lanes) × ArePlanes lanes planes

-- a plane of zeros
unfoldable pub zeros : ℕ → List ℕ
zeros lanes = replicate lanes 0
