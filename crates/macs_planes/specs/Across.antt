-- Blocks across the lanes of planes. A word of 16 bits of a plane has two octets, the first in its lower half. Bit n of
-- octet 16 g + j belongs to octet j of block 8 g + n.
use Rattle.std.specs.Prelude.{◌≡◌, ◌<◌, ◌≤◌, ℕ, zero, suc, ◌+◌, ◌*◌, ◌/◌, ◌%◌, ◌^◌, List, [], map, get_or, slice_index}
use Rattle.std.specs.List.{range_with_len}
use Rattle.macs_aes.specs.Cipher.{round_key, shift_rows}
use Rattle.macs_aes.specs.KeyExpansion.{key_words, rounds_of}
use Rattle.macs_aes.specs.Blocks.{ArePlanes, blocks_in, octet, octet_basis}

-- octet m of words
abbrev pub octet_of_words : List ℕ → ℕ → ℕ
octet_of_words words m = get_or words (m / 2) 0 / 2 ^ (8 * (m % 2)) % 256

-- what bits n of octets m of the planes make up, where rows are the blocks within the lanes
abbrev pub octet_at : List (List ℕ) → ℕ → ℕ → ℕ
octet_at rows m n = octet rows (m / 2) (8 * (m % 2) + n)

-- octet j of block n
abbrev pub octet_across : List (List ℕ) → ℕ → ℕ → ℕ
octet_across rows n j = octet_at rows (16 * (n / 8) + j) (n % 8)

-- block n
unfoldable pub block_across : List (List ℕ) → ℕ → List ℕ
block_across rows n = map (octet_across rows n) (range_with_len 0 16)

-- as many blocks as there are lanes
unfoldable pub blocks_across : ℕ → List (List ℕ) → List (List ℕ)
blocks_across lanes rows = map (block_across rows) (range_with_len 0 lanes)

-- ---- rows that ShiftRows has not turned yet

-- ShiftRows applied to a block this many times
unfoldable pub turned : ℕ → List ℕ → List ℕ
turned zero block = block
turned (suc n) block = shift_rows (turned n block)

-- the place n rows below j in its column, in a block whose rows must still be turned t times
unfoldable pub row_below : ℕ → ℕ → ℕ → ℕ
row_below t n j = (j % 4 + n) % 4 + 4 * ((j / 4 + t * n) % 4)

-- where the octet at j is taken from, so that t turns bring it back
unfoldable pub place_back : ℕ → ℕ → ℕ
place_back t j = j % 4 + 4 * ((j / 4 + 3 * t * (j % 4)) % 4)

-- the block that t turns map to the given one
unfoldable pub turned_back : ℕ → List ℕ → List ℕ
turned_back t block = map (λ j. slice_index block (place_back t j)) (range_with_len 0 16)

-- ---- round keys

-- planes of which each block is the key
pub record IsKeyPlanes (lanes : ℕ) (key : List ℕ) (planes : List (List ℕ)) : Type 0 where
  pub are : ArePlanes lanes planes
  pub octets : (m n : ℕ) → m < 2 * lanes → n < 8
      → octet_at (blocks_in lanes octet_basis planes) m n ≡ slice_index key (m % 16)

-- the planes of the round keys of a key, eleven or fifteen; the rows of that of round i must still be turned i times
pub record AreKeyPlanes (lanes : ℕ) (key : List ℕ) (keys : List (List (List ℕ))) : Type 0 where
  pub each : (i : ℕ) → i ≤ rounds_of key
      → IsKeyPlanes lanes (turned_back (i % 4) (round_key (key_words key) i)) (get_or keys i [])
