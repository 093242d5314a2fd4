-- GHASH (SP 800-38D, 6.4) on blocks as numbers, and the string that GCM hashes (7.1, steps 4 and 5).
use Rattle.std.specs.Prelude.{ℕ, zero, suc, ◌+◌, ◌-◌, ◌*◌, ◌/◌, ◌%◌, ◌^◌, List, ◌++◌, bit_xor, fold, length, map}
use Rattle.std.specs.Prelude.{replicate, slice_range}
use Rattle.std.specs.Int.{w64, w128, from_be_bytes, to_be_bytes}
use Rattle.std.specs.List.{range_with_len}
use Rattle.macs_gf.specs.Gf128.{block_product}

-- one more block absorbed with the hash subkey h: the state y becomes (y + block) * h (algorithm 2, step 3)
abbrev pub absorb : ℕ → ℕ → ℕ → ℕ
absorb h y block = block_product (bit_xor y block) h

-- the blocks absorbed one after another, from the state y
abbrev pub ghash_from : ℕ → ℕ → List ℕ → ℕ
ghash_from h y blocks = fold (absorb h) y blocks

-- GHASH of the blocks, from the zero block (algorithm 2)
abbrev pub ghash : ℕ → List ℕ → ℕ
ghash h blocks = ghash_from h 0 blocks

-- the hash subkey h to the power n, where h^0 is the one: the block whose only set bit is bit 0
unfoldable pub subkey_power : ℕ → ℕ → ℕ
subkey_power h zero = 2 ^ 127
subkey_power h (suc n) = block_product h (subkey_power h n)

-- a string followed by zero octets up to a whole number of blocks of 16 octets (7.1, step 4)
abbrev pub padded_string : List ℕ → List ℕ
padded_string octets = octets ++ replicate ((16 - length octets % 16) % 16) 0

-- block i of a string, as a number: its octets 16 i to 16 i + 15, the most significant first
abbrev pub block_at : List ℕ → ℕ → ℕ
block_at octets i = from_be_bytes w128 (slice_range octets (16 * i) (16 * i + 16))

-- the whole blocks of a string, in order
unfoldable pub blocks_of : List ℕ → List ℕ
blocks_of octets = map (block_at octets) (range_with_len 0 (length octets / 16))

-- the string that GCM hashes, of additional data a and a ciphertext c: both padded, then the length
-- of each in bits, as 64 bits (7.1, step 5)
abbrev pub hash_input : List ℕ → List ℕ → List ℕ
hash_input a c = padded_string a ++ padded_string c ++ to_be_bytes w64 (8 * length a) ++ to_be_bytes w64 (8 * length c)
