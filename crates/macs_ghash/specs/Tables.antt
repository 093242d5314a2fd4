-- Products by tables of four bits. A nibble is a polynomial of degree below 4, whose highest bit is the coefficient of
-- x^0, as in the halves of a block's octets.
use Rattle.std.specs.Prelude.{◌≡◌, ◌<◌, ℕ, zero, suc, [], length, ◌+◌, ◌-◌, ◌*◌, ◌/◌, ◌%◌, ◌^◌, List, get_or, bit_xor}
use Rattle.std.specs.Int.{bit_at}
use Rattle.macs_gf.specs.Gf128.{times_power}
use Rattle.macs_gf.specs.Ghash.{subkey_power}

-- the sum of f 0 to f (n - 1)
unfoldable pub sum_of : (ℕ → ℕ) → ℕ → ℕ
sum_of f zero = 0
sum_of f (suc n) = bit_xor (sum_of f n) (f n)

-- the product of a nibble and a block
unfoldable pub nibble_product : ℕ → ℕ → ℕ
nibble_product n p = sum_of (λ k. bit_at n (3 - k) * times_power k p) 4

-- the sum of those of four octets that the bits of a nibble choose, the highest bit the first
abbrev pub chosen_octets : ℕ → ℕ → ℕ → ℕ → ℕ → ℕ
chosen_octets n a b c d =
    bit_xor (bit_xor (bit_xor (bit_at n 3 * a) (bit_at n 2 * b)) (bit_at n 1 * c)) (bit_at n 0 * d)

-- octet b of a block, counted from the left
abbrev pub octet_from_left : ℕ → ℕ → ℕ
octet_from_left v b = v / 2 ^ (120 - 8 * b) % 256

-- an octet in place j of a block
unfoldable pub octet_placed : ℕ → ℕ → ℕ
octet_placed j o = times_power (8 * j) (o * 2 ^ 120)

-- the block with the octets f 0 to f 15
unfoldable pub block_of_octets : (ℕ → ℕ) → ℕ
block_of_octets f = sum_of (λ j. octet_placed j (f j)) 16

-- the product of an octet, as a polynomial of degree below 8 whose highest bit is the coefficient of x^0, and a block
unfoldable pub octet_times : ℕ → ℕ → ℕ
octet_times o p = bit_xor (nibble_product (o / 16) p) (times_power 4 (nibble_product (o % 16) p))

-- octets moved one place to the right, with another in front
unfoldable pub pushed : ℕ → (ℕ → ℕ) → ℕ → ℕ
pushed x f zero = x
pushed x f (suc j) = f j

-- a block, and beside it what goes beyond its right end
unfoldable pub with_beyond : (ℕ → ℕ) → (ℕ → ℕ) → ℕ
with_beyond low high = bit_xor (block_of_octets low) (times_power 128 (block_of_octets high))

-- k steps, each x^8 times the sum so far and one more term, from the last of sixteen
unfoldable pub stepped : (ℕ → ℕ) → ℕ → ℕ
stepped f zero = 0
stepped f (suc k) = bit_xor (times_power 8 (stepped f k)) (f (15 - k))

-- octet j of sixteen g
abbrev pub octets_in : List ℕ → ℕ → ℕ → ℕ
octets_in octets g j = get_or octets (16 * g + j) 0

-- tables of powers: at n in part p of row b, in sixteen g, octet b of the product of the nibble n and power sixteens *
-- p + g
pub record AreTables (sixteens parts : ℕ) (powers : ℕ → ℕ) (tables : List (List (List ℕ))) : Type 0 where
  pub small : (l : ℕ) → l < sixteens * parts → powers l < 2 ^ 128
  pub each : (b p g n : ℕ) → b < 16 → p < parts → g < sixteens → n < 16
      → octets_in (get_or (get_or tables b []) p []) g n
      ≡ octet_from_left (nibble_product n (powers (sixteens * p + g))) b

-- octet j of the sum of what row b has at the numbers, part by part, in sixteen g
abbrev pub row_sum : ℕ → List (List (List ℕ)) → List (List ℕ) → ℕ → ℕ → ℕ → ℕ
row_sum parts tables at g b j =
    sum_of (λ p. octets_in (get_or (get_or tables b []) p []) g (octets_in (get_or at p []) g j)) parts

-- what row b adds: at the left halves of octets, and half an octet further at the right ones
abbrev pub row_term : ℕ → List (List (List ℕ)) → List (List ℕ) → List (List ℕ) → ℕ → ℕ → ℕ
row_term parts tables left right g b =
    bit_xor (block_of_octets (row_sum parts tables left g b))
    (times_power 4 (block_of_octets (row_sum parts tables right g b)))

-- the powers of a subkey, from the eighth down to the first
pub record AreEightPowers (key : ℕ) (powers : List ℕ) : Type 0 where
  pub size : length powers ≡ 8
  pub each : (l : ℕ) → l < 8 → get_or powers l 0 ≡ subkey_power key (8 - l)
  pub small : key < 2 ^ 128
