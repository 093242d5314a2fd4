-- The field of 256 elements over its subfield of sixteen: each octet is u t + v, with u and v in the
-- subfield and t the root ff.
use Rattle.std.specs.Prelude.{ℕ, bit_xor}
use Rattle.macs_gf.specs.Gf256.{octet_product}
use Rattle.macs_aes.specs.SBox.{affine_bit, from_bits}

-- x^2
abbrev pub squared : ℕ → ℕ
squared x = octet_product x x

-- x^14, which is the inverse of an x of the subfield other than 0
unfoldable pub fourteenth : ℕ → ℕ
fourteenth x = octet_product (squared x) (squared (squared (octet_product x (squared x))))

-- t, for which t^16 = t + 1
abbrev pub tower_root : ℕ
tower_root = 0xff

-- t^17
abbrev pub tower_unit : ℕ
tower_unit = 0xec

-- u = x + x^16
unfoldable pub high_of : ℕ → ℕ
high_of x = bit_xor x (squared (squared (squared (squared x))))

-- v = x + u t
unfoldable pub low_of : ℕ → ℕ
low_of x = bit_xor x (octet_product tower_root (high_of x))

-- the affine map of an octet
unfoldable pub affine : ℕ → ℕ
affine b = from_bits (affine_bit b) 8
