-- The field of 256 elements of AES (FIPS 197 (2001), 4.2): an octet is a polynomial of degree below 8.
use Rattle.std.specs.Prelude.{◌≡◌, ◌≢◌, ℕ, ◌^◌, ◌<◌, List, find, ◌==◌, unwrap_or}
use Rattle.std.specs.List.{range_with_len}
use Rattle.macs_gf.specs.Polynomial.{product_below, remainder}

-- x^8 + x^4 + x^3 + x + 1, of degree 8
abbrev pub aes_modulus : ℕ
aes_modulus = 0x11B

-- the product of two octets: that of the polynomials, of degree below 16, modulo aes_modulus (4.2)
unfoldable pub octet_product : ℕ → ℕ → ℕ
octet_product a b = remainder aes_modulus (product_below a b 8) 8

-- b is the inverse of a: their product is 1 (4.2); the inverse of 0 is 0 (5.1.1)
abbrev pub IsInverse : ℕ → ℕ → Type 0
IsInverse a b = (b < 2 ^ 8) × ((a ≡ 0 → b ≡ 0) × (a ≢ 0 → octet_product a b ≡ 1))

-- each octet, in order
abbrev pub every_octet : List ℕ
every_octet = range_with_len 0 256

-- the octet whose product with a is 1, or 0 if there is none
unfoldable pub inverse : ℕ → ℕ
inverse a = unwrap_or (find (λ b. octet_product a b == 1) every_octet) 0
