-- Polynomials over the field of two elements, as numbers: bit i is the coefficient of x^i (FIPS 197
-- (2001), 4.1 and 4.2). The sum of two is their xor, the product with x^i is the product with 2 ^ i, and a degree
-- below n is a number below 2 ^ n.
use Rattle.std.specs.Prelude.{◌≡◌, ℕ, zero, suc, ◌+◌, ◌*◌, ◌^◌, ◌<◌, bit_xor}
use Rattle.std.specs.Int.{bit_at}

-- the sum of those a * x^i, i below n, for which the coefficient of x^i in b is 1: the product of a and b if b is of
-- degree below n
unfoldable pub product_below : ℕ → ℕ → ℕ → ℕ
product_below a b zero = 0
product_below a b (suc i) = bit_xor (product_below a b i) (bit_at b i * (a * 2 ^ i))

-- one step of long division by m, of degree 8: m * x^n is subtracted from p if the coefficient of x^(8 + n) in p is 1
abbrev pub division_step : ℕ → ℕ → ℕ → ℕ
division_step m p n = bit_xor p (bit_at p (8 + n) * (m * 2 ^ n))

-- the remainder of p, of degree below 8 + n, after long division by m, of degree 8
unfoldable pub remainder : ℕ → ℕ → ℕ → ℕ
remainder m p zero = p
remainder m p (suc n) = remainder m (division_step m p n) n

-- r is the remainder of p, of degree below 16, on division by m, of degree 8: r is of degree below
-- 8, and for some quotient q of degree below 8, p = m * q + r
abbrev pub IsRemainder : ℕ → ℕ → ℕ → Type 0
IsRemainder m p r = (r < 2 ^ 8) × ((q : ℕ) × (q < 2 ^ 8) × (p ≡ bit_xor (product_below m q 8) r))
