-- Octets in a sector of 512.
use Rattle.std.specs.Prelude.{◌≡◌, ◌-◌, ◌++◌, List, ℕ, length, replicate}

-- octets, and zeros to the end of the sector
abbrev pub padded_sector : List ℕ → List ℕ
padded_sector octets = octets ++ replicate (512 - length octets) 0

-- the sector begins with these octets
abbrev pub Begins : List ℕ → List ℕ → Type 0
Begins octets sector = (rest : List ℕ) × (sector ≡ octets ++ rest)
