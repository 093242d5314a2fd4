-- Addresses of local sockets, unix(7).
use Rattle.std.specs.Prelude.{◌≡◌, ◌≤◌, ◌+◌, ◌==◌, if◌then◌else◌, ℕ, List, [], ◌∷◌, length, take}

-- the name as it is in the address: for an abstract one, which begins with `@` (64), the first octet is 0
abbrev pub name_octets : List ℕ → List ℕ
name_octets [] = []
name_octets (first ∷ rest) = (if first == 64 then 0 else first) ∷ rest

-- the octets begin with the family of local sockets, 1, low octet first, and the name
abbrev pub HasAddress : List ℕ → List ℕ → Type 0
HasAddress name octets = take (2 + length name) octets ≡ 1 ∷ 0 ∷ name_octets name

-- a local socket may have this name: it has 1 to 107 octets
abbrev pub IsName : List ℕ → Type 0
IsName name = (1 ≤ length name) × (length name ≤ 107)
