-- Keys of 16 and of 32 octets, and their octets.
use Rattle.std.specs.Prelude.{◌≡◌, ℕ, List, length, refl, if◌then◌else◌, ◌==◌}
use Rattle.macs_aes.specs.declared.keys.Key.{Key}
use Rattle.macs_aes.specs.declared.keys.Key.TheVariants.{Short, Long}

-- the octets of a key
abbrev pub octets_of_key : Key → List ℕ
octets_of_key (Short octets) = octets
octets_of_key (Long octets) = octets

-- the key with these octets, 16 or 32
abbrev pub key_of_octets : List ℕ → Key
key_of_octets octets = if length octets == 16 then Short octets else Long octets

-- a short key has 16 octets, a long one 32
abbrev pub HasItsLength : Key → Type 0
HasItsLength (Short octets) = length octets ≡ 16
HasItsLength (Long octets) = length octets ≡ 32

-- a key is determined by its octets
pub key_of_octets-octets_of_key : (key : Key) → HasItsLength key → key_of_octets (octets_of_key key) ≡ key
key_of_octets-octets_of_key (Short octets) size = rw size refl
key_of_octets-octets_of_key (Long octets) size = rw size refl
