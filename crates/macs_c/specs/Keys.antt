-- Keys as a C program stores them.
use Rattle.std.specs.Prelude.{◌≡◌, ◌⊎◌, ◌||◌, ◌==◌, ℕ, Bool, List, take}
use Rattle.macs_c.specs.declared.keys.MacsKey.{MacsKey}

-- a key has 16 or 32 octets (IEEE Std 802.1AE-2018, 14.5 and 14.6)
abbrev pub IsKeyLength : ℕ → Type 0
IsKeyLength octets = (octets ≡ 16) ⊎ (octets ≡ 32)

-- whether this is a key
abbrev pub is_key : MacsKey → Bool
is_key key = (key.length == 16) || (key.length == 32)

-- its octets
abbrev pub key_octets : MacsKey → List ℕ
key_octets key = take key.length key.octets
