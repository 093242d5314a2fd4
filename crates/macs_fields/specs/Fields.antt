-- The fields of a tag, and their ranges.
use Rattle.std.specs.Prelude.{◌≡◌, ◌<◌, ◌^◌, ℕ, List, All, length}
use Rattle.macs_fields.specs.declared.fields.Offset.{Offset}
use Rattle.macs_fields.specs.declared.fields.Offset.TheVariants.{Zero, Thirty, Fifty}

-- this many octets, such as a key of 16 or of 32
pub record IsOctets (count : ℕ) (octets : List ℕ) : Type 0 where
  pub size : length octets ≡ count
  pub each : All (λ octet. octet < 2 ^ 8) octets

-- an association number, 0 to 3 (IEEE Std 802.1AE-2018, 9.6)
abbrev pub IsAn : ℕ → Type 0
IsAn an = an < 4

-- 8 octets: a MAC address and a port identifier (IEEE Std 802.1AE-2018, 9.9)
abbrev pub IsSci : List ℕ → Type 0
IsSci sci = IsOctets 8 sci

-- a confidentiality offset in octets (IEEE Std 802.1AE-2018, 14.5)
abbrev pub octets_of : Offset → ℕ
octets_of Zero = 0
octets_of Thirty = 30
octets_of Fifty = 50
