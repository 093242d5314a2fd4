-- The ranges of a record's fields.
use Rattle.std.specs.Prelude.{◌≤◌, ◌<◌, ◌^◌, ℕ, List, All, length, Option, Some, None}
use Rattle.macs_fields.specs.Fields.{IsAn, IsOctets}
use Rattle.macs_record.specs.declared.key_length.KeyLength.{KeyLength}
use Rattle.macs_record.specs.declared.key_length.KeyLength.TheVariants.{Short, Long}

-- a key of this length: 16 octets, for GCM-AES-128, or 32, for GCM-AES-256 (IEEE Std 802.1AE-2018, 14.5 and 14.6)
abbrev pub IsKeyOf : KeyLength → List ℕ → Type 0
IsKeyOf Short key = IsOctets 16 key
IsKeyOf Long key = IsOctets 32 key

-- the first packet number of an association
abbrev pub IsStart : ℕ → Type 0
IsStart start = (0 < start) × (start < 2 ^ 32)

-- an exclusive upper bound of packet numbers, 1 to 2^32
abbrev pub IsCeiling : ℕ → Type 0
IsCeiling ceiling = (1 ≤ ceiling) × (ceiling ≤ 2 ^ 32)

-- the AN that frames are sent under, or none
abbrev pub IsEncoding : Option ℕ → Type 0
IsEncoding None = Unit {0}
IsEncoding (Some an) = IsAn an

-- the fingerprints of one record: 1 to 15, of 32 octets each
abbrev pub IsFingerprints : List (List ℕ) → Type 0
IsFingerprints fingerprints = (1 ≤ length fingerprints) × (length fingerprints ≤ 15) × All (IsOctets 32) fingerprints
