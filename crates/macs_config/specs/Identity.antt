-- The identity that an endpoint is formatted with.
use Rattle.std.specs.Prelude.{◌≤◌, ℕ, Bool, List, [], ◌∷◌, drop}
use Rattle.std.specs.Str.{bytes_eq}
use Rattle.macs_fields.specs.Fields.{IsSci}

-- sci: the SCI of the transmit channel, 8 octets; the blocks: how many packet numbers are reserved at a time
pub record Identity : Type 0 where
  pub sci : List ℕ
  pub tx_block : ℕ
  pub rx_block : ℕ

-- how many packet numbers may be reserved at a time: 1 to 65,536
abbrev pub IsBlock : ℕ → Type 0
IsBlock block = (1 ≤ block) × (block ≤ 65536)

-- the port identifier of an SCI is 00-01, the one of an end station (IEEE Std 802.1AE-2018, 9.5)
abbrev pub is_port_one : List ℕ → Bool
is_port_one sci = bytes_eq (drop 6 sci) (0 ∷ 1 ∷ [])

-- the fields of an identity are in their ranges
pub record IsIdentity (identity : Identity) : Type 0 where
  pub sci : IsSci identity.sci
  pub tx_block : IsBlock identity.tx_block
  pub rx_block : IsBlock identity.rx_block
