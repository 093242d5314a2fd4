-- The head of an area: a mark, a version, and the fields in order without gaps, and zeros. Numbers are big-endian.
use Rattle.std.specs.Prelude.{◌≡◌, ◌<◌, ◌≤◌, ◌^◌, ◌++◌, ℕ, List, [], ◌∷◌}
use Rattle.std.specs.Int.{to_be_bytes, w32, w64}
use Rattle.macs_config.specs.Identity.{Identity, IsBlock}
use Rattle.macs_fields.specs.Fields.{IsSci}
use Rattle.macs_record.specs.Sectors.{padded_sector}
use Rattle.macs_record.specs.declared.format.Format.{Format}
use Rattle.macs_record.specs.declared.format.Format.TheVariants.{One, Two}

-- format: that of the area; generation: 1 when the disk is formatted, one more with each new snapshot; count: how many
-- records the snapshot has; identity: the one given when the disk was formatted
pub record Head : Type 0 where
  pub format : Format
  pub generation : ℕ
  pub count : ℕ
  pub identity : Identity

-- the fields of a head are in their ranges
pub record IsHead (head : Head) : Type 0 where
  pub generation : 0 < head.generation
  pub generations : head.generation < 2 ^ 64
  pub some : 1 ≤ head.count
  pub few : head.count ≤ 256
  pub sci : IsSci head.identity.sci
  pub tx_block : IsBlock head.identity.tx_block
  pub rx_block : IsBlock head.identity.rx_block

-- MSECHEAD
abbrev pub head_mark : List ℕ
head_mark = 0x4d ∷ 0x53 ∷ 0x45 ∷ 0x43 ∷ 0x48 ∷ 0x45 ∷ 0x41 ∷ 0x44 ∷ []

-- the version of a format, written in 4 octets
abbrev pub version_of : Format → ℕ
version_of One = 1
version_of Two = 2

-- 16 octets: the SCI, then the transmit and the receive block in 4 octets each
abbrev pub identity_octets : Identity → List ℕ
identity_octets identity = identity.sci ++ (to_be_bytes w32 identity.tx_block ++ to_be_bytes w32 identity.rx_block)

-- the mark and the version, then the fields
abbrev pub head_octets : Head → List ℕ
head_octets head =
    head_mark
    ++ (to_be_bytes w32 (version_of head.format) ++ (to_be_bytes w64 head.generation ++ (to_be_bytes w32 head.count
    ++ identity_octets head.identity)))

-- the sector of a head
abbrev pub head_sector_of : Head → List ℕ
head_sector_of head = padded_sector (head_octets head)

-- the sector is that of this head
pub record IsHeadOf (head : Head) (sector : List ℕ) : Type 0 where
  pub range : IsHead head
  pub octets : head_sector_of head ≡ sector
