-- The layout of a record in its sector: a mark, its kind, its fields in order without gaps, and zeros. Numbers of
-- several octets are big-endian.
use Rattle.std.specs.Prelude.{◌<◌, ◌^◌, ◌++◌, ◌==◌, ℕ, Bool, true, false, if◌then◌else◌, List, [], ◌∷◌, length, Option}
use Rattle.std.specs.Prelude.{Some, None}
use Rattle.std.specs.Int.{to_be_bytes, w32, w64}
use Rattle.std.specs.List.{concat}
use Rattle.macs_fields.specs.Fields.{octets_of}
use Rattle.macs_config.specs.Apply.{IsKey}
use Rattle.macs_config.specs.Association.{is_confidential, offset_of}
use Rattle.macs_config.specs.declared.association.Protection.{Protection}
use Rattle.macs_config.specs.declared.command.Replay.{Replay}
use Rattle.macs_config.specs.declared.command.Role.{Role}
use Rattle.macs_config.specs.declared.command.Role.TheVariants.{Transmit, Receive}
use Rattle.macs_config.specs.declared.command.SciMode.{SciMode}
use Rattle.macs_config.specs.declared.command.SciMode.TheVariants.{Explicit, EndStation, Implicit}
use Rattle.macs_config.specs.declared.command.Validate.{Validate}
use Rattle.macs_config.specs.declared.command.Validate.TheVariants.{Strict, Check}
use Rattle.macs_fields.specs.Fields.{IsAn, IsSci}
use Rattle.macs_record.specs.Ranges.{IsCeiling, IsEncoding, IsFingerprints, IsStart}
use Rattle.macs_record.specs.Sectors.{padded_sector}
use Rattle.macs_record.specs.declared.key_length.KeyLength.{KeyLength}
use Rattle.macs_record.specs.declared.key_length.KeyLength.TheVariants.{Short, Long}
use Rattle.macs_record.specs.declared.kind.Kind.{Kind}
use Rattle.macs_record.specs.declared.kind.Kind.TheVariants as kinds
use Rattle.macs_record.specs.declared.record.Record.{Record}
use Rattle.macs_record.specs.declared.record.Record.TheVariants.{Settings, TxSa, Channel, RxSa, Spent, SetValidate}
use Rattle.macs_record.specs.declared.record.Record.TheVariants.{SetReplay, SetSciMode, TxInstall, TxUse, TxRemove}
use Rattle.macs_record.specs.declared.record.Record.TheVariants.{RxAdd, RxDrop, RxInstall, RxRemove, TxCeiling}
use Rattle.macs_record.specs.declared.record.Record.TheVariants.{RxCeiling}

-- ---- fields

-- yes or no in one octet, 1 for yes
abbrev pub flag_octet : Bool → ℕ
flag_octet false = 0
flag_octet true = 1

-- how frames are validated, in one octet, 0 or 1
abbrev pub validate_octet : Validate → ℕ
validate_octet Strict = 0
validate_octet Check = 1

-- how frames name their channel, in one octet, 0 to 2
abbrev pub mode_octet : SciMode → ℕ
mode_octet Explicit = 0
mode_octet EndStation = 1
mode_octet Implicit = 2

-- an association number, or ff for none
abbrev pub encoding_octet : Option ℕ → ℕ
encoding_octet None = 0xff
encoding_octet (Some an) = an

-- the side that keys are spent on, in one octet, 0 or 1
abbrev pub role_octet : Role → ℕ
role_octet Transmit = 0
role_octet Receive = 1

-- whether protection is on, then the window
abbrev pub replay_octets : Replay → List ℕ
replay_octets replay = flag_octet replay.on ∷ to_be_bytes w32 replay.window

-- whether User Data are encrypted, then the confidentiality offset
abbrev pub protection_octets : Protection → List ℕ
protection_octets protection = flag_octet (is_confidential protection) ∷ octets_of (offset_of protection) ∷ []

-- how many there are, then each in order
abbrev pub fingerprint_octets : List (List ℕ) → List ℕ
fingerprint_octets fingerprints = length fingerprints ∷ concat fingerprints

-- ---- records

-- MREC
abbrev pub record_mark : List ℕ
record_mark = 0x4d ∷ 0x52 ∷ 0x45 ∷ 0x43 ∷ []

-- the octet for a kind
abbrev pub kind_number : Kind → ℕ
kind_number kinds.Settings = 1
kind_number kinds.TxSa = 2
kind_number kinds.Channel = 3
kind_number kinds.RxSa = 4
kind_number kinds.Spent = 5
kind_number kinds.SetValidate = 6
kind_number kinds.SetReplay = 7
kind_number kinds.SetSciMode = 8
kind_number kinds.TxInstall = 9
kind_number kinds.TxUse = 10
kind_number kinds.TxRemove = 11
kind_number kinds.RxAdd = 12
kind_number kinds.RxDrop = 13
kind_number kinds.RxInstall = 14
kind_number kinds.RxRemove = 15
kind_number kinds.TxCeiling = 16
kind_number kinds.RxCeiling = 17
kind_number kinds.TxSaLong = 18
kind_number kinds.RxSaLong = 19
kind_number kinds.TxInstallLong = 20
kind_number kinds.RxInstallLong = 21

-- one of two kinds, by the length of the key: 16 or 32 octets
abbrev pub of_length : KeyLength → Kind → Kind → Kind
of_length Short short long = short
of_length Long short long = long

-- the same, for this key
abbrev pub by_length : List ℕ → Kind → Kind → Kind
by_length key short long = if length key == 16 then short else long

-- the kind of a record
abbrev pub kind_of : Record → Kind
kind_of (Settings validate replay mode encoding) = kinds.Settings
kind_of (TxSa an sa ceiling) = by_length sa.key kinds.TxSa kinds.TxSaLong
kind_of (Channel sci) = kinds.Channel
kind_of (RxSa sci an sa ceiling) = by_length sa.key kinds.RxSa kinds.RxSaLong
kind_of (Spent role fingerprints) = kinds.Spent
kind_of (SetValidate validate) = kinds.SetValidate
kind_of (SetReplay replay) = kinds.SetReplay
kind_of (SetSciMode mode) = kinds.SetSciMode
kind_of (TxInstall an sa start) = by_length sa.key kinds.TxInstall kinds.TxInstallLong
kind_of (TxUse an) = kinds.TxUse
kind_of (TxRemove an) = kinds.TxRemove
kind_of (RxAdd sci) = kinds.RxAdd
kind_of (RxDrop sci) = kinds.RxDrop
kind_of (RxInstall sci an sa start) = by_length sa.key kinds.RxInstall kinds.RxInstallLong
kind_of (RxRemove sci an) = kinds.RxRemove
kind_of (TxCeiling an ceiling) = kinds.TxCeiling
kind_of (RxCeiling sci an ceiling) = kinds.RxCeiling

-- a record of this kind has one field
abbrev pub has_one_field : Kind → Bool
has_one_field kinds.Channel = true
has_one_field kinds.SetValidate = true
has_one_field kinds.SetReplay = true
has_one_field kinds.SetSciMode = true
has_one_field kinds.TxUse = true
has_one_field kinds.TxRemove = true
has_one_field kinds.RxAdd = true
has_one_field kinds.RxDrop = true
has_one_field kind = false

-- the octets after the mark and the kind: the fields in order, without gaps
abbrev pub fields_of : Record → List ℕ
fields_of (Settings validate replay mode encoding) =
    validate_octet validate ∷ (replay_octets replay ++ (mode_octet mode ∷ encoding_octet encoding ∷ []))
fields_of (TxSa an sa ceiling) =
    an ∷ (sa.key ++ (to_be_bytes w64 ceiling ++ protection_octets sa.protection))
fields_of (Channel sci) = sci
fields_of (RxSa sci an sa ceiling) =
    sci ++ (an ∷ (sa.key ++ (to_be_bytes w64 ceiling ++ (octets_of sa.offset ∷ []))))
fields_of (Spent role fingerprints) = role_octet role ∷ fingerprint_octets fingerprints
fields_of (SetValidate validate) = validate_octet validate ∷ []
fields_of (SetReplay replay) = replay_octets replay
fields_of (SetSciMode mode) = mode_octet mode ∷ []
fields_of (TxInstall an sa start) =
    an ∷ (sa.key ++ (to_be_bytes w32 start ++ protection_octets sa.protection))
fields_of (TxUse an) = an ∷ []
fields_of (TxRemove an) = an ∷ []
fields_of (RxAdd sci) = sci
fields_of (RxDrop sci) = sci
fields_of (RxInstall sci an sa start) =
    sci ++ (an ∷ (sa.key ++ (to_be_bytes w32 start ++ (octets_of sa.offset ∷ []))))
fields_of (RxRemove sci an) = sci ++ (an ∷ [])
fields_of (TxCeiling an ceiling) = an ∷ to_be_bytes w64 ceiling
fields_of (RxCeiling sci an ceiling) = sci ++ (an ∷ to_be_bytes w64 ceiling)

-- the mark and the kind
abbrev pub octets_of_kind : Kind → List ℕ
octets_of_kind kind = record_mark ++ (kind_number kind ∷ [])

-- the mark and the kind, then the fields
abbrev pub front_of : Record → List ℕ
front_of r = octets_of_kind (kind_of r) ++ fields_of r

-- the sector of a record
abbrev pub sector_of : Record → List ℕ
sector_of r = padded_sector (front_of r)

-- ---- ranges

-- the fields of a record are in their ranges
abbrev pub IsRecord : Record → Type 0
IsRecord (Settings validate replay mode encoding) = (replay.window < 2 ^ 32) × IsEncoding encoding
IsRecord (TxSa an sa ceiling) = IsAn an × IsKey sa.key × IsCeiling ceiling
IsRecord (Channel sci) = IsSci sci
IsRecord (RxSa sci an sa ceiling) = IsSci sci × IsAn an × IsKey sa.key × IsCeiling ceiling
IsRecord (Spent role fingerprints) = IsFingerprints fingerprints
IsRecord (SetValidate validate) = Unit {0}
IsRecord (SetReplay replay) = replay.window < 2 ^ 32
IsRecord (SetSciMode mode) = Unit {0}
IsRecord (TxInstall an sa start) = IsAn an × IsKey sa.key × IsStart start
IsRecord (TxUse an) = IsAn an
IsRecord (TxRemove an) = IsAn an
IsRecord (RxAdd sci) = IsSci sci
IsRecord (RxDrop sci) = IsSci sci
IsRecord (RxInstall sci an sa start) = IsSci sci × IsAn an × IsKey sa.key × IsStart start
IsRecord (RxRemove sci an) = IsSci sci × IsAn an
IsRecord (TxCeiling an ceiling) = IsAn an × IsCeiling ceiling
IsRecord (RxCeiling sci an ceiling) = IsSci sci × IsAn an × IsCeiling ceiling
