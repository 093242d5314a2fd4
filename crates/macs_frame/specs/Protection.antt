-- Protection of a plain frame (IEEE Std 802.1AE-2018, 10.5 and clauses 9 and 14): the SecTAG as it is written, and the
-- protected frame.
use Rattle.std.specs.Prelude.{◌≡◌, ℕ, ◌+◌, ◌^◌, ◌<◌, nat_lt, length, List, [], ◌∷◌, ◌++◌, take, drop, if◌then◌else◌}
use Rattle.std.specs.Int.{w32, to_be_bytes}
use Rattle.macs_gcm.specs.Gcm.{seal}
use Rattle.macs_frame.specs.declared.tag.ScName.{ScName}
use Rattle.macs_frame.specs.declared.tag.ScName.TheVariants.{Explicit, EndStation, Implicit}
use Rattle.macs_frame.specs.declared.tag.SecTag.{SecTag}
use Rattle.macs_frame.specs.declared.tag.Parts.{Parts}
use Rattle.macs_frame.specs.Opening.{clear_of, hidden_of, iv_of}

-- ---- the SecTAG as it is written

-- SC, ES or neither, depending on how the channel is named (9.5)
abbrev pub name_bits : ScName → ℕ
name_bits (Explicit sci) = 0x20
name_bits EndStation = 0x40
name_bits Implicit = 0

-- octet 3: SC or ES, E and C, and the AN (9.5, 9.6)
abbrev pub control_octet : SecTag → ℕ
control_octet tag =
    name_bits tag.name + (if tag.encrypted then 0x08 else 0) + (if tag.changed then 0x04 else 0) + tag.an

-- octet 4: SL, the number of octets of Secure Data if it is below 48, else 0 (9.7)
abbrev pub short_of : ℕ → ℕ
short_of secure = if nat_lt secure 48 then secure else 0

-- octets 9 to 16: the SCI, only if it is explicit (9.9)
abbrev pub sci_octets : ScName → List ℕ
sci_octets (Explicit sci) = sci
sci_octets EndStation = []
sci_octets Implicit = []

-- the SecTAG before this many octets of Secure Data (9.3)
abbrev pub written_tag : SecTag → ℕ → List ℕ
written_tag tag secure =
    0x88 ∷ 0xE5 ∷ control_octet tag ∷ short_of secure ∷ to_be_bytes w32 tag.pn ++ sci_octets tag.name

-- how many octets the SecTAG has (9.3)
abbrev pub tag_octets : ScName → ℕ
tag_octets (Explicit sci) = 16
tag_octets EndStation = 8
tag_octets Implicit = 8

-- how many octets longer than its plain frame a protected frame is: the SecTAG and the ICV
abbrev pub overhead : ScName → ℕ
overhead name = tag_octets name + 16

-- ---- the protected frame

-- the User Data of a plain frame: everything after its two addresses
abbrev pub user_data : List ℕ → List ℕ
user_data plain = drop 12 plain

-- the addresses of the plain frame and the SecTAG
abbrev pub header_of : SecTag → List ℕ → List ℕ
header_of tag plain = take 12 plain ++ written_tag tag (length (user_data plain))

-- Addresses, SecTAG, Secure Data and ICV. Secure Data are the User Data in the clear followed by the ciphertext of the
-- rest; addresses, SecTAG and the octets in the clear are authenticated with them (14.5 and 14.6).
unfoldable pub protected_frame : (key sci : List ℕ) → SecTag → (offset : ℕ) → (plain : List ℕ) → List ℕ
protected_frame key sci tag offset plain =
    let clear = clear_of tag.encrypted offset (user_data plain) in
    let sealed =
    seal key (iv_of sci tag.pn) (header_of tag plain ++ clear) (hidden_of tag.encrypted offset (user_data plain)) in
    header_of tag plain ++ clear ++ sealed.0 ++ sealed.1

-- the parts of the frame that protects a plain frame of this many octets
abbrev pub written_parts : SecTag → ℕ → Parts
written_parts tag octets = record { tag = tag; start = 12 + tag_octets tag.name; end = octets + tag_octets tag.name }

-- ---- ranges

-- an explicit SCI has 8 octets (9.9)
abbrev pub IsName : ScName → Type 0
IsName (Explicit sci) = length sci ≡ 8
IsName EndStation = Unit {0}
IsName Implicit = Unit {0}

-- the fields of a SecTAG are in their ranges, and E and C are equal: everything encrypted is changed, and vice versa
-- (9.5)
pub record IsWritten (tag : SecTag) : Type 0 where
  pub an : tag.an < 4
  pub numbered : 0 < tag.pn
  pub pn : tag.pn < 2 ^ 32
  pub name : IsName tag.name
  pub alike : tag.encrypted ≡ tag.changed
