-- The SecTAG of a frame (IEEE Std 802.1AE-2018, clause 9), and when it is bad. Octets of the frame are counted from 0,
-- octets of the SecTAG from 1: octet 1 of the SecTAG is octet 12 of the frame.
use Rattle.std.specs.Prelude.{◌≡◌, ◌≢◌, ℕ, ◌+◌, ◌-◌, ◌%◌, ◌<◌, ◌≤◌, ◌⊎◌, ◌&&◌, ◌==◌, Bool, true, false, not, List, []}
use Rattle.std.specs.Prelude.{◌∷◌, length, slice_index, slice_range, if◌then◌else◌, bit_and}
use Rattle.std.specs.Int.{w32, from_be_bytes}
use Rattle.macs_frame.specs.declared.tag.ScName.{ScName}
use Rattle.macs_frame.specs.declared.tag.ScName.TheVariants.{Explicit, EndStation, Implicit}
use Rattle.macs_frame.specs.declared.tag.SecTag.{SecTag}
use Rattle.macs_frame.specs.declared.tag.Parts.{Parts}
use Rattle.macs_frame.specs.declared.tag.TagFault.{TagFault}
use Rattle.macs_frame.specs.declared.tag.TagFault.TheVariants.{Runt, Oversize, NoTag, BadTag, ForKay}

-- ---- the octets of the tag

-- the EtherType 88-E5 in octets 1 and 2 (9.4)
abbrev pub IsTagged : List ℕ → Type 0
IsTagged frame = (slice_index frame 12 ≡ 0x88) × (slice_index frame 13 ≡ 0xE5)

-- octet 3: the TCI's bits V, ES, SC, SCB, E and C, and the AN (9.5, 9.6)
abbrev pub control : List ℕ → ℕ
control frame = slice_index frame 14

-- whether an octet has the bit of this value
abbrev pub has_bit : ℕ → ℕ → Bool
has_bit octet mask = not (bit_and octet mask == 0)

-- V: the version is not 0 (9.5)
abbrev pub has_version : ℕ → Bool
has_version octet = has_bit octet 0x80

-- ES: the SCI is the source address with port 00-01 (9.5)
abbrev pub end_station : ℕ → Bool
end_station octet = has_bit octet 0x40

-- SC: the SecTAG has an explicit SCI (9.5)
abbrev pub has_sci : ℕ → Bool
has_sci octet = has_bit octet 0x20

-- SCB: the frame was sent by the single copy broadcast of EPON (9.5)
abbrev pub single_copy_broadcast : ℕ → Bool
single_copy_broadcast octet = has_bit octet 0x10

-- E: the User Data are encrypted (9.5)
abbrev pub encrypted : ℕ → Bool
encrypted octet = has_bit octet 0x08

-- C: the Secure Data differ from the original User Data (9.5)
abbrev pub changed : ℕ → Bool
changed octet = has_bit octet 0x04

-- octet 4: SL, the length of short Secure Data, under two bits that are 0 (9.7)
abbrev pub short_length : List ℕ → ℕ
short_length frame = slice_index frame 15

-- octets 5 to 8: the PN (9.8)
abbrev pub pn_of : List ℕ → ℕ
pn_of frame = from_be_bytes w32 (slice_range frame 16 20)

-- octets 9 to 16, only if SC is set: the SCI (9.9)
abbrev pub sci_of : List ℕ → List ℕ
sci_of frame = slice_range frame 20 28

-- the place of the first octet of Secure Data: 28 after a SecTAG with an SCI, which has 16 octets, else 20 after one of
-- 8 (9.3)
abbrev pub start_of : List ℕ → ℕ
start_of frame = if has_sci (control frame) then 28 else 20

-- ---- the end of Secure Data

-- The length of a frame, with Secure Data from start on, agrees with SL (9.7, 9.12): if SL is 0 there are at least 48
-- octets of Secure Data before the ICV; else SL octets and the ICV end the frame, or are followed by padding to 60
-- octets. That padding, and an SL of 48 to 63, are rules of this profile.
abbrev pub Agrees : ℕ → ℕ → ℕ → Type 0
Agrees octets start short =
    ((short ≡ 0) × (start + 48 + 16 ≤ octets))
    ⊎ ((short ≢ 0) × ((octets ≡ start + short + 16) ⊎ ((octets ≡ 60) × (start + short + 16 < 60))))

-- where Secure Data from start on end: 16 octets before the frame's end if SL is 0, else SL octets after start
abbrev pub end_at : ℕ → ℕ → ℕ → ℕ
end_at octets start short = if short == 0 then octets - 16 else start + short

-- the place of a frame's first octet after its Secure Data, where the ICV begins (9.11)
abbrev pub end_of : List ℕ → ℕ
end_of frame = end_at (length frame) (start_of frame) (short_length frame)

-- ---- the contents of the tag

-- how the tag names its channel: by an SCI, as an end station, or not at all (9.5, 9.9)
abbrev pub name_of : List ℕ → ScName
name_of frame =
    if has_sci (control frame) then Explicit (sci_of frame)
    else if end_station (control frame) then EndStation
    else Implicit

-- the AN, the PN, the name of the channel, and the bits E and C
abbrev pub tag_of : List ℕ → SecTag
tag_of frame = record {
  an = control frame % 4;
  pn = pn_of frame;
  name = name_of frame;
  encrypted = encrypted (control frame);
  changed = changed (control frame);
}

-- octet 3 breaks no rule (9.12): V and SCB are clear, and SC and ES are not both set
pub record IsGoodControl (octet : ℕ) : Type 0 where
  pub version_clear : has_version octet ≡ false
  pub single_copy_clear : single_copy_broadcast octet ≡ false
  pub one_name : has_sci octet && end_station octet ≡ false

-- no rule of PDU validation is broken (9.12; that SCB must be clear is a rule of this profile): the tag is whole, octet
-- 3 breaks no rule, the upper bits of octet 4 are clear, the PN is not 0, and the frame's length agrees with SL
pub record IsGoodTag (frame : List ℕ) : Type 0 where
  pub whole : start_of frame ≤ length frame
  pub good_control : IsGoodControl (control frame)
  pub reserved_clear : short_length frame < 64
  pub numbered : pn_of frame ≢ 0
  pub agrees : Agrees (length frame) (start_of frame) (short_length frame)

-- the frame's tag is good, and these are the frame's parts
pub record IsReading (frame : List ℕ) (parts : Parts) : Type 0 where
  pub good : IsGoodTag frame
  pub tag : parts.tag ≡ tag_of frame
  pub start : parts.start ≡ start_of frame
  pub end : parts.end ≡ end_of frame

-- a frame of 14 to 9,216 octets has a tag that is not bad, and these are its parts
pub record Tag (frame : List ℕ) (parts : Parts) : Type 0 where
  pub long_enough : 14 ≤ length frame
  pub short_enough : length frame ≤ 9216
  pub tagged : IsTagged frame
  pub reading : IsReading frame parts

-- E without C: the frame is only for the key agreement entity (9.5)
abbrev pub IsForKay : List ℕ → Type 0
IsForKay frame = (encrypted (control frame) ≡ true) × (changed (control frame) ≡ false)

-- ---- faults

-- when each fault applies to a frame
abbrev pub TagFaultHolds : List ℕ → TagFault → Type 0
TagFaultHolds frame Runt = length frame < 14
TagFaultHolds frame Oversize = 9216 < length frame
TagFaultHolds frame NoTag = ¬ IsTagged frame
TagFaultHolds frame BadTag = ¬ IsGoodTag frame
TagFaultHolds frame ForKay = IsForKay frame

-- in the order in which they are checked
abbrev pub tag_faults : List TagFault
tag_faults = Runt ∷ Oversize ∷ NoTag ∷ BadTag ∷ ForKay ∷ []
