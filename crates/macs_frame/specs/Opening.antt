-- Validation of a protected frame (IEEE Std 802.1AE-2018, 10.6 and clause 14): what is authenticated, what is
-- encrypted, and the plain frame that it protects.
use Rattle.std.specs.Prelude.{◌≡◌, ◌≢◌, ℕ, ◌+◌, Bool, List, [], ◌∷◌, ◌++◌, map, take, drop, slice_range, if◌then◌else◌}
use Rattle.std.specs.Prelude.{Option, Some, None, IsSomeAnd}
use Rattle.std.specs.Int.{w32, to_be_bytes}
use Rattle.macs_gcm.specs.Gcm.{seal}
use Rattle.macs_frame.specs.declared.tag.ScName.{ScName}
use Rattle.macs_frame.specs.declared.tag.ScName.TheVariants.{Explicit, EndStation, Implicit}
use Rattle.macs_frame.specs.declared.tag.Parts.{Parts}
use Rattle.macs_frame.specs.declared.opening.OpenFault.{OpenFault}
use Rattle.macs_frame.specs.declared.opening.OpenFault.TheVariants.{Tag as TagRefused, OtherSci, NotValid}
use Rattle.macs_frame.specs.Tag.{IsForKay, Tag, TagFaultHolds, end_of, name_of, start_of, tag_faults}

-- of the octets after the SecTAG, those in the clear: all under integrity only, else the number given by the offset
abbrev pub clear_of : Bool → ℕ → List ℕ → List ℕ
clear_of encrypted offset octets = if encrypted then take offset octets else octets

-- those that are encrypted: none under integrity only, else the rest
abbrev pub hidden_of : Bool → ℕ → List ℕ → List ℕ
hidden_of encrypted offset octets = if encrypted then drop offset octets else []

-- the initialisation vector: SCI, then PN (14.5 and 14.6)
abbrev pub iv_of : List ℕ → ℕ → List ℕ
iv_of sci number = sci ++ to_be_bytes w32 number

-- the Secure Data: the octets between the SecTAG and the ICV (9.10)
abbrev pub secure_data : List ℕ → Parts → List ℕ
secure_data frame parts = slice_range frame parts.start parts.end

-- the ICV: the 16 octets after Secure Data (9.11)
abbrev pub icv_of : List ℕ → Parts → List ℕ
icv_of frame parts = slice_range frame parts.end (parts.end + 16)

-- what is authenticated and not encrypted: the addresses, the SecTAG and the Secure Data in the clear (14.5 and 14.6)
abbrev pub additional_data : List ℕ → ℕ → Parts → List ℕ
additional_data frame offset parts =
    take parts.start frame ++ clear_of parts.tag.encrypted offset (secure_data frame parts)

-- Under the key, the SCI and the offset these parts of the frame open to the plain frame: its User Data are the octets
-- in the clear followed by the plaintext, and sealing the plaintext gives the encrypted Secure Data and the ICV.
pub record OpensTo (frame key sci : List ℕ) (offset : ℕ) (parts : Parts) (plain : List ℕ) : Type 0 where
  pub plaintext : List ℕ
  pub sealed : seal key (iv_of sci parts.tag.pn) (additional_data frame offset parts) plaintext
      ≡ (hidden_of parts.tag.encrypted offset (secure_data frame parts), icv_of frame parts)
  pub plain_is : plain
      ≡ take 12 frame ++ clear_of parts.tag.encrypted offset (secure_data frame parts) ++ plaintext

-- the frame verifies as this plain frame
pub record Verified (frame key sci : List ℕ) (offset : ℕ) (plain : List ℕ) : Type 0 where
  pub parts : Parts
  pub tag : Tag frame parts
  pub not_for_kay : ¬ IsForKay frame
  pub opens : OpensTo frame key sci offset parts plain

-- the SCI that a frame's tag names: the explicit one, or the source address with port 00-01, or none (9.5, 9.9)
abbrev pub named_sci : List ℕ → ScName → Option (List ℕ)
named_sci frame (Explicit sci) = Some sci
named_sci frame EndStation = Some (slice_range frame 6 12 ++ 0 ∷ 1 ∷ [])
named_sci frame Implicit = None

-- a tagged frame without its SecTAG, ICV and padding: the addresses and the Secure Data
abbrev pub bare_frame : List ℕ → List ℕ
bare_frame frame = take 12 frame ++ slice_range frame (start_of frame) (end_of frame)

-- ---- faults

-- when each fault applies to a frame, under a key, an SCI and an offset
abbrev pub OpenFaultHolds : (frame key sci : List ℕ) → ℕ → OpenFault → Type 0
OpenFaultHolds frame key sci offset (TagRefused fault) = TagFaultHolds frame fault
OpenFaultHolds frame key sci offset OtherSci =
    IsSomeAnd (named_sci frame (name_of frame)) (λ named. named ≢ sci)
OpenFaultHolds frame key sci offset NotValid = (plain : List ℕ) → ¬ Verified frame key sci offset plain

-- in the order in which they are checked
abbrev pub open_faults : List OpenFault
open_faults = map TagRefused tag_faults ++ OtherSci ∷ NotValid ∷ []
