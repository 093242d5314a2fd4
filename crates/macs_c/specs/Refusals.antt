-- Why a frame is not sealed or not opened, and the return codes.
use Rattle.std.specs.Prelude.{◌≡◌, ◌+◌, ◌<◌, ◌≤◌, ℕ, Bool, true, false, not, List, drop, take, [], ◌∷◌, Option, Some}
use Rattle.std.specs.Prelude.{None, length, nat_lt}
use Rattle.macs_fields.specs.First.{IsFirst, first}
use Rattle.macs_frame.specs.Opening.{OpenFaultHolds, Verified, open_faults}
use Rattle.macs_frame.specs.Protection.{overhead, protected_frame}
use Rattle.macs_frame.specs.declared.opening.OpenFault.{OpenFault}
use Rattle.macs_frame.specs.declared.opening.OpenFault.TheVariants.{Tag as TagRefused, OtherSci as NamesOther}
use Rattle.macs_frame.specs.declared.opening.OpenFault.TheVariants.{NotValid as IsNotValid}
use Rattle.macs_frame.specs.declared.tag.TagFault.TheVariants.{Runt as IsRunt, Oversize as IsOversize}
use Rattle.macs_frame.specs.declared.tag.TagFault.TheVariants.{NoTag as HasNoTag, BadTag as HasBadTag}
use Rattle.macs_frame.specs.declared.tag.TagFault.TheVariants.{ForKay as IsForKayAlone}
use Rattle.macs_c.specs.declared.keys.MacsKey.{MacsKey}
use Rattle.macs_frame.specs.Tag.{tag_of}
use Rattle.macs_c.specs.declared.fields.MacsOpened.{MacsOpened}
use Rattle.macs_c.specs.declared.fields.MacsTag.{MacsTag}
use Rattle.macs_c.specs.declared.refusals.Refusal.{Refusal}
use Rattle.macs_c.specs.declared.refusals.Refusal.TheVariants.{Key, Field, Runt, Oversize, Room, NoTag, BadTag, ForKay}
use Rattle.macs_c.specs.declared.refusals.Refusal.TheVariants.{OtherSci, NotValid}
use Rattle.macs_c.specs.Fields.{is_in_range, is_offset, name_of, sec_tag}
use Rattle.macs_c.specs.Keys.{is_key, key_octets}

-- the return code: 0 for success
abbrev pub code_of : Option Refusal → ℕ
code_of None = 0
code_of (Some Key) = 1
code_of (Some Field) = 2
code_of (Some Runt) = 3
code_of (Some Oversize) = 4
code_of (Some Room) = 5
code_of (Some NoTag) = 6
code_of (Some BadTag) = 7
code_of (Some ForKay) = 8
code_of (Some OtherSci) = 9
code_of (Some NotValid) = 10

-- the protected frame of a plain one
abbrev pub sealed_frame : MacsKey → MacsTag → List ℕ → List ℕ
sealed_frame key tag plain = protected_frame (key_octets key) tag.sci.octets (sec_tag tag) tag.offset plain

-- why a plain frame is not sealed into a buffer of this size, in the order in which the reasons are checked
abbrev pub seal_refusals : MacsKey → MacsTag → List ℕ → ℕ → List (Refusal × Bool)
seal_refusals key tag plain room =
    (Key, not (is_key key)) ∷ (Field, not (is_in_range tag)) ∷ (Runt, nat_lt (length plain) 14)
    ∷ (Oversize, nat_lt 9216 (length plain + overhead (name_of tag)))
    ∷ (Room, nat_lt room (length (sealed_frame key tag plain))) ∷ []

-- the first of them, if any
abbrev pub seal_refusal : MacsKey → MacsTag → List ℕ → ℕ → Option Refusal
seal_refusal key tag plain room = first (seal_refusals key tag plain room)

-- ---- opening

-- the first fault of a frame
abbrev pub IsFault : (frame key sci : List ℕ) → ℕ → OpenFault → Type 0
IsFault frame key sci offset fault = IsFirst (OpenFaultHolds frame key sci offset) open_faults fault

-- a frame has no fault: it also names no other SCI
pub record IsFaultless (frame key sci : List ℕ) (offset : ℕ) : Type 0 where
  pub none : (fault : OpenFault) → ¬ IsFault frame key sci offset fault

-- a refusal because of the frame itself, under a key, an SCI and an offset, or because there is no room for its plain
-- frame
abbrev pub FrameRefusal : (frame key sci : List ℕ) → (offset room : ℕ) → Refusal → Type 0
FrameRefusal frame key sci offset room Key = ⊥
FrameRefusal frame key sci offset room Field = ⊥
FrameRefusal frame key sci offset room Runt = IsFault frame key sci offset (TagRefused IsRunt)
FrameRefusal frame key sci offset room Oversize = IsFault frame key sci offset (TagRefused IsOversize)
FrameRefusal frame key sci offset room Room = IsFaultless frame key sci offset × (plain : List ℕ)
    × Verified frame key sci offset plain × (room < length plain)
FrameRefusal frame key sci offset room NoTag = IsFault frame key sci offset (TagRefused HasNoTag)
FrameRefusal frame key sci offset room BadTag = IsFault frame key sci offset (TagRefused HasBadTag)
FrameRefusal frame key sci offset room ForKay = IsFault frame key sci offset (TagRefused IsForKayAlone)
FrameRefusal frame key sci offset room OtherSci = IsFault frame key sci offset NamesOther
FrameRefusal frame key sci offset room NotValid = IsFault frame key sci offset IsNotValid

-- why a frame is not opened: the key is invalid, or else the offset, or else the frame's own reason
abbrev pub OpenRefusal : MacsKey → (sci frame : List ℕ) → (offset room : ℕ) → Refusal → Type 0
OpenRefusal key sci frame offset room Key = is_key key ≡ false
OpenRefusal key sci frame offset room Field = (is_key key ≡ true) × (is_offset offset ≡ false)
OpenRefusal key sci frame offset room refusal = (is_key key ≡ true) × (is_offset offset ≡ true)
    × FrameRefusal frame (key_octets key) sci offset room refusal

-- the plain frame is at the front of a buffer, and this is what is reported about the frame
pub record IsOpened (frame key sci : List ℕ) (offset : ℕ) (old new : List ℕ) (opened : MacsOpened) : Type 0 where
  pub within : opened.octets ≤ length old
  pub verified : Verified frame key sci offset (take opened.octets new)
  pub rest : drop opened.octets new ≡ drop opened.octets old
  pub pn : opened.pn ≡ (tag_of frame).pn
  pub an : opened.an ≡ (tag_of frame).an

-- the result of an opening: the buffer before and after, and the report on the frame before and after
abbrev pub OpenAnswer : MacsKey → (sci frame : List ℕ) → (offset : ℕ) → (old new : List ℕ) → (was is : MacsOpened)
    → Option Refusal → Type 0
OpenAnswer key sci frame offset old new was is None = (is_key key ≡ true) × (is_offset offset ≡ true)
    × IsFaultless frame (key_octets key) sci offset × IsOpened frame (key_octets key) sci offset old new is
OpenAnswer key sci frame offset old new was is (Some refusal) = OpenRefusal key sci frame offset (length old) refusal
    × (new ≡ old) × (is ≡ was)
