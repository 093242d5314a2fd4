-- What a C program reads of a SecTAG.
use Rattle.std.specs.Prelude.{◌≡◌, ℕ, List, replicate, unwrap_or, if◌then◌else◌, Option, Some, None}
use Rattle.macs_fields.specs.First.{IsFirst}
use Rattle.macs_frame.specs.Opening.{named_sci}
use Rattle.macs_frame.specs.Tag.{IsForKay, Tag, TagFaultHolds, name_of, tag_faults, tag_of}
use Rattle.macs_frame.specs.declared.tag.Parts.{Parts}
use Rattle.macs_frame.specs.declared.tag.ScName.{ScName}
use Rattle.macs_frame.specs.declared.tag.ScName.TheVariants.{Explicit, EndStation, Implicit}
use Rattle.macs_frame.specs.declared.tag.TagFault.{TagFault}
use Rattle.macs_frame.specs.declared.tag.TagFault.TheVariants as tag
use Rattle.macs_c.specs.declared.fields.MacsTag.{MacsTag}
use Rattle.macs_c.specs.declared.refusals.Refusal.{Refusal}
use Rattle.macs_c.specs.declared.refusals.Refusal.TheVariants.{Runt, Oversize, NoTag, BadTag, ForKay}

-- the code of a way to name a channel
abbrev pub name_code : ScName → ℕ
name_code Implicit = 0
name_code (Explicit sci) = 1
name_code EndStation = 2

-- in place of an SCI that is not named
abbrev pub no_sci : List ℕ
no_sci = replicate 8 0

-- the contents of a SecTAG, which names no confidentiality offset
abbrev pub tag_for_c : List ℕ → MacsTag
tag_for_c frame = record {
  sci = record { octets = unwrap_or (named_sci frame (name_of frame)) no_sci };
  pn = (tag_of frame).pn;
  an = (tag_of frame).an;
  name = name_code (name_of frame);
  encrypted = if (tag_of frame).encrypted then 1 else 0;
  offset = 0;
}

-- a frame has a SecTAG that is not bad, and is not for the key agreement entity alone
abbrev pub IsReadable : List ℕ → Type 0
IsReadable frame = (parts : Parts) × Tag frame parts × (¬ IsForKay frame)

-- the refusal for a fault of a SecTAG
abbrev pub TagRefusal : TagFault → Refusal → Type 0
TagRefusal tag.Runt refusal = refusal ≡ Runt
TagRefusal tag.Oversize refusal = refusal ≡ Oversize
TagRefusal tag.NoTag refusal = refusal ≡ NoTag
TagRefusal tag.BadTag refusal = refusal ≡ BadTag
TagRefusal tag.ForKay refusal = refusal ≡ ForKay

-- a frame's first fault, and the refusal for it
abbrev pub IsUnreadable : List ℕ → Refusal → Type 0
IsUnreadable frame refusal = (fault : TagFault) × IsFirst (TagFaultHolds frame) tag_faults fault
    × TagRefusal fault refusal

-- the result of reading a SecTAG: the report before and after
abbrev pub ReadAnswer : List ℕ → (was is : MacsTag) → Option Refusal → Type 0
ReadAnswer frame was is None = IsReadable frame × (is ≡ tag_for_c frame)
ReadAnswer frame was is (Some refusal) = IsUnreadable frame refusal × (is ≡ was)
