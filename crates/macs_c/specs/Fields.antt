-- The fields of a frame that is sealed, as a C program passes them.
use Rattle.std.specs.Prelude.{◌&&◌, ◌||◌, ◌==◌, ℕ, Bool, if◌then◌else◌, nat_lt}
use Rattle.macs_frame.specs.declared.tag.ScName.{ScName}
use Rattle.macs_frame.specs.declared.tag.ScName.TheVariants.{Explicit, EndStation, Implicit}
use Rattle.macs_frame.specs.declared.tag.SecTag.{SecTag}
use Rattle.macs_c.specs.declared.fields.MacsTag.{MacsTag}

-- a confidentiality offset is 0, 30 or 50 (IEEE Std 802.1AE-2018, 14.5)
abbrev pub is_offset : ℕ → Bool
is_offset octets = (octets == 0) || (octets == 30) || (octets == 50)

-- the fields are in their ranges
abbrev pub is_in_range : MacsTag → Bool
is_in_range tag = nat_lt tag.an 4 && nat_lt 0 tag.pn && nat_lt tag.name 3 && nat_lt tag.encrypted 2
    && is_offset tag.offset

-- how the SecTAG names the channel (9.5, 9.9)
abbrev pub name_of : MacsTag → ScName
name_of tag = if tag.name == 1 then Explicit tag.sci.octets else if tag.name == 2 then EndStation else Implicit

-- the SecTAG: E and C are equal (9.5)
abbrev pub sec_tag : MacsTag → SecTag
sec_tag tag = record {
  an = tag.an;
  pn = tag.pn;
  name = name_of tag;
  encrypted = tag.encrypted == 1;
  changed =
      tag.encrypted == 1;
}
