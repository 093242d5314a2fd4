-- What a program in C is told of a SecTAG.
use Rattle.std.proofs.Common.{◌≡◌, ◌∙◌, ℕ, Bool, true, false, List, ap, refl}
use mir.Val.{bool_byte}
use Rattle.std.specs.Prelude.{if◌then◌else◌, unwrap_or}
use Rattle.macs_frame.specs.Opening.{named_sci}
use Rattle.macs_frame.specs.Tag.{tag_of}
use Rattle.macs_frame.specs.declared.tag.SecTag.{SecTag}
use Rattle.macs_c.specs.declared.fields.MacsSci.{MacsSci}
use Rattle.macs_c.specs.declared.fields.MacsTag.{MacsTag}
use Rattle.macs_c.specs.Reading.{name_code, no_sci, tag_for_c}

-- a bit as an octet
pub bit-octet : (is_set : Bool) → bool_byte is_set ≡ (if is_set then 1 else 0)
bit-octet true = refl
bit-octet false = refl

-- these fields
abbrev made : List ℕ → (pn an name encrypted : ℕ) → MacsTag
made octets pn an name encrypted = record {
  sci = record { octets = octets };
  pn = pn;
  an = an;
  name = name;
  encrypted = encrypted;
  offset = 0;
}

-- those of a SecTAG of a frame
abbrev fields_for_c : List ℕ → SecTag → MacsTag
fields_for_c frame tag =
    made (unwrap_or (named_sci frame tag.name) no_sci) tag.pn tag.an (name_code tag.name)
    (if tag.encrypted then 1 else 0)

pub tag-made : (frame : List ℕ) (tag : SecTag) (sci : MacsSci) (pn an name encrypted : ℕ) → tag ≡ tag_of frame
    → sci.octets ≡ unwrap_or (named_sci frame tag.name) no_sci → pn ≡ tag.pn → an ≡ tag.an → name ≡ name_code tag.name
    → encrypted ≡ (if tag.encrypted then 1 else 0)
    → record { sci = sci; pn = pn; an = an; name = name; encrypted = encrypted; offset = 0 } ≡ tag_for_c frame
tag-made frame tag sci pn an name encrypted is octets numbered association named hidden =
    let named_one = unwrap_or (named_sci frame tag.name) no_sci in
    ap (λ o. made o pn an name encrypted) octets
    ∙ (ap (λ n. made named_one n an name encrypted) numbered
    ∙ (ap (λ n. made named_one tag.pn n name encrypted) association
    ∙ (ap (λ n. made named_one tag.pn tag.an n encrypted) named
    ∙ (ap (λ n. made named_one tag.pn tag.an (name_code tag.name) n) hidden ∙ ap (fields_for_c frame) is))))
