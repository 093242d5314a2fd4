use Rattle.std.proofs.Common.{◌∙◌, arith, refl}
use Rattle.macs_c.proofs.ReadTags.{bit-octet, tag-made}
use Rattle.macs_c.proofs.reading.read_for_c.Goals as goal

pub sci_named-requires : goal.sci_named-requires
sci_named-requires c =
    let long = ((c.in-Ok.ensures.parts c.in-Ok.parts).0 refl).0.long_enough in
    omega (arith, long)

pub returns-in-Ok-clause-read : goal.returns-in-Ok-clause-read
returns-in-Ok-clause-read c =
    let (tag, other) = (c.in-Ok.ensures.parts c.in-Ok.parts).0 refl in (
      (c.in-Ok.parts, tag, other),
      tag-made c.args.frame.now c.in-Ok.parts.tag c.sci_named.result _ _ _ _ tag.reading.tag
          c.sci_named.ensures c.get.ensures.value c.get-in-Ok.ensures.value c.code_of_name.ensures
          (c.from.ensures ∙ bit-octet c.in-Ok.parts.tag.encrypted),
    )

pub returns-in-Err-clause-refused : goal.returns-in-Err-clause-refused
returns-in-Err-clause-refused c =
    (c.in-Err.fault, (c.in-Err.ensures.fault c.in-Err.fault).0 refl, c.refusal_of_tag.ensures)
