use Rattle.std.proofs.Common.{◌∙◌, string_bytes, inl, refl}
use Rattle.std.proofs.lemmas.Result.{IfOk-weaker}
use Rattle.macs_offline.proofs.Inspected.{has_short_length, says_tag}
use Rattle.macs_offline.proofs.inspect.said_of.Goals as goal

pub short_length-requires : goal.short_length-requires
short_length-requires c =
    has_short_length c.args.frame.now c.in-Ok.parts ((c.read_tag.ensures.parts c.in-Ok.parts).0 c.in-Ok.is).0

pub returns-in-Ok : goal.returns-in-Ok
returns-in-Ok c =
    IfOk-weaker c.tag_text.result _ _
    (λ text said. says_tag c.args.frame.now c.in-Ok.parts _ _ (string_bytes text)
    ((c.read_tag.ensures.parts c.in-Ok.parts).0 c.in-Ok.is) c.short_length.ensures
    refl said) c.tag_text.ensures

pub returns-in-Err : goal.returns-in-Err
returns-in-Err c =
    IfOk-weaker c.from_str.result _ _
    (λ text is. inl (
      c.in-Err.fault,
      (c.read_tag.ensures.fault c.in-Err.fault).0 c.in-Err.is,
      is
          ∙ c.refusal_text.ensures,
    )) c.from_str.ensures.ok
