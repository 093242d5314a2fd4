use Rattle.std.proofs.Common.{refl}
use Rattle.macs_c.proofs.Ranges.{in_range}
use Rattle.macs_c.proofs.fields.tag_from_c.Goals as goal

pub returns-clause-some : goal.returns-clause-some
returns-clause-some c = (
  λ found. in_range c.args.tag.now (c.in_ok-an.ensures.within.0 refl) (c.in_ok-pn.ensures.within.0 refl)
      c.if-tag-gt2.false c.if-tag-gt1.false
      (c.in_ok-offset.ensures.some.0 refl),
  λ is. refl,
)
