use Rattle.std.proofs.Common.{length, refl, subst}
use Rattle.macs_config.specs.Identity.{Identity}
use Rattle.macs_c.specs.ImageDisks.{image_of}
use Rattle.macs_c.specs.Formatted.{IsFilled, identity_of}
use Rattle.macs_c.proofs.Filled.{formats}
use Rattle.macs_c.proofs.formatting.format.Goals as goal

pub returns : goal.returns
returns c =
    let old = image_of c.args.sectors.now in
    let new = image_of c.fill.new.sectors in (
      c.in-Some.ensures.within.0 refl,
      c.fill.ensures.size,
      formats (length c.args.sectors.now) old (identity_of c.args.asked.now) new c.if-sectors-lt-LEAST_SECTORS.false
          c.if-has_open_head.ensures.clear
          (subst (λ (identity : Identity). IsFilled old identity new) c.in-Some.ensures.value c.fill.ensures.filled),
    )
