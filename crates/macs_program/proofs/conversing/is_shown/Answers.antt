use Rattle.std.proofs.Common.{◌∙◌}
use Rattle.std.specs.Cmp.{unsigned_Decides}
use Rattle.std.proofs.lemmas.Slice.Eq.{starts_is}
use Rattle.macs_program.proofs.Told.{shown-by}
use Rattle.macs_program.proofs.conversing.is_shown.Goals as goal

pub returns : goal.returns
returns c =
    let known = starts_is unsigned_Decides c.as_slice.result.now c.as_bytes.result.now c.starts_with.result
    c.starts_with.ensures.value in
    shown-by _ _ _ _ c.starts_with.result (c.as_bytes.ensures.value ∙ c.as_str.ensures.value ∙ c.in_ok-line.ensures)
    c.as_slice.ensures.value known.0 known.1
