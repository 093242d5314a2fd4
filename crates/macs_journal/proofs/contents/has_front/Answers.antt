use Rattle.std.proofs.Common.{drop, length}
use Rattle.std.specs.Cmp.{unsigned_Decides}
use Rattle.std.proofs.lemmas.Slice.Eq.{starts_is}
use Rattle.macs_journal.proofs.contents.has_front.Goals as goal

pub returns : goal.returns
returns c =
    let known = starts_is unsigned_Decides c.args.sector.now c.args.front.now c.starts_with.result
    c.starts_with.ensures.value in
    (λ is. (drop (length c.args.front.now) c.args.sector.now, known.0 is), λ begins. known.1 begins.0 begins.1)
