use Rattle.std.proofs.Common.{◌∙◌, false, sym, true}
use Rattle.macs_store.proofs.Passing.{past-as}
use Rattle.macs_store.proofs.walk.Walk.pass.Goals as goal

pub returns-then-is_here-clause-walked : goal.returns-then-is_here-clause-walked
returns-then-is_here-clause-walked c =
    past-as c.args.self.now c.args.value true (sym c.if-is_here.true ∙ c.is_here-is_here.ensures)

pub returns-else-is_here-clause-walked : goal.returns-else-is_here-clause-walked
returns-else-is_here-clause-walked c =
    past-as c.args.self.now c.args.value false (sym c.if-is_here.false ∙ c.is_here-is_here.ensures)
