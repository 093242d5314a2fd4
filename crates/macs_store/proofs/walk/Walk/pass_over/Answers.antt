use Rattle.std.proofs.Common.{false, sym}
use Rattle.macs_store.proofs.Passing.{past-as}
use Rattle.macs_store.proofs.walk.Walk.pass_over.Goals as goal

pub returns-clause-walked : goal.returns-clause-walked
returns-clause-walked c value = past-as c.args.self.now value false (sym c.requires.other)
