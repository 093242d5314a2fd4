use Rattle.std.proofs.Common.{refl}
use Rattle.macs_control.specs.Links.{line_of}
use Rattle.macs_control.proofs.KeeperWork.{keeps}
use Rattle.macs_control.proofs.keeping.keeper.keep_for.Goals as goal

pub returns-then-greet : goal.returns-then-greet
returns-then-greet g c =
    keeps _ (line_of g.C.Connection.link g.C.Connection.steady c.args.client.now) _ c.serve.result _ _
    (rw c.if-greet.true at c.greet.ensures.given) (rw c.greet.ensures.still at c.serve.ensures)

pub returns-else-greet : goal.returns-else-greet
returns-else-greet g c = (refl, rw c.if-greet.false at c.greet.ensures.given)
