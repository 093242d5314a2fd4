use Rattle.std.proofs.Common.{refl}
use Rattle.macs_control.proofs.CourierCalls.{exchanged, exchanged-not}
use Rattle.macs_control.proofs.keeping.courier.Courier.exchange.Goals as goal

pub returns-then-begin : goal.returns-then-begin
returns-then-begin g c =
    exchanged _ _ _ c.args.call.now _ c.await_answer.result (rw c.if-begin.true at c.begin.ensures)
    c.await_answer.ensures

pub returns-else-begin : goal.returns-else-begin
returns-else-begin g c = exchanged-not _ _ c.args.call.now _ _ (rw c.if-begin.false at c.begin.ensures) refl
