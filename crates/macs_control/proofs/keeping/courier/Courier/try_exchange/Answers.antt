use Rattle.std.proofs.Common.{refl}
use Rattle.macs_control.proofs.CourierCalls.{awaits, exchanged-if, exchanged-not}
use Rattle.macs_control.proofs.keeping.courier.Courier.try_exchange.Goals as goal

pub returns-then-begin-clause-waits : goal.returns-then-begin-clause-waits
returns-then-begin-clause-waits g c = λ none.
    awaits _ _ _ c.args.call.now (rw c.if-begin.true at c.begin.ensures) (c.answer.ensures.still none)

pub returns-then-begin-clause-end : goal.returns-then-begin-clause-end
returns-then-begin-clause-end g c =
    exchanged-if _ _ _ c.args.call.now _ c.answer.result (rw c.if-begin.true at c.begin.ensures) c.answer.ensures.end

pub returns-else-begin-clause-end : goal.returns-else-begin-clause-end
returns-else-begin-clause-end g c =
    exchanged-not _ _ c.args.call.now _ _ (rw c.if-begin.false at c.begin.ensures) refl
