-- the answer was not there
use Rattle.macs_control.specs.Couriers.{IsUnheard}
use Rattle.macs_control.proofs.keeping.courier.Courier.await_answer.Given as goal

abbrev pub invariant-loop-look : goal.invariant-loop-look
invariant-loop-look g l = IsUnheard l.fn.self l.self
