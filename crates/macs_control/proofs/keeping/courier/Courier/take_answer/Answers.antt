use Rattle.macs_control.proofs.Carried.{heard-held}
use Rattle.macs_control.proofs.CourierCalls.{hears-said}
use Rattle.macs_control.proofs.keeping.courier.Courier.take_answer.Goals as goal

pub returns-clause-some : goal.returns-clause-some
returns-clause-some g c =
    rw (← c.self.view_is, c.clear.ensures) (hears-said _ _ c.args.call.now c.end_of-end.new.read c.as_slice.result.now _
    c.end_of-end.result c.as_slice.ensures.value (heard-held _ _) c.end_of-end.ensures.done
    c.end_of-end.ensures.fault)
