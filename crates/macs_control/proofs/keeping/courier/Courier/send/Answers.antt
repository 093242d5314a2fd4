use Rattle.macs_control.proofs.CourierCalls.{said-from-free}
use Rattle.macs_control.proofs.keeping.courier.Courier.send.Goals as goal

pub returns-clause-said : goal.returns-clause-said
returns-clause-said g c =
    rw (← c.self.view_is) (said-from-free _ _ _ c.args.call.now c.request-request.result c.try_send-is_sent.result
    c.request-request.ensures c.try_send-is_sent.ensures.given)
