use Rattle.std.proofs.lemmas.Option.{none-some}
use Rattle.macs_control.specs.Couriers.{done_answer}
use Rattle.macs_control.proofs.CourierCalls.{whole-sector}
use Rattle.macs_control.proofs.keeping.courier.end_of.Goals as goal

pub returns-in_default-clause-fault : goal.returns-in_default-clause-fault
returns-in_default-clause-fault c = λ read size is.
    none-some (done_answer c.args.call.now read)
    (c.in_default.ensures.found (done_answer c.args.call.now read) (whole-sector c.args.call.now read size) is)
