use Rattle.std.proofs.Common.{◌≡◌, ◌∙◌, Result, Ok, Err, ap, subst}
use Rattle.std.proofs.lemmas.Result.{err_from_is_err_and}
use Rattle.macs_endpoint.specs.Reserving.{ReservationEnds}
use Rattle.macs_endpoint.specs.State.{no_logs}
use Rattle.macs_endpoint.specs.declared.fault.RefillFault.{RefillFault}
use Rattle.macs_endpoint.proofs.RefillCall.{all-behind, cut-behind}
use Rattle.macs_endpoint.proofs.endpoint.Endpoint.finish_and_reserve.Given.{Over}
use Rattle.macs_endpoint.proofs.endpoint.Endpoint.finish_and_reserve.Goals.{After-finish_reservation}
use Rattle.macs_endpoint.proofs.endpoint.Endpoint.finish_and_reserve.Goals as goal

-- what is said of the reservation under way
ends : (g : Over) (c : After-finish_reservation g) (result : Result (Unit {0}) RefillFault)
    → c.finish_reservation.result ≡ result
    → ReservationEnds g.D.SectorDisk.disk c.args.self.now result c.finish_reservation.new.self
ends g c result is =
    subst (λ (r : Result (Unit {0}) RefillFault).
    ReservationEnds g.D.SectorDisk.disk c.args.self.now r c.finish_reservation.new.self) is
    c.finish_reservation.ensures

pub returns-in_err-finish_reservation : goal.returns-in_err-finish_reservation
returns-in_err-finish_reservation g c =
    let at = (goal.at.returns-in_err-finish_reservation g c).After-finish_reservation in
    let fault = c.in_err-finish_reservation.field-0.0 in
    let risen = err_from_is_err_and c.from_residual.result c.from_residual.ensures.1 in
    rw (risen.1, risen.2) (cut-behind g.D.SectorDisk.disk c.args.self.now c.finish_reservation.new.self fault
    (ends g at (Err fault) c.in_err-finish_reservation.was))

pub reserve-requires-clause-running : goal.reserve-requires-clause-running
reserve-requires-clause-running g c =
    let at = (goal.at.reserve-requires-clause-running g c).After-finish_reservation in
    ap (λ s. s.stopped) ((ends g at (Ok tt) c.in_ok-finish_reservation.was).reserves.step no_logs) ∙ c.requires.running

pub returns : goal.returns
returns g c =
    let at = (goal.at.returns g c).After-finish_reservation in
    all-behind g.D.SectorDisk.disk c.args.self.now c.finish_reservation.new.self c.reserve.new.self c.reserve.result
    (ends g at (Ok tt) c.in_ok-finish_reservation.was) c.reserve.ensures
