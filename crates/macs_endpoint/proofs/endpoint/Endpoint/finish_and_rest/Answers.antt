use Rattle.std.proofs.Common.{◌≡◌, ◌∙◌, Ok, Err, is_err, true, false, sym, ap}
use Rattle.macs_endpoint.specs.Reserving.{ReservationEnds}
use Rattle.macs_endpoint.specs.State.{no_logs}
use Rattle.macs_endpoint.specs.declared.fault.RefillFault.TheVariants as refill
use Rattle.macs_endpoint.proofs.KeptBehind.{ended-cut, ended-well}
use Rattle.macs_endpoint.proofs.Rested.{rest-cut-before, rests-after}
use Rattle.macs_endpoint.proofs.endpoint.Endpoint.finish_and_rest.Given.{Over}
use Rattle.macs_endpoint.proofs.endpoint.Endpoint.finish_and_rest.Goals.{After-finish_reservation}
use Rattle.macs_endpoint.proofs.endpoint.Endpoint.finish_and_rest.Goals as goal

module _ (g : Over) (c : After-finish_reservation g) where
  cut : is_err c.finish_reservation.result ≡ true
      → ReservationEnds g.D.SectorDisk.disk c.args.self.now (Err refill.Disk) c.finish_reservation.new.self
  cut is = ended-cut g.D.SectorDisk.disk c.args.self.now c.finish_reservation.new.self c.finish_reservation.result is
      c.finish_reservation.ensures

  ended : is_err c.finish_reservation.result ≡ false
      → ReservationEnds g.D.SectorDisk.disk c.args.self.now (Ok tt) c.finish_reservation.new.self
  ended is = ended-well g.D.SectorDisk.disk c.args.self.now c.finish_reservation.new.self c.finish_reservation.result is
      c.finish_reservation.ensures

pub returns-then-is_err : goal.returns-then-is_err
returns-then-is_err g c =
    let at = (goal.at.returns-then-is_err g c).After-finish_reservation in
    rest-cut-before g.D.SectorDisk.disk c.args.self.now c.finish_reservation.new.self
    (cut g at (sym c.is_err.ensures.value ∙ c.if-is_err.true))

pub rest_idle-requires-clause-running : goal.rest_idle-requires-clause-running
rest_idle-requires-clause-running g c =
    let at = (goal.at.rest_idle-requires-clause-running g c).After-finish_reservation in
    ap (λ s. s.stopped) ((ended g at (sym c.is_err.ensures.value ∙ c.if-is_err.false)).reserves.step no_logs)
    ∙ c.requires.running

pub returns : goal.returns
returns g c =
    let at = (goal.at.returns g c).After-finish_reservation in
    rests-after g.D.SectorDisk.disk c.args.self.now c.finish_reservation.new.self c.rest_idle.new.self
    (ended g at (sym c.is_err.ensures.value ∙ c.if-is_err.false)) c.rest_idle.result c.rest_idle.ensures
