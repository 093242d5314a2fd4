use Rattle.std.proofs.Common.{◌≡◌, ◌∙◌, Some, None, Ok, Err, true, false, is_err, sym, ap, subst}
use Rattle.macs_config.specs.declared.command.Command.{Command}
use Rattle.macs_endpoint.specs.KeptCommands.{KeepsCommand}
use Rattle.macs_endpoint.specs.Parts.{endpoint_of}
use Rattle.macs_endpoint.specs.Reserving.{ReservationEnds}
use Rattle.macs_endpoint.specs.Value.{EndpointValue, IsSoundEndpoint, is_stopped}
use Rattle.macs_endpoint.specs.declared.fault.CommandFault.TheVariants.{Disk}
use Rattle.macs_endpoint.specs.declared.fault.RefillFault.TheVariants as refill
use Rattle.macs_endpoint.specs.declared.turn.Turn.TheVariants.{Reservation}
use Rattle.macs_endpoint.proofs.Working.{none-kept}
use Rattle.macs_endpoint.proofs.KeptBehind.{behind-accepted, behind-keeps, behind-none, behind-running, cut-before}
use Rattle.macs_endpoint.proofs.KeptBehind.{cut-free, cut-short-kept, ended-cut, ended-well, stopped}
use Rattle.macs_endpoint.proofs.Parts.{commanded}
use Rattle.macs_endpoint.proofs.Work.{free-under_way}
use Rattle.macs_endpoint.proofs.endpoint.Endpoint.keep.Given.{Over}
use Rattle.macs_endpoint.proofs.endpoint.Endpoint.keep.Goals.{After-cut, After-finish_reservation}
use Rattle.macs_endpoint.proofs.endpoint.Endpoint.keep.Goals as goal

module _ (g : Over) (c : After-finish_reservation g) where
  -- no command is under way
  free : c.args.self.now.under_way ≡ None
  free = free-under_way c.args.self.now c.facts.ensures c.requires.none c.requires.running

  cut : is_err c.finish_reservation.result ≡ true
      → ReservationEnds g.D.SectorDisk.disk c.args.self.now (Err refill.Disk) c.finish_reservation.new.self
  cut is = ended-cut g.D.SectorDisk.disk c.args.self.now c.finish_reservation.new.self c.finish_reservation.result is
      c.finish_reservation.ensures

  ended : is_err c.finish_reservation.result ≡ false
      → ReservationEnds g.D.SectorDisk.disk c.args.self.now (Ok tt) c.finish_reservation.new.self
  ended is = ended-well g.D.SectorDisk.disk c.args.self.now c.finish_reservation.new.self c.finish_reservation.result is
      c.finish_reservation.ensures

pub finish_reservation-requires-clause-work : goal.finish_reservation-requires-clause-work
finish_reservation-requires-clause-work g c = none-kept c.args.self.now c.facts.ensures c.requires.none

-- the command is cut short with the reservation
cut_too : (g : Over) (c : After-cut g)
    → c.cut.new.self ≡ record c.self.inside.queue { under_way = Some c.args.checked.now; reserving = None }
cut_too g c =
    c.cut.ensures ∙ ap (λ (command : Command). record c.self.inside.queue {
      under_way = Some command;
      reserving = None;
    }) c.command.ensures

pub invariant_of-self : goal.invariant_of-self
invariant_of-self g c =
    let at = (goal.at.invariant_of-self g c).After-finish_reservation in
    let halted = stopped g.D.SectorDisk.disk c.args.self.now c.args.checked.now c.requires.in_range c.requires.running
    c.requires.none (free g at) c.requires.accepted
    c.finish_reservation.new.self (cut g at (sym c.is_err.ensures.value ∙ c.if-is_err.true)) in
    let here = ap (λ (e : EndpointValue g.row.D.Denot). is_stopped e) c.self.view_is ∙ halted in
    let mid = endpoint_of c.self.inside.store c.self.inside.channels c.self.inside.queue c.self.inside.turn in
    commanded c.self.inside.store c.self.inside.channels c.self.inside.queue c.cut.new.self Reservation IsSoundEndpoint
    (Some c.args.checked.now) (cut_too g (goal.at.invariant_of-self g c).After-cut)
    (cut-free mid c.self.invariant here) (cut-short-kept mid c.args.checked.now c.self.invariant here)

pub returns-then-is_err : goal.returns-then-is_err
returns-then-is_err g c =
    let at = (goal.at.returns-then-is_err g c).After-finish_reservation in
    let d = g.D.SectorDisk.disk in
    let e = c.args.self.now in
    let ends = cut g at (sym c.is_err.ensures.value ∙ c.if-is_err.true) in
    let halted = stopped d e c.args.checked.now c.requires.in_range c.requires.running
    c.requires.none (free g at) c.requires.accepted c.finish_reservation.new.self ends in
    let here = ap (λ (x : EndpointValue g.row.D.Denot). is_stopped x) c.self.view_is ∙ halted in
    let mid = endpoint_of c.self.inside.store c.self.inside.channels c.self.inside.queue c.self.inside.turn in
    commanded c.self.inside.store c.self.inside.channels c.self.inside.queue c.cut.new.self Reservation
    (KeepsCommand d e c.args.checked.now (Err Disk)) (Some c.args.checked.now)
    (cut_too g (goal.at.returns-then-is_err g c).After-cut) (cut-free mid c.self.invariant here)
    (subst (λ (x : EndpointValue g.row.D.Denot). KeepsCommand d e c.args.checked.now (Err Disk)
    (record x { under_way = Some c.args.checked.now; turn = Reservation }))
    (sym c.self.view_is)
    (cut-before d e c.args.checked.now c.requires.in_range c.requires.running c.requires.none (free g at)
    c.requires.accepted
    c.finish_reservation.new.self ends))

pub commit-requires-clause-running : goal.commit-requires-clause-running
commit-requires-clause-running g c =
    let at = (goal.at.commit-requires-clause-running g c).After-finish_reservation in
    behind-running g.D.SectorDisk.disk c.args.self.now c.args.checked.now c.requires.in_range c.requires.running
    c.requires.none (free g at) c.requires.accepted
    c.finish_reservation.new.self (ended g at (sym c.is_err.ensures.value ∙ c.if-is_err.false))

pub commit-requires-clause-none : goal.commit-requires-clause-none
commit-requires-clause-none g c =
    let at = (goal.at.commit-requires-clause-none g c).After-finish_reservation in
    behind-none g.D.SectorDisk.disk c.args.self.now c.args.checked.now c.requires.in_range c.requires.running
    c.requires.none (free g at) c.requires.accepted
    c.finish_reservation.new.self (ended g at (sym c.is_err.ensures.value ∙ c.if-is_err.false))

pub commit-requires-clause-accepted : goal.commit-requires-clause-accepted
commit-requires-clause-accepted g c =
    let at = (goal.at.commit-requires-clause-accepted g c).After-finish_reservation in
    behind-accepted g.D.SectorDisk.disk c.args.self.now c.args.checked.now c.requires.in_range c.requires.running
    c.requires.none (free g at) c.requires.accepted
    c.finish_reservation.new.self (ended g at (sym c.is_err.ensures.value ∙ c.if-is_err.false))

pub returns : goal.returns
returns g c =
    let at = (goal.at.returns g c).After-finish_reservation in
    behind-keeps g.D.SectorDisk.disk c.args.self.now c.args.checked.now c.requires.in_range c.requires.running
    c.requires.none (free g at) c.requires.accepted
    c.finish_reservation.new.self (ended g at (sym c.is_err.ensures.value ∙ c.if-is_err.false)) c.commit.result
    c.commit.new.self c.commit.ensures
