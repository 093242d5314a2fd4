use Rattle.std.proofs.Common.{◌≡◌, inr, Result, Ok, Err, IsErrOf, sym, subst}
use Rattle.std.proofs.lemmas.Result.{err_from_is_err_and}
use Rattle.macs_journal.specs.declared.fault.JournalFault.{JournalFault}
use Rattle.macs_journal.specs.declared.fault.JournalFault.TheVariants as journal
use Rattle.macs_endpoint.specs.Faults.{refill_fault_of}
use Rattle.macs_endpoint.specs.Reserving.{Raised, StartsRaise}
use Rattle.macs_endpoint.specs.Parts.{raise_of}
use Rattle.macs_endpoint.specs.Value.{EndpointValue}
use Rattle.macs_endpoint.proofs.Ended.{begun-raised, spent-raised}
use Rattle.macs_endpoint.proofs.endpoint.Endpoint.raise.Given.{Over}
use Rattle.macs_endpoint.proofs.endpoint.Endpoint.raise.Goals.{After-start_raise}
use Rattle.macs_endpoint.proofs.endpoint.Endpoint.raise.Goals as goal

-- what is said of its start
starts : (g : Over) (c : After-start_raise g) (result : Result (Unit {0}) JournalFault) → c.start_raise.result ≡ result
    → StartsRaise g.D.SectorDisk.disk c.args.self.now (raise_of c.args.raise) result c.start_raise.new.self
starts g c result is =
    subst (λ (r : Result (Unit {0}) JournalFault).
    StartsRaise g.D.SectorDisk.disk c.args.self.now (raise_of c.args.raise) r c.start_raise.new.self) is
    c.start_raise.ensures

spent_is : (at : JournalFault) → IsErrOf {T = Unit {0}} (Err at) journal.GenerationsSpent
    → at ≡ journal.GenerationsSpent
spent_is at is = cc

pub returns-in_err-start_raise : goal.returns-in_err-start_raise
returns-in_err-start_raise g c =
    let at = (goal.at.returns-in_err-start_raise g c).After-start_raise in
    let fault = c.in_err-start_raise.field-0.0 in
    let refused = (starts g at (Err fault) c.in_err-start_raise.was).refused in
    let risen = err_from_is_err_and c.from_residual.result c.from_residual.ensures.1 in
    rw (risen.1, risen.2)
    (subst (λ (f : JournalFault). Raised g.D.SectorDisk.disk c.args.self.now (raise_of c.args.raise)
    (Err (refill_fault_of f)) c.start_raise.new.self)
    (sym (spent_is fault refused.0))
    (subst (λ (e : EndpointValue g.row.D.Denot). Raised g.D.SectorDisk.disk c.args.self.now (raise_of c.args.raise)
    (Err (refill_fault_of journal.GenerationsSpent)) e)
    (sym refused.1)
    (spent-raised g.D.SectorDisk.disk c.args.self.now (raise_of c.args.raise) c.requires.idle refused.2)))

pub finish_reservation-requires-clause-running : goal.finish_reservation-requires-clause-running
finish_reservation-requires-clause-running g c =
    let at = (goal.at.finish_reservation-requires-clause-running g c).After-start_raise in
    (starts g at (Ok tt) c.in_ok-start_raise.was).reserving.running

pub finish_reservation-requires-clause-work : goal.finish_reservation-requires-clause-work
finish_reservation-requires-clause-work g c =
    let at = (goal.at.finish_reservation-requires-clause-work g c).After-start_raise in
    inr (starts g at (Ok tt) c.in_ok-start_raise.was).reserving

pub returns : goal.returns
returns g c =
    let at = (goal.at.returns g c).After-start_raise in
    let made = starts g at (Ok tt) c.in_ok-start_raise.was in
    begun-raised g.D.SectorDisk.disk c.args.self.now made.sound c.requires.running c.requires.idle
    (raise_of c.args.raise) c.requires.first
    c.start_raise.new.self.store made.under_way c.start_raise.new.self c.finish_reservation.new.self
    c.finish_reservation.result made.taken
    made.room c.finish_reservation.ensures
