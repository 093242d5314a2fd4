use Rattle.std.proofs.Common.{◌≡◌, ◌⊎◌, ◌∙◌, false, None, Result, Ok, Err, sym, ap, subst}
use Rattle.std.specs.Option.{option_map}
use Rattle.std.proofs.lemmas.Result.{err_from_is_err_and}
use Rattle.macs_journal.specs.declared.fault.JournalFault.{JournalFault}
use Rattle.macs_store.specs.Stepping.{Finishes}
use Rattle.macs_store.specs.Value.{standing_in}
use Rattle.macs_endpoint.specs.Faults.{refill_fault_of}
use Rattle.macs_endpoint.specs.Parts.{endpoint_of, raise_of}
use Rattle.macs_endpoint.specs.Queue.{QueueValue}
use Rattle.macs_endpoint.specs.Reserving.{ReservationEnds}
use Rattle.macs_endpoint.specs.Value.{EndpointValue, IsAtRest, IsReserving, IsSoundEndpoint, is_stopped}
use Rattle.macs_endpoint.proofs.Ended.{IsDone, faulted-ends, faulted-kept, finish-done, finished-ends, may-lift}
use Rattle.macs_endpoint.proofs.Ended.{none-ends, none-reserving, raised-kept, raised_to, which-reserving}
use Rattle.macs_endpoint.proofs.endpoint.Endpoint.finish_reservation.Given.{Over}
use Rattle.macs_endpoint.proofs.endpoint.Endpoint.finish_reservation.Goals.{After-finish, After-end_raise}
use Rattle.macs_endpoint.proofs.endpoint.Endpoint.finish_reservation.Goals as goal

module _ (g : Over) (c : After-end_raise g) where
  abbrev old : EndpointValue g.row.D.Denot
  old = endpoint_of c.self.inside.store c.self.inside.channels c.self.inside.queue c.self.inside.turn

  running : is_stopped old ≡ false
  running = rw (← c.self.view_is) at c.requires.running

  work : IsAtRest old ⊎ IsReserving old
  work = rw (← c.self.view_is) at c.requires.work

pub returns-in_default : goal.returns-in_default
returns-in_default g c =
    let at = (goal.at.returns-in_default g c).After-end_raise in
    let none : c.self.inside.queue.reserving ≡ None = sym c.end_raise.ensures.value ∙ c.in_default.is in
    let same : c.self.inside.queue ≡ c.end_raise.new.self =
    (λ i. record c.self.inside.queue { reserving = none i }) ∙ sym c.end_raise.ensures.after in
    rw (← c.self.view_is) (subst (λ (q : QueueValue). ReservationEnds g.D.SectorDisk.disk (old g at) (Ok tt)
    (endpoint_of c.self.inside.store c.self.inside.channels q c.self.inside.turn)) same
    (none-ends g.D.SectorDisk.disk (old g at) c.self.invariant (ap (option_map raise_of) none)
    (none-reserving (old g at) (ap (option_map raise_of) none) (work g at))))

module _ (g : Over) (c : After-finish g) where
  abbrev before : EndpointValue g.row.D.Denot
  before = endpoint_of c.self.inside.store c.self.inside.channels c.self.inside.queue c.self.inside.turn

  runs : is_stopped before ≡ false
  runs = rw (← c.self.view_is) at c.requires.running

  which : (w : IsReserving before) × (w.raise ≡ raise_of c.in-Some.raise)
  which = which-reserving before (raise_of c.in-Some.raise)
      (ap (option_map raise_of) (sym c.end_raise.ensures.value ∙ c.in-Some.is))
      (rw (← c.self.view_is) at c.requires.work)

  finishes : (result : Result (Unit {0}) JournalFault) → c.finish.result ≡ result
      → Finishes g.D.SectorDisk.disk c.self.inside.store result c.finish.new.self
  finishes result is =
      subst (λ (r : Result (Unit {0}) JournalFault).
      Finishes g.D.SectorDisk.disk c.self.inside.store r c.finish.new.self) is c.finish.ensures

  done : c.finish.result ≡ Ok tt → IsDone g.D.SectorDisk.disk c.self.inside.store
      (raised_to g.D.SectorDisk.disk before c.self.invariant which.0) c.finish.new.self
  done is =
      finish-done g.D.SectorDisk.disk c.self.inside.store
      (raised_to g.D.SectorDisk.disk before c.self.invariant which.0) which.0.leads c.finish.new.self
      runs (finishes (Ok tt) is)

pub raise-requires : goal.raise-requires
raise-requires g c =
    let at = (goal.at.raise-requires g c).After-finish in
    may-lift (before g at) c.self.invariant (which g at).0 (raise_of c.in-Some.raise) (which g at).1
    (standing_in c.finish.new.self)
    (done g at c.in_ok-finish.was).stands

pub invariant_of-self-in_err-finish : goal.invariant_of-self-in_err-finish
invariant_of-self-in_err-finish g c =
    let at = (goal.at.invariant_of-self-in_err-finish g c).After-finish in
    subst (λ (q : QueueValue).
    IsSoundEndpoint (endpoint_of c.finish.new.self c.self.inside.channels q c.self.inside.turn))
    (sym c.end_raise.ensures.after)
    (faulted-kept g.D.SectorDisk.disk (before g at) c.self.invariant (runs g at) (which g at).0 c.finish.new.self
    c.in_err-finish.field-0.0
    (finishes g at (Err c.in_err-finish.field-0.0) c.in_err-finish.was))

pub returns-in_err-finish : goal.returns-in_err-finish
returns-in_err-finish g c =
    let at = (goal.at.returns-in_err-finish g c).After-finish in
    let risen = err_from_is_err_and c.from_residual.result c.from_residual.ensures.1 in
    rw (← c.self.view_is) (rw (risen.1, risen.2)
    (subst (λ (q : QueueValue).
    ReservationEnds g.D.SectorDisk.disk (before g at) (Err (refill_fault_of c.in_err-finish.field-0.0))
    (endpoint_of c.finish.new.self c.self.inside.channels q c.self.inside.turn)) (sym c.end_raise.ensures.after)
    (faulted-ends g.D.SectorDisk.disk (before g at) c.self.invariant (runs g at) (which g at).0 c.finish.new.self
    c.in_err-finish.field-0.0
    (finishes g at (Err c.in_err-finish.field-0.0) c.in_err-finish.was))))

pub invariant_of-self-2 : goal.invariant_of-self-2
invariant_of-self-2 g c =
    let at = (goal.at.invariant_of-self-2 g c).After-finish in
    let lifted = c.raise.ensures in
    subst (λ (q : QueueValue).
    IsSoundEndpoint (endpoint_of c.finish.new.self c.raise.new.self q c.self.inside.turn))
    (sym c.end_raise.ensures.after)
    (raised-kept g.D.SectorDisk.disk (before g at) c.self.invariant (which g at).0 c.finish.new.self
    (done g at c.in_ok-finish.was)
    c.raise.new.self.tx c.raise.new.self.rx (before g at).turn lifted.channels lifted.tx_side lifted.rx_side)

pub returns : goal.returns
returns g c =
    let at = (goal.at.returns g c).After-finish in
    let lifted = c.raise.ensures in
    rw (← c.self.view_is) (subst (λ (q : QueueValue). ReservationEnds g.D.SectorDisk.disk (before g at) (Ok tt)
    (endpoint_of c.finish.new.self c.raise.new.self q c.self.inside.turn)) (sym c.end_raise.ensures.after)
    (finished-ends g.D.SectorDisk.disk (before g at) c.self.invariant (runs g at) (which g at).0 c.finish.new.self
    (finishes g at (Ok tt) c.in_ok-finish.was)
    c.raise.new.self.tx c.raise.new.self.rx lifted.channels lifted.tx_side lifted.rx_side lifted.tx_counters
    lifted.rx_counters lifted.channel_counters))
