use Rattle.std.proofs.Common.{◌≡◌, false, Some, None, Result, Ok, refl, sym, subst}
use Rattle.macs_journal.specs.declared.fault.JournalFault.{JournalFault}
use Rattle.macs_store.specs.Stepping.{HasUnderWay, Starts}
use Rattle.macs_store.specs.Value.{IsIdle, standing_in}
use Rattle.macs_endpoint.specs.Ceilings.{standing_with_raise}
use Rattle.macs_endpoint.specs.Needed.{raise_in}
use Rattle.macs_endpoint.specs.Parts.{endpoint_of, raise_of}
use Rattle.macs_endpoint.specs.Reserving.{StartsRaise}
use Rattle.macs_endpoint.specs.State.{no_logs, rx_side, tx_side}
use Rattle.macs_endpoint.specs.Value.{EndpointValue, IsSoundEndpoint, is_stopped, state_of}
use Rattle.macs_endpoint.proofs.Begun.{first-rises}
use Rattle.macs_endpoint.proofs.Ended.{begun-kept, begun-reserving}
use Rattle.macs_endpoint.proofs.Parts.{raising}
use Rattle.macs_endpoint.proofs.Working.{at-rest}
use Rattle.macs_endpoint.proofs.endpoint.Endpoint.start_raise.Given.{Over}
use Rattle.macs_endpoint.proofs.endpoint.Endpoint.start_raise.Goals.{After-self, After-start_ceiling}
use Rattle.macs_endpoint.proofs.endpoint.Endpoint.start_raise.Goals as goal

module _ (g : Over) (c : After-self g) where
  abbrev old : EndpointValue g.row.D.Denot
  old = endpoint_of c.self.inside.store c.self.inside.channels c.self.inside.queue c.self.inside.turn

  running : is_stopped old ≡ false
  running = rw (← c.self.view_is) at c.requires.running

  idle : IsIdle old.store
  idle = rw (← c.self.view_is) at c.requires.idle

  first : raise_in old ≡ Some (raise_of c.args.raise)
  first = subst (λ (e : EndpointValue g.row.D.Denot). raise_in e ≡ Some (raise_of c.args.raise)) (sym c.self.view_is)
      c.requires.first

  -- no command is under way
  free : old.under_way ≡ None
  free = (at-rest old c.self.invariant idle).under_way running

pub start_ceiling-requires-clause-rises : goal.start_ceiling-requires-clause-rises
start_ceiling-requires-clause-rises g c =
    let at = (goal.at.start_ceiling-requires-clause-rises g c).After-self in
    first-rises (standing_in c.self.inside.store) (tx_side (state_of (old g at) no_logs))
    (rx_side (state_of (old g at) no_logs)) (raise_of c.args.raise) (first g at)

-- what the store says of it
starts : (g : Over) (c : After-start_ceiling g) (result : Result (Unit {0}) JournalFault)
    → c.start_ceiling.result ≡ result
    → Starts g.D.SectorDisk.disk c.self.inside.store
    (standing_with_raise (standing_in c.self.inside.store) (raise_of c.args.raise)) result c.start_ceiling.new.store
starts g c result is =
    subst (λ (r : Result (Unit {0}) JournalFault). Starts g.D.SectorDisk.disk c.self.inside.store
    (standing_with_raise (standing_in c.self.inside.store) (raise_of c.args.raise)) r c.start_ceiling.new.store) is
    c.start_ceiling.ensures

taken : (g : Over) (c : After-start_ceiling g) → c.start_ceiling.result ≡ Ok tt
    → HasUnderWay g.D.SectorDisk.disk c.self.inside.store
    (standing_with_raise (standing_in c.self.inside.store) (raise_of c.args.raise)) c.start_ceiling.new.store
taken g c is = (starts g c (Ok tt) is).under_way

pub invariant_of-self-2 : goal.invariant_of-self-2
invariant_of-self-2 g c =
    let at = goal.at.invariant_of-self-2 g c in
    raising c.start_ceiling.new.store c.self.inside.channels c.self.inside.queue c.begin_raise.new.self
    c.self.inside.turn IsSoundEndpoint c.args.raise c.begin_raise.ensures (free g at.After-self)
    (begun-kept g.D.SectorDisk.disk (old g at.After-self) c.self.invariant (running g at.After-self)
    (idle g at.After-self) (raise_of c.args.raise)
    (first g at.After-self) c.start_ceiling.new.store (taken g at.After-start_ceiling c.in_ok-start_ceiling.was))

pub returns : goal.returns
returns g c =
    let at = goal.at.returns g c in
    let has = taken g at.After-start_ceiling c.in_ok-start_ceiling.was in
    rw (← c.self.view_is)
    (raising c.start_ceiling.new.store c.self.inside.channels c.self.inside.queue c.begin_raise.new.self
    c.self.inside.turn (StartsRaise g.D.SectorDisk.disk (old g at.After-self) (raise_of c.args.raise) (Ok tt))
    c.args.raise c.begin_raise.ensures (free g at.After-self)
    (record {
      refused = tt;
      room = λ is. let no = (starts g at.After-start_ceiling (Ok tt) c.in_ok-start_ceiling.was).spent.1 is in cc;
      under_way = has;
      taken = refl;
      reserving = begun-reserving g.D.SectorDisk.disk (old g at.After-self) c.self.invariant (running g at.After-self)
          (idle g at.After-self)
          (raise_of c.args.raise) (first g at.After-self) c.start_ceiling.new.store has;
      sound = c.self.invariant;
    }))
