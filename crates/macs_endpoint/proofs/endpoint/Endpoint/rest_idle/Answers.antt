use Rattle.std.proofs.Common.{◌≡◌, false}
use Rattle.std.proofs.lemmas.Result.{err_from_is_err_and}
use Rattle.macs_store.specs.Value.{IsIdle}
use Rattle.macs_endpoint.specs.Parts.{endpoint_of}
use Rattle.macs_endpoint.specs.Value.{EndpointValue, is_stopped}
use Rattle.macs_endpoint.proofs.Rested.{next-stands, not-rested, rested-kept, rested-well, unrested-kept}
use Rattle.macs_endpoint.proofs.endpoint.Endpoint.rest_idle.Given.{Over}
use Rattle.macs_endpoint.proofs.endpoint.Endpoint.rest_idle.Goals.{After-rest_at}
use Rattle.macs_endpoint.proofs.endpoint.Endpoint.rest_idle.Goals as goal

module _ (g : Over) (c : After-rest_at g) where
  abbrev old : EndpointValue g.row.D.Denot
  old = endpoint_of c.self.inside.store c.self.inside.channels c.self.inside.queue c.self.inside.turn

  running : is_stopped old ≡ false
  running = rw (← c.self.view_is) at c.requires.running

  idle : IsIdle old.store
  idle = rw (← c.self.view_is) at c.requires.idle

pub rest_at-requires-clause-stands : goal.rest_at-requires-clause-stands
rest_at-requires-clause-stands g c =
    next-stands (endpoint_of c.self.inside.store c.self.inside.channels c.self.inside.queue c.self.inside.turn)
    c.self.invariant c.facts.ensures

pub invariant_of-self : goal.invariant_of-self
invariant_of-self g c =
    let at = (goal.at.invariant_of-self g c).After-rest_at in
    unrested-kept (old g at) c.self.invariant g.D.SectorDisk.disk (running g at) (idle g at) c.rest_at.new.self
    c.in_err-rest_at.field-0.0 c.in_err-rest_at.ensures

pub returns-in_err-rest_at : goal.returns-in_err-rest_at
returns-in_err-rest_at g c =
    let at = (goal.at.returns-in_err-rest_at g c).After-rest_at in
    let risen = err_from_is_err_and c.from_residual.result c.from_residual.ensures.1 in
    rw (← c.self.view_is) (rw (risen.1, risen.2)
    (not-rested (old g at) c.self.invariant g.D.SectorDisk.disk (running g at) (idle g at) c.rest_at.new.self
    c.in_err-rest_at.field-0.0 c.in_err-rest_at.ensures))

pub invariant_of-self-2 : goal.invariant_of-self-2
invariant_of-self-2 g c =
    let at = (goal.at.invariant_of-self-2 g c).After-rest_at in
    rested-kept (old g at) c.self.invariant g.D.SectorDisk.disk (running g at) (idle g at) c.rest_at.new.self
    c.in_ok-rest_at.ensures c.lower.new.self c.lower-2.new.self c.lower.ensures.side c.lower-2.ensures.side
    c.lower.ensures.ceilings c.lower-2.ensures.ceilings

pub returns : goal.returns
returns g c =
    let at = (goal.at.returns g c).After-rest_at in
    rw (← c.self.view_is)
    (rested-well (old g at) c.self.invariant g.D.SectorDisk.disk (running g at) (idle g at) c.rest_at.new.self
    c.in_ok-rest_at.ensures c.lower.new.self c.lower-2.new.self c.lower.ensures.side c.lower-2.ensures.side
    c.lower.ensures.ceilings c.lower-2.ensures.ceilings c.lower.ensures.counters c.lower-2.ensures.counters
    c.lower-2.ensures.channel_counters)
