use Rattle.std.proofs.Common.{◌≡◌, false, Ok, sym, ◌∙◌, ap, subst}
use Rattle.macs_endpoint.specs.Calls.{IsCall}
use Rattle.macs_endpoint.specs.Parts.{endpoint_of}
use Rattle.macs_endpoint.specs.Value.{EndpointValue, is_stopped}
use Rattle.macs_endpoint.specs.State.{Received, Receives}
use Rattle.macs_endpoint.proofs.Framing.{receive-stopped, received-call, received-kept, with_rx}
use Rattle.macs_endpoint.proofs.endpoint.Endpoint.receive.Given.{Over}
use Rattle.macs_endpoint.proofs.endpoint.Endpoint.receive.Goals.{After-receive}
use Rattle.macs_endpoint.proofs.endpoint.Endpoint.receive.Goals as goal

pub returns-then-is_stopped-clause-call : goal.returns-then-is_stopped-clause-call
returns-then-is_stopped-clause-call g c =
    receive-stopped g.D.SectorDisk.disk c.args.self.now c.args.frame.now c.clear.new.self.items _
    c.octets_in_range.ensures
    (sym c.is_stopped.ensures ∙ c.if-is_stopped.true) c.clear.ensures

module _ (g : Over) (c : After-receive g) where
  abbrev old : EndpointValue g.row.D.Denot
  old = endpoint_of c.self.inside.store c.self.inside.channels c.self.inside.queue c.self.inside.turn

pub invariant_of-self : goal.invariant_of-self
invariant_of-self g c =
    let at = (goal.at.invariant_of-self g c).After-receive in
    received-kept g.D.SectorDisk.disk (old g at) c.receive.new.self c.args.frame.now c.receive.result
    c.receive.new.out.items c.self.invariant
    c.receive.ensures.verdict c.receive.ensures.side c.receive.ensures.ceilings

pub returns-clause-call : goal.returns-clause-call
returns-clause-call g c =
    let at = (goal.at.returns-clause-call g c).After-receive in
    let disk = g.D.SectorDisk.disk in
    let running : is_stopped (old g at) ≡ false =
    ap (λ (e : EndpointValue g.row.D.Denot). is_stopped e) c.self.view_is ∙ sym c.is_stopped.ensures
    ∙ c.if-is_stopped.false in
    let call =
    received-call disk (old g at) c.receive.new.self c.args.frame.now c.receive.result c.receive.new.out.items
    c.self.invariant
    c.receive.ensures.verdict c.receive.ensures.side c.receive.ensures.ceilings c.octets_in_range.ensures running
    c.receive.ensures.counters
    c.receive.ensures.channel_counters in
    let new = with_rx (old g at) c.receive.new.self in
    subst (λ (e : EndpointValue g.row.D.Denot).
    IsCall disk e (Receives c.args.frame.now) (Received (Ok c.receive.result) c.receive.new.out.items) new)
    c.self.view_is call
