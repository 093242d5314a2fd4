use Rattle.std.proofs.Common.{◌≡◌, false, sym, ◌∙◌, ap, subst}
use Rattle.macs_txsc.specs.Value as txsc
use Rattle.macs_endpoint.specs.Calls.{IsCall}
use Rattle.macs_endpoint.specs.Parts.{endpoint_of}
use Rattle.macs_endpoint.specs.Value.{EndpointValue, is_stopped}
use Rattle.macs_endpoint.specs.State.{Protects, Protected}
use Rattle.macs_endpoint.proofs.Framing.{Sends, answered, protect-stopped, protected-call, protected-kept, with_tx}
use Rattle.macs_endpoint.proofs.endpoint.Endpoint.protect.Given.{Over}
use Rattle.macs_endpoint.proofs.endpoint.Endpoint.protect.Goals.{After-protect, in-Ok, in-Err}
use Rattle.macs_endpoint.proofs.endpoint.Endpoint.protect.Goals as goal

pub returns-then-is_stopped-clause-call : goal.returns-then-is_stopped-clause-call
returns-then-is_stopped-clause-call g c =
    protect-stopped g.D.SectorDisk.disk c.args.self.now c.args.plain.now c.clear.new.self.items
    c.octets_in_range.ensures
    (sym c.is_stopped.ensures ∙ c.if-is_stopped.true)
    c.clear.ensures

module _ (g : Over) (c : After-protect g) where
  abbrev old : EndpointValue g.row.D.Denot
  old = endpoint_of c.self.inside.store c.self.inside.channels c.self.inside.queue c.self.inside.turn

  sends : Sends (txsc.tx_side_of old.tx) (txsc.tx_side_of c.protect.new.self) (txsc.ceilings_of old.tx) c.args.plain.now
      c.protect.result
      c.protect.new.out.items
  sends = record {
    fault = c.protect.ensures.fault;
    number = c.protect.ensures.number;
    frame = c.protect.ensures.frame;
    sent = c.protect.ensures.sent;
    same = c.protect.ensures.same;
    empty = c.protect.ensures.empty;
  }

pub invariant_of-self : goal.invariant_of-self
invariant_of-self g c =
    let at = (goal.at.invariant_of-self g c).After-protect in
    protected-kept g.D.SectorDisk.disk (old g at) c.protect.new.self c.args.plain.now c.protect.result
    c.protect.new.out.items c.self.invariant
    (sends g at) c.protect.ensures.ceilings

pub returns-clause-call : goal.returns-clause-call
returns-clause-call g c =
    let at = (goal.at.returns-clause-call g c).After-protect in
    let disk = g.D.SectorDisk.disk in
    let is : c.match-protect.result ≡ answered c.protect.result = elim c.match-protect.branch [
      | in-Ok w ↦ w.result-is ∙ sym (ap answered w.in-Ok.is)
      | in-Err w ↦ w.result-is ∙ sym (ap answered w.in-Err.is)
    ] in
    let running : is_stopped (old g at) ≡ false =
    ap (λ (e : EndpointValue g.row.D.Denot). is_stopped e) c.self.view_is ∙ sym c.is_stopped.ensures
    ∙ c.if-is_stopped.false in
    let call =
    protected-call disk (old g at) c.protect.new.self c.args.plain.now c.protect.result c.protect.new.out.items
    c.self.invariant
    (sends g at) c.protect.ensures.ceilings c.octets_in_range.ensures running c.protect.ensures.counters in
    let new = with_tx (old g at) c.protect.new.self in
    rw is (subst (λ (e : EndpointValue g.row.D.Denot).
    IsCall disk e (Protects c.args.plain.now) (Protected (answered c.protect.result) c.protect.new.out.items) new)
    c.self.view_is call)
