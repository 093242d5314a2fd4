use Rattle.std.proofs.Common.{◌≡◌, ◌∙◌, false, sym, ap}
use Rattle.macs_endpoint.specs.Parts.{endpoint_of}
use Rattle.macs_endpoint.specs.Value.{EndpointValue, is_stopped}
use Rattle.macs_endpoint.proofs.Queued.{queued-kept, queued-submit, stopped-submit}
use Rattle.macs_endpoint.proofs.endpoint.Endpoint.submit.Given.{Over}
use Rattle.macs_endpoint.proofs.endpoint.Endpoint.submit.Goals.{After-push}
use Rattle.macs_endpoint.proofs.endpoint.Endpoint.submit.Goals as goal

pub returns-then-is_stopped : goal.returns-then-is_stopped
returns-then-is_stopped g c = record {
  call = stopped-submit g.D.SectorDisk.disk c.args.self.now c.args.command c.command_in_range.ensures
      (sym c.is_stopped.ensures ∙ c.if-is_stopped.true);
}

module _ (g : Over) (c : After-push g) where
  abbrev old : EndpointValue g.row.D.Denot
  old = endpoint_of c.self.inside.store c.self.inside.channels c.self.inside.queue c.self.inside.turn

  running : is_stopped old ≡ false
  running = ap (λ (e : EndpointValue g.row.D.Denot). is_stopped e) c.self.view_is ∙ sym c.is_stopped.ensures
      ∙ c.if-is_stopped.false

pub invariant_of-self : goal.invariant_of-self
invariant_of-self g c =
    queued-kept g.D.SectorDisk.disk c.self.inside.store c.self.inside.channels c.self.inside.queue c.self.inside.turn
    c.args.command c.command_in_range.ensures c.self.invariant c.push.result c.push.new.self c.push.ensures

pub returns : goal.returns
returns g c =
    let at = (goal.at.returns g c).After-push in
    rw (← c.self.view_is) (record {
      call = queued-submit g.D.SectorDisk.disk c.self.inside.store c.self.inside.channels c.self.inside.queue
          c.self.inside.turn c.args.command c.command_in_range.ensures c.self.invariant (running g at) c.push.result
          c.push.new.self c.push.ensures;
    })
