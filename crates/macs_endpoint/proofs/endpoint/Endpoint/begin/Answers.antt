use Rattle.std.proofs.Common.{◌∙◌, sym, ap, subst}
use Rattle.std.specs.Option.{option_map}
use Rattle.macs_store.specs.Value.{IsIdle}
use Rattle.macs_endpoint.specs.Parts.{due_of}
use Rattle.macs_endpoint.specs.Value.{EndpointValue}
use Rattle.macs_endpoint.proofs.Ended.{not_stopped}
use Rattle.macs_endpoint.proofs.Taken.{going-begun, idle-call, stopped-step}
use Rattle.macs_endpoint.proofs.endpoint.Endpoint.begin.Goals as goal

pub returns-then-is_stopped-clause-ended : goal.returns-then-is_stopped-clause-ended
returns-then-is_stopped-clause-ended g c =
    (stopped-step g.D.SectorDisk.disk c.args.self.now (sym c.is_stopped.ensures ∙ c.if-is_stopped.true), tt)

pub returns-then-not-is_idle-clause-begun : goal.returns-then-not-is_idle-clause-begun
returns-then-not-is_idle-clause-begun g c = λ none.
    going-begun g.D.SectorDisk.disk c.args.self.now (sym c.is_stopped.ensures ∙ c.if-is_stopped.false)
    (λ idle.
    not_stopped c.is_idle.result
    (c.is_idle.ensures.1 (subst (λ (e : EndpointValue g.row.D.Denot). IsIdle e.store) (sym c.self.view_is) idle))
    c.if-not-is_idle.true)

pub returns-in-None-clause-ended : goal.returns-in-None-clause-ended
returns-in-None-clause-ended g c = (
  idle-call g.D.SectorDisk.disk c.args.self.now (sym c.is_stopped.ensures ∙ c.if-is_stopped.false)
      (subst (λ (e : EndpointValue g.row.D.Denot). IsIdle e.store) c.self.view_is
      (c.is_idle.ensures.0 c.if-not-is_idle.false))
      (sym c.next_due.ensures ∙ ap (option_map due_of) c.in-None.is),
  tt,
)
