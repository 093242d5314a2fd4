use Rattle.std.proofs.Common.{◌≡◌, ◌∙◌, [], refl, sym, ap, subst}
use Rattle.macs_endpoint.specs.Calls.{IsCall}
use Rattle.macs_endpoint.specs.RefillCosts.{Spends}
use Rattle.macs_endpoint.specs.State.{Refilled, Refills}
use Rattle.macs_endpoint.specs.Value.{EndpointValue}
use Rattle.macs_endpoint.specs.declared.turn.Turn.{Turn}
use Rattle.macs_endpoint.proofs.Carrying.{turned-kept}
use Rattle.macs_endpoint.proofs.Ended.{not_stopped}
use Rattle.macs_endpoint.proofs.RefillCall.{busy-call, reserved-call, stopped-call}
use Rattle.macs_endpoint.proofs.endpoint.Endpoint.refill.Goals as goal

pub returns-then-is_stopped : goal.returns-then-is_stopped
returns-then-is_stopped g c =
    record {
      call = stopped-call g.D.SectorDisk.disk c.args.self.now (sym c.is_stopped.ensures ∙ c.if-is_stopped.true);
      spends = refl;
    }

pub returns-then-not-is_empty : goal.returns-then-not-is_empty
returns-then-not-is_empty g c =
    let waits : ¬ (c.args.self.now.waiting ≡ []) = λ none.
    not_stopped c.is_empty.result (c.is_empty.ensures.1
    (ap (λ (e : EndpointValue g.row.D.Denot). e.waiting) c.self.view_is ∙ none)) c.if-not-is_empty.true in
    record {
      call = busy-call g.D.SectorDisk.disk c.args.self.now (sym c.is_stopped.ensures ∙ c.if-is_stopped.false)
          waits;
      spends = refl;
    }

pub invariant_of-self : goal.invariant_of-self
invariant_of-self g c = turned-kept _ c.turn_after_refill-turn.result c.self-2.invariant

pub returns : goal.returns
returns g c =
    let e = c.args.self.now in
    let none : e.waiting ≡ [] = ap (λ (x : EndpointValue g.row.D.Denot). x.waiting) (sym c.self.view_is)
    ∙ c.is_empty.ensures.0 c.if-not-is_empty.false in
    let call =
    reserved-call g.D.SectorDisk.disk e c.finish_and_reserve-result.new.self c.finish_and_reserve-result.result
    (sym c.is_stopped.ensures ∙ c.if-is_stopped.false) none c.finish_and_reserve-result.ensures in
    record {
      call = subst (λ (x : EndpointValue g.row.D.Denot).
          IsCall g.D.SectorDisk.disk e Refills (Refilled c.finish_and_reserve-result.result)
          (record x { turn = c.turn_after_refill-turn.result })) (sym c.self-2.view_is)
          (subst (λ (t : Turn). IsCall g.D.SectorDisk.disk e Refills (Refilled c.finish_and_reserve-result.result)
          (record c.finish_and_reserve-result.new.self { turn = t }))
          (sym c.turn_after_refill-turn.ensures) call);
      spends = subst (λ (x : EndpointValue g.row.D.Denot).
          Spends g.D.SectorDisk.disk e c.finish_and_reserve-result.result x.store) (sym c.self-2.view_is)
          c.finish_and_reserve-result.ensures.spends;
    }
