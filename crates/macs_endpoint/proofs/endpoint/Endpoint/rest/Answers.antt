use Rattle.std.proofs.Common.{◌≡◌, ◌∙◌, [], sym, ap, subst}
use Rattle.macs_endpoint.specs.Calls.{IsCall}
use Rattle.macs_endpoint.specs.State.{Rested, Rests}
use Rattle.macs_endpoint.specs.Value.{EndpointValue}
use Rattle.macs_endpoint.specs.declared.turn.Turn.{Turn}
use Rattle.macs_endpoint.proofs.Carrying.{turned-kept}
use Rattle.macs_endpoint.proofs.Ended.{not_stopped}
use Rattle.macs_endpoint.proofs.RestCall.{busy-rest, rest-call, stopped-rest}
use Rattle.macs_endpoint.proofs.endpoint.Endpoint.rest.Goals as goal

pub returns-then-is_stopped : goal.returns-then-is_stopped
returns-then-is_stopped g c =
    record { call = stopped-rest g.D.SectorDisk.disk c.args.self.now (sym c.is_stopped.ensures ∙ c.if-is_stopped.true) }

pub returns-then-not-is_empty : goal.returns-then-not-is_empty
returns-then-not-is_empty g c =
    let waits : ¬ (c.args.self.now.waiting ≡ []) = λ none.
    not_stopped c.is_empty.result (c.is_empty.ensures.1
    (ap (λ (e : EndpointValue g.row.D.Denot). e.waiting) c.self.view_is ∙ none)) c.if-not-is_empty.true in
    record {
      call = busy-rest g.D.SectorDisk.disk c.args.self.now (sym c.is_stopped.ensures ∙ c.if-is_stopped.false) waits;
    }

pub invariant_of-self : goal.invariant_of-self
invariant_of-self g c = turned-kept _ c.turn_after_refill-turn.result c.self-2.invariant

pub returns : goal.returns
returns g c =
    let e = c.args.self.now in
    let none : e.waiting ≡ [] = ap (λ (x : EndpointValue g.row.D.Denot). x.waiting) (sym c.self.view_is)
    ∙ c.is_empty.ensures.0 c.if-not-is_empty.false in
    let call =
    rest-call g.D.SectorDisk.disk e c.finish_and_rest-result.new.self none c.finish_and_rest-result.result
    (sym c.is_stopped.ensures ∙ c.if-is_stopped.false) c.finish_and_rest-result.ensures in
    record {
      call = subst (λ (x : EndpointValue g.row.D.Denot).
          IsCall g.D.SectorDisk.disk e Rests (Rested c.finish_and_rest-result.result)
          (record x { turn = c.turn_after_refill-turn.result })) (sym c.self-2.view_is)
          (subst (λ (t : Turn). IsCall g.D.SectorDisk.disk e Rests (Rested c.finish_and_rest-result.result)
          (record c.finish_and_rest-result.new.self { turn = t })) (sym c.turn_after_refill-turn.ensures) call);
    }
