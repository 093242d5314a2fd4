use Rattle.std.proofs.Common.{◌≡◌, ◌∙◌, inl, inr, true, false, sym, subst}
use Rattle.macs_endpoint.specs.Calls.{IsCall, IsStep}
use Rattle.macs_endpoint.specs.Halves.{IsNextCall}
use Rattle.macs_endpoint.specs.State.{Advanced, Advances}
use Rattle.macs_endpoint.specs.Value.{EndpointValue, device_in}
use Rattle.macs_store.specs.Value.{IsIdle}
use Rattle.macs_endpoint.proofs.endpoint.Endpoint.step.Given.{Over}
use Rattle.macs_endpoint.proofs.endpoint.Endpoint.step.Goals.{After-did_call}
use Rattle.macs_endpoint.proofs.endpoint.Endpoint.step.Goals as goal

pub returns-in_default-next_call : goal.returns-in_default-next_call
returns-in_default-next_call g c =
    let begun = c.begin.ensures.begun c.in_default.is in
    elim (c.next_call.ensures.none.0 c.in_default-next_call.is) [
      | inl stopped ↦ absurd (let no : true ≡ false = sym stopped ∙ begun.running in cc)
      | inr idle ↦ absurd (begun.busy idle)
    ]

pub did_call-requires : goal.did_call-requires
did_call-requires g c = λ idle.
    (c.begin.ensures.begun c.in_default.is).busy
    (subst (λ (e : EndpointValue g.row.D.Denot). IsIdle e.store) (sym c.make-answer.ensures.same) idle)

-- the device call that was made belongs to a step
stepped : (g : Over) (c : After-did_call g)
    → IsStep g.D.SectorDisk.disk c.args.self.now c.did_call.result c.did_call.new.self
stepped g c =
    let same = c.make-answer.ensures.same in
    let call : IsNextCall c.make-answer.new.self c.in-Some-next_call.call =
    subst (λ (e : EndpointValue g.row.D.Denot). IsNextCall e c.in-Some-next_call.call) same
    c.in-Some-next_call.ensures.call in
    (c.begin.ensures.begun c.in_default.is).step c.did_call.result c.did_call.new.self
    (subst (λ (e : EndpointValue g.row.D.Denot). IsCall g.D.SectorDisk.disk e Advances
    (Advanced c.did_call.result) c.did_call.new.self) (sym same)
    (c.did_call.ensures.step (device_in c.begin.new.self) c.in-Some-next_call.call call c.make-answer.ensures.made))

pub returns-clause-call : goal.returns-clause-call
returns-clause-call g c = (stepped g (goal.at.returns-clause-call g c).After-did_call).0

pub returns-clause-at_once : goal.returns-clause-at_once
returns-clause-at_once g c = (stepped g (goal.at.returns-clause-at_once g c).After-did_call).1
