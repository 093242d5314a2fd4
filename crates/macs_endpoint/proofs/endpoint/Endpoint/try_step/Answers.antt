use Rattle.std.proofs.Common.{◌≡◌, ◌∙◌, inl, inr, true, false, sym, subst}
use Rattle.macs_endpoint.specs.Calls.{IsCall, IsStep}
use Rattle.macs_endpoint.specs.Halves.{IsNextCall}
use Rattle.macs_endpoint.specs.State.{Advanced, Advances}
use Rattle.macs_endpoint.specs.Value.{EndpointValue, device_in}
use Rattle.macs_store.specs.Value.{IsIdle}
use Rattle.macs_endpoint.proofs.endpoint.Endpoint.try_step.Given.{Over}
use Rattle.macs_endpoint.proofs.endpoint.Endpoint.try_step.Goals as goal

pub returns-in_default-next_call : goal.returns-in_default-next_call
returns-in_default-next_call g c =
    let begun = c.begin.ensures.begun c.in_default.is in
    elim (c.next_call.ensures.none.0 c.in_default-next_call.is) [
      | inl stopped ↦ absurd (let no : true ≡ false = sym stopped ∙ begun.running in cc)
      | inr idle ↦ absurd (begun.busy idle)
    ]
