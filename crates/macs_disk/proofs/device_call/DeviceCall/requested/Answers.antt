use Rattle.std.proofs.Common.{ap, sym, ◌∙◌}
use Rattle.macs_disk.specs.Messages.{request_of, kind_of, place_of, sector_of}
use Rattle.macs_disk.proofs.ReadBack.{never, place-small, same-one, same-three, sector-whole, unlike}
use Rattle.macs_disk.proofs.device_call.DeviceCall.requested.Goals as goal

pub returns-in_err-kind-clause-found : goal.returns-in_err-kind-clause-found
returns-in_err-kind-clause-found c = λ call range is.
    let found = c.parts.ensures (kind_of call) (place_of call) (sector_of call) (place-small call range)
    (sector-whole call range) is in
    absurd (never _ _ c.in_err-kind.was found)

pub returns-in_err-call-clause-found : goal.returns-in_err-call-clause-found
returns-in_err-call-clause-found c = λ call range is.
    let found = c.parts.ensures (kind_of call) (place_of call) (sector_of call) (place-small call range)
    (sector-whole call range) is in
    let same = same-three _ _ _ c.in_ok-kind.was found in
    absurd (never _ _ c.in_err-call.was (c.call_of.ensures call same.0 same.1 same.2))

pub returns-else-eq-clause-found : goal.returns-else-eq-clause-found
returns-else-eq-clause-found c = λ call range is.
    let found = c.parts.ensures (kind_of call) (place_of call) (sector_of call) (place-small call range)
    (sector-whole call range) is in
    let same = same-three _ _ _ c.in_ok-kind.was found in
    let its = same-one _ _ _ c.in_ok-call.was (c.call_of.ensures call same.0 same.1 same.2) in
    absurd (unlike _ _ (sym c.eq.ensures ∙ c.if-eq.false)
    (c.as_slice.ensures ∙ c.request.ensures ∙ ap request_of its ∙ sym is))
