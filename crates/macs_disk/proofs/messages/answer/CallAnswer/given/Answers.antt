use Rattle.std.proofs.Common.{ap, sym, ◌∙◌}
use Rattle.macs_disk.specs.Messages.{answer_octets, octet_of, octets_in}
use Rattle.macs_disk.proofs.ReadBack.{never, same-one, same-two, unlike}
use Rattle.macs_disk.proofs.messages.answer.CallAnswer.given.Goals as goal

pub returns-in_err-kind-clause-found : goal.returns-in_err-kind-clause-found
returns-in_err-kind-clause-found c = λ answer size is.
    absurd (never _ _ c.in_err-kind.was (c.parts.ensures (octet_of answer) (octets_in answer) size is))

pub returns-in_err-answer-clause-found : goal.returns-in_err-answer-clause-found
returns-in_err-answer-clause-found c = λ answer size is.
    let same = same-two _ _ _ c.in_ok-kind.was (c.parts.ensures (octet_of answer) (octets_in answer) size is) in
    absurd (never _ _ c.in_err-answer.was (c.answer_of.ensures answer same.0 same.1))

pub returns-else-eq-clause-found : goal.returns-else-eq-clause-found
returns-else-eq-clause-found c = λ answer size is.
    let same = same-two _ _ _ c.in_ok-kind.was (c.parts.ensures (octet_of answer) (octets_in answer) size is) in
    let its = same-one _ _ _ c.in_ok-answer.was (c.answer_of.ensures answer same.0 same.1) in
    absurd (unlike _ _ (sym c.eq.ensures ∙ c.if-eq.false)
    (c.as_slice.ensures ∙ c.octets.ensures ∙ ap answer_octets its ∙ sym is))
