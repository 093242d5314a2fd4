use Rattle.std.proofs.Common.{[], ap, drop, sym, ◌∙◌}
use Rattle.macs_disk.specs.Messages.{greeting_octets}
use Rattle.macs_disk.proofs.ReadBack.{number-back, unlike}
use Rattle.macs_disk.proofs.messages.greeting.Greeting.given.Goals as goal

pub returns-else-eq-clause-found : goal.returns-else-eq-clause-found
returns-else-eq-clause-found c = λ sectors small is.
    let behind = c.in_ok-rest.ensures.cases.1 ∙ ap (drop 8) is in
    let same = number-back _ _ [] c.from_be_bytes.result sectors small c.from_be_bytes.ensures
    c.in_ok-number.ensures.cases.0 behind in
    absurd (unlike _ _ (sym c.eq.ensures ∙ c.if-eq.false)
    (c.as_slice.ensures ∙ c.octets.ensures ∙ ap greeting_octets same ∙ sym is))
