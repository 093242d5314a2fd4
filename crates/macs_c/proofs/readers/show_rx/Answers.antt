use Rattle.std.proofs.Common.{◌∙◌, sym}
use Rattle.macs_c.proofs.ShownNumbers.{rx-reserved}
use Rattle.macs_c.proofs.readers.show_rx.Goals as goal

pub returns-in_default-reserved_rx : goal.returns-in_default-reserved_rx
returns-in_default-reserved_rx c =
    absurd (rx-reserved c.args.endpoint.now c.args.sci.now.octets c.in-Some.number c.in-Some-numbers.numbers
    c.facts.ensures (sym c.numbers.ensures ∙ c.in-Some-numbers.is)
    (sym c.reserved_rx.ensures ∙ c.in_default-reserved_rx.is))
