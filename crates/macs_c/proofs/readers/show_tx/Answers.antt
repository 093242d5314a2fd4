use Rattle.std.proofs.Common.{◌∙◌, sym}
use Rattle.macs_c.proofs.ShownNumbers.{tx-reserved}
use Rattle.macs_c.proofs.readers.show_tx.Goals as goal

pub returns-in_default-reserved_tx : goal.returns-in_default-reserved_tx
returns-in_default-reserved_tx c =
    absurd (tx-reserved c.args.endpoint.now c.in-Some.number c.in-Some-next_number.next c.facts.ensures
    (sym c.next_number.ensures ∙ c.in-Some-next_number.is) (sym c.reserved_tx.ensures ∙ c.in_default-reserved_tx.is))
