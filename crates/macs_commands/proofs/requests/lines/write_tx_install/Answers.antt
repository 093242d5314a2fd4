use Rattle.std.proofs.Common.{◌∙◌}
use Rattle.macs_commands.proofs.Lined.{word_then}
use Rattle.macs_commands.proofs.requests.lines.write_tx_install.Goals as goal

pub returns : goal.returns
returns c = word_then _ _ _ _ _ (rw (c.from.ensures ∙ c.get.ensures.value) at c.put_number.ensures)
    (word_then _ _ _ _ _ (rw c.as_slice.ensures.octets at c.put_hex.ensures) (word_then _ _ _ _ _ c.put_number-2.ensures
    (word_then _ _ _ _ _ (rw c.protection_word.ensures at c.put_word.ensures)
    (rw c.from-2.ensures at c.number.ensures))))
