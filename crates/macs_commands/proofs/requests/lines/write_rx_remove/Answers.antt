use Rattle.macs_commands.proofs.Lined.{word_then}
use Rattle.macs_commands.proofs.requests.lines.write_rx_remove.Goals as goal

pub returns : goal.returns
returns c = word_then _ _ _ _ _ (rw c.get.ensures at c.put_hex.ensures) c.write_an.ensures
