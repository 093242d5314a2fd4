use Rattle.macs_texts.proofs.Adding.{and_then}
use Rattle.macs_texts.proofs.counting.key_lines.Goals as goal

pub returns : goal.returns
returns c = and_then c.args.paper.now c.count_line.new.paper c.count_line-2.new.paper _ _
    (rw (c.keys_left.ensures, c.spent_tx.ensures) at c.count_line.ensures)
    (rw (c.keys_left-2.ensures, c.spent_rx.ensures) at c.count_line-2.ensures)
