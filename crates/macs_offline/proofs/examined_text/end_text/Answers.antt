use Rattle.macs_offline.proofs.examined_text.end_text.Goals as goal

pub returns : goal.returns
returns c =
    let with-1 = c.joined-text.ensures _ _ (rw c.spent_rx.ensures at c.part_line.ensures) c.line_of_whole_journal.ensures in
    c.joined.ensures _ _ (rw c.spent_tx.ensures at c.part_line-2.ensures) with-1
