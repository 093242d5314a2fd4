use Rattle.macs_offline.proofs.examined_text.figures_text.Goals as goal

pub returns : goal.returns
returns c =
    let with-1 = c.joined-text.ensures _ _ c.number_line.ensures c.part_line.ensures in
    let with-2 = c.joined-text-2.ensures _ _ c.number_line-2.ensures with-1 in
    let with-3 = c.joined-text-3.ensures _ _ (rw c.block.ensures at c.number_line-3.ensures) with-2 in
    c.joined.ensures _ _ (rw c.format_number.ensures at c.number_line-4.ensures) with-3
