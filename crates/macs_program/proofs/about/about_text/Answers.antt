use Rattle.macs_program.proofs.about.about_text.Goals as goal

pub returns : goal.returns
returns c =
    let with-1 = c.joined-text.ensures _ _ c.word_line.ensures c.formats_text.ensures in
    let with-2 = c.joined-text-2.ensures _ _ c.word_line-2.ensures with-1 in
    let with-3 = c.joined-text-3.ensures _ _ c.word_line-3.ensures with-2 in
    c.joined.ensures _ _ (rw c.text.ensures at c.from_str.ensures.ok) with-3
