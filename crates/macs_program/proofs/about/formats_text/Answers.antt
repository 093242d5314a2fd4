use Rattle.macs_program.proofs.about.formats_text.Goals as goal

pub returns : goal.returns
returns c = c.joined.ensures _ _ c.word_line.ensures c.word_line-2.ensures
