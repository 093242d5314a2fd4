use Rattle.macs_texts.proofs.showing.protection_words.Goals as goal

pub returns-in-Confidentiality : goal.returns-in-Confidentiality
returns-in-Confidentiality c = rw c.in-Confidentiality.is (rw (c.from.ensures, c.get.ensures) at c.numbered.ensures)
