use Rattle.macs_c.proofs.starting.begin.Goals as goal

pub returns : goal.returns
returns c = (c.with_store.result, c.put.ensures, c.with_store.ensures)
