use Rattle.macs_program.proofs.task.with_disk.Goals as goal

pub with_opened-requires : goal.with_opened-requires
with_opened-requires g c = (_, c.open.ensures)

pub returns : goal.returns
returns g c = c.with_opened.ensures _ c.open.ensures
