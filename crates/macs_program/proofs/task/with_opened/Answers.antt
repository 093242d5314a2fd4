use Rattle.macs_program.proofs.InFiles.{done-on, none-waits, refused-on}
use Rattle.macs_program.proofs.task.with_opened.Goals as goal

pub run-requires : goal.run-requires
run-requires g c = none-waits _ _ _ _ c.in-Ok.is c.requires.1

pub returns-in-Ok : goal.returns-in-Ok
returns-in-Ok g c = λ disk opening. done-on _ _ _ disk _ opening _ _ _ c.run.result c.in-Ok.is c.run.ensures

pub returns : goal.returns
returns g c = λ disk opening. refused-on _ _ _ disk _ opening _ c.from.result c.in-Err.is c.from.ensures
