use Rattle.macs_program.proofs.capturing.PassFileTask.run.Goals as goal

pub returns : goal.returns
returns g c = c.pass_between.ensures.passes
