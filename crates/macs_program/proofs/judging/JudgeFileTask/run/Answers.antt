use Rattle.macs_program.proofs.judging.JudgeFileTask.run.Goals as goal

pub returns : goal.returns
returns g c = c.judge_between.ensures.judges
