use Rattle.macs_offline.proofs.trial.trial_text.Goals as goal

pub returns-in-Some : goal.returns-in-Some
returns-in-Some c = rw c.in-Some.is (rw c.refusal_name-name.ensures.name at c.format-in-Some.ensures.ok)
