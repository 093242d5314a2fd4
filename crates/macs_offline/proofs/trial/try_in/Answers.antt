use Rattle.std.proofs.Common.{inl, inr}
use Rattle.std.proofs.lemmas.Result.{IfErr-weaker}
use Rattle.macs_offline.proofs.Failures.{not-read-for}
use Rattle.macs_offline.proofs.trial.try_in.Goals as goal

pub returns-in-Ok-clause-ended : goal.returns-in-Ok-clause-ended
returns-in-Ok-clause-ended g c =
    IfErr-weaker c.try_file.result _ _ (λ failure fails. inr fails) c.try_file.ensures.ended

pub returns-in-Err-clause-ended : goal.returns-in-Err-clause-ended
returns-in-Err-clause-ended g c = inl (not-read-for c.args.path.now _ _ c.failure_at_disk.ensures.reason)
