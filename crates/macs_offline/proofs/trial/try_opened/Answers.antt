use Rattle.std.proofs.Common.{inl, inr}
use Rattle.std.proofs.lemmas.Result.{IfErr-weaker, IfOk-weaker}
use Rattle.macs_offline.proofs.Tried.{IfOk-both}
use Rattle.macs_offline.proofs.trial.try_opened.Goals as goal

pub try_own-requires : goal.try_own-requires
try_own-requires c = rw c.in-Ok.is at c.requires

pub returns-in-Ok-clause-tried : goal.returns-in-Ok-clause-tried
returns-in-Ok-clause-tried c = λ copy opening.
    IfOk-weaker c.try_own.result _ _
    (λ outcomes given. record {
      old = c.in-Ok.endpoint;
      new = c.try_own.new.endpoint;
      opens = rw c.in-Ok.is at opening;
      own = given.0;
      applied = given.1;
    }) (IfOk-both c.try_own.result _ _ c.try_own.ensures.own c.try_own.ensures.tried)

pub returns-in-Ok-clause-ended : goal.returns-in-Ok-clause-ended
returns-in-Ok-clause-ended c = λ copy opening.
    IfErr-weaker c.try_own.result _ _ (λ failure ends. inr (c.in-Ok.endpoint, rw c.in-Ok.is at opening, ends))
    c.try_own.ensures.ended

pub returns-clause-ended : goal.returns-clause-ended
returns-clause-ended c = λ copy opening.
    inl (c.in-Err.refused.disk, c.in-Err.refused.fault, rw c.in-Err.is at opening, c.failure_in_memory.ensures)
