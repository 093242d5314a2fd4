use Rattle.std.proofs.Common.{refl}
use Rattle.macs_offline.proofs.Tried.{status-next}
use Rattle.macs_offline.proofs.trial.outcomes_status.Goals as goal

pub loop-i-preserved : goal.loop-i-preserved
loop-i-preserved c =
    status-next c.args.outcomes.now c.loop-i.i _ _ c.loop-i.status c.status_after-status.result c.is_some.result
    c.loop-i-test.true refl c.is_some.ensures c.status_after-status.ensures c.loop-i.invariant
