use Rattle.std.proofs.Common.{◌≡◌, take}
use Rattle.macs_offline.specs.Applying.{outcomes_status}
use Rattle.macs_offline.proofs.trial.outcomes_status.Given as goal

abbrev pub invariant-loop-i : goal.invariant-loop-i
invariant-loop-i l = l.status ≡ outcomes_status (take l.i l.outcomes)
