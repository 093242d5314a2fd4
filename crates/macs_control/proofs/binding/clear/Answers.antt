use Rattle.macs_control.proofs.Called.{stale-cleared}
use Rattle.macs_control.proofs.binding.clear.Goals as goal

pub returns-in-Stale : goal.returns-in-Stale
returns-in-Stale g c = stale-cleared _ _ _ _ c.remove.result c.in-Stale.ensures c.remove.ensures
