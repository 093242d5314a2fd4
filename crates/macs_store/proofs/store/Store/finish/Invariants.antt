use Rattle.macs_store.specs.Value.{calls_left}
use Rattle.macs_store.proofs.EachStep.{IsOnItsWay}
use Rattle.macs_store.proofs.store.Store.finish.Given as goal

abbrev pub invariant-loop-self : goal.invariant-loop-self
invariant-loop-self g l = IsOnItsWay g.D.SectorDisk.disk l.fn.self l.self

abbrev pub decreases-loop-self : goal.decreases-loop-self
decreases-loop-self g l = calls_left l.self
