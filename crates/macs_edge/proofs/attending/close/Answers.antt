use Rattle.macs_edge.proofs.Attended.{hears-failed}
use Rattle.macs_edge.proofs.attending.close.Goals as goal

pub loop-waiting-preserved : goal.loop-waiting-preserved
loop-waiting-preserved g c =
    hears-failed g.K.Desk.hears c.args.desk.now c.loop-waiting.desk c.answered.new.self
    c.waiting-waiting-items.result.now
    c.loop-waiting.waiting-index c.waiting-item.result c.loop-waiting-test.true c.waiting-item.is
    c.loop-waiting.invariant
    c.answered.ensures
