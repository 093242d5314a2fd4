use Rattle.macs_offline.proofs.KeyLists.{more-lines}
use Rattle.macs_offline.proofs.key_list.lines_of.Goals as goal

pub loop-i-preserved : goal.loop-i-preserved
loop-i-preserved c = more-lines c.args.keys.now c.loop-i.i c.index-keys-i.result c.loop-i-test.true c.index-keys-i.is
    _ _ c.loop-i.invariant c.in_ok-push_line.ensures
