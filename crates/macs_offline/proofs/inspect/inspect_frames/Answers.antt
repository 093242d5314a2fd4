use Rattle.macs_offline.proofs.Inspected.{one-read}
use Rattle.macs_offline.proofs.inspect.inspect_frames.Goals as goal

pub loop-frame-preserved : goal.loop-frame-preserved
loop-frame-preserved g c =
    one-read c.args.big _ _ _ _ _ _ c.loop-frame.count c.in_ok-inspect_next.field-0 c.if-branch.true
    c.loop-frame.invariant
    c.in_ok-inspect_next.ensures.next
