-- so many frames were inspected
use Rattle.std.proofs.Common.{◌^◌, ◌-◌}
use Rattle.macs_offline.proofs.Inspected.{HasRead}
use Rattle.macs_offline.proofs.inspect.inspect_frames.Given as goal

abbrev pub invariant-loop-frame : goal.invariant-loop-frame
invariant-loop-frame g l =
    HasRead l.fn.big (g.R.Source.state l.fn.source) (g.W.Stream.contents l.fn.out) l.count (g.R.Source.state l.source)
    (g.W.Stream.contents l.out)

abbrev pub decreases-loop-frame : goal.decreases-loop-frame
decreases-loop-frame g l = 2 ^ 32 - l.count
