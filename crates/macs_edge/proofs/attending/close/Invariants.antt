-- those so far were answered as failed
use Rattle.std.proofs.Common.{take}
use Rattle.macs_edge.specs.Attending.{failed_of}
use Rattle.macs_commands.specs.InTurn.{InTurn}
use Rattle.macs_edge.proofs.attending.close.Given as goal

abbrev pub invariant-loop-waiting : goal.invariant-loop-waiting
invariant-loop-waiting g l = InTurn g.K.Desk.hears l.fn.desk (failed_of (take l.waiting-index l.waiting-items)) l.desk
