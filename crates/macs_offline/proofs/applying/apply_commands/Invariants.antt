use Rattle.std.proofs.Common.{take}
use Rattle.macs_offline.specs.Applying.{AppliesAll}
use Rattle.macs_offline.proofs.applying.apply_commands.Given as goal

abbrev pub invariant-loop-i : goal.invariant-loop-i
invariant-loop-i g l =
    AppliesAll g.D.SectorDisk.disk l.initial.endpoint (take l.i l.commands) (g.W.Stream.contents l.initial.out)
    (g.W.Stream.contents l.out) l.status l.endpoint
