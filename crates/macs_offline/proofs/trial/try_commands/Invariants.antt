use Rattle.std.proofs.Common.{take}
use Rattle.macs_offline.specs.Applying.{Applies}
use Rattle.macs_offline.proofs.trial.try_commands.Given as goal

abbrev pub invariant-loop-i : goal.invariant-loop-i
invariant-loop-i g l = Applies g.D.SectorDisk.disk l.initial.endpoint (take l.i l.commands) l.outcomes.items l.endpoint
