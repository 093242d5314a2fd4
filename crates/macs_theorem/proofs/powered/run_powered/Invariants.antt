use Rattle.macs_theorem.specs.Programs.{holds}
use Rattle.macs_theorem.proofs.Runs.{IsKept}
use Rattle.macs_theorem.proofs.powered.run_powered.Given as goal

-- the program keeps what happened
abbrev pub invariant-loop : goal.invariant-loop
invariant-loop g l = IsKept g.D.SectorDisk.disk l.fn.disk (g.P.Program.keeps l.program) (holds l.held)
