use Rattle.std.specs.Prelude.{◌+◌, ◌∷◌}
use Rattle.macs_c.proofs.reported.ReportedDisk.after.Given as goal

abbrev pub ghost-with : goal.ghost-with
ghost-with g a = (a.self.now.clock + 1, a.self.now.failures + g.given.1, g.given.0 ∷ a.self.now.moments)
