use Rattle.std.specs.Prelude.{[], ◌∷◌}
use Rattle.macs_c.proofs.reported.ReportedDisk.begun.Given as goal

abbrev pub ghost-new : goal.ghost-new
ghost-new g a = ((g.given.0, []) ∷ [], g.given.1)
