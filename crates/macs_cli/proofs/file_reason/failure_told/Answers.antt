use Rattle.std.proofs.Common.{inr, refl}
use Rattle.macs_cli.proofs.file_reason.failure_told.Goals as goal

pub returns-in-Ok : goal.returns-in-Ok
returns-in-Ok c = inr (c.in-Ok.text, refl, c.in-Ok.ensures)
