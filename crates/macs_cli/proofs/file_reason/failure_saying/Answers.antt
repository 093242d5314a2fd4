use Rattle.std.proofs.Common.{inr, refl}
use Rattle.macs_cli.proofs.file_reason.failure_saying.Goals as goal

pub returns-in-Ok : goal.returns-in-Ok
returns-in-Ok c = λ said is. inr (c.in-Ok.text, refl, rw c.in-Ok.is at is)
