use Rattle.std.proofs.Common.{refl}
use Rattle.macs_control.proofs.metrics_file.MetricsPlace.new.Goals as goal

pub returns-in_ok-file-in-Some : goal.returns-in_ok-file-in-Some
returns-in_ok-file-in-Some g c = rw c.in-Some.is (c.in_ok-file-in-Some.file, refl, c.in_ok-file-in-Some.ensures)
