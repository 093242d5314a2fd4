use Rattle.std.proofs.Common.{refl}
use Rattle.macs_control.proofs.metrics_file.MetricsPlaceMetrics.is_due.Goals as goal

pub returns-in-File : goal.returns-in-File
returns-in-File g c = rw c.in-File.is (c.is_due.new.self, refl, c.is_due.ensures)
