use Rattle.std.proofs.Common.{refl}
use Rattle.macs_control.proofs.metrics_file.MetricsPlaceMetrics.put.Goals as goal

pub returns-in-File : goal.returns-in-File
returns-in-File g c = rw c.in-File.is (c.put.new.self, refl, c.put.ensures)
