use Rattle.macs_c.specs.ReportedDisks.{moment_before}
use Rattle.macs_c.proofs.reported.ReportedDisk.miss.Given as goal

abbrev pub ghost-after : goal.ghost-after
ghost-after a = (moment_before a.self.now.moments 0, 1)
