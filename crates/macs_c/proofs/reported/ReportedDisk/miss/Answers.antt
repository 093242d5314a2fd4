use Rattle.std.proofs.Common.{◌∙◌, ap, subst, sym}
use Rattle.macs_disk.specs.Disk.{IsDeviceCall, now}
use Rattle.macs_c.specs.ReportedDisks.{ReportedValue, missed, moment_before, reported_disk}
use Rattle.macs_c.proofs.ReportedDisks.{missed-same, reported-call}
use Rattle.macs_c.proofs.reported.ReportedDisk.miss.Goals as goal

pub returns-clause-call : goal.returns-clause-call
returns-clause-call c =
    let it = c.args.self.now in
    subst (λ (new : ReportedValue). IsDeviceCall (reported_disk it) (reported_disk new) missed) (sym c.after.ensures)
    (reported-call it (moment_before it.moments 0) missed)

pub returns-clause-same : goal.returns-clause-same
returns-clause-same c =
    ap (λ (it : ReportedValue). now (reported_disk it)) c.after.ensures ∙ missed-same c.args.self.now
