use Rattle.std.proofs.Common.{subst}
use Rattle.macs_disk.specs.Disk.{now}
use Rattle.macs_disk.specs.States.{DiskState}
use Rattle.macs_journal.specs.Recovery.{HeadIs}
use Rattle.macs_journal.proofs.OnlyReads.{are-read, honest-before, read-done, read-error, read-more, read-start}
use Rattle.macs_journal.proofs.OnlyReads.{same-before}
use Rattle.macs_journal.proofs.heads.current_area.Goals as goal

pub returns-in_err-first-clause-reads : goal.returns-in_err-first-clause-reads
returns-in_err-first-clause-reads g c =
    read-error _ _ _ _ _ (read-start _) c.in_err-first.ensures.reads tt c.from_residual.ensures.0

pub returns-in_err-second-clause-reads : goal.returns-in_err-second-clause-reads
returns-in_err-second-clause-reads g c =
    read-error _ _ _ _ _ (are-read _ _ _ c.in_ok-first.ensures.reads tt) c.in_err-second.ensures.reads tt
    c.from_residual-in_err-second.ensures.0

pub returns-clause-reads : goal.returns-clause-reads
returns-clause-reads g c =
    let first = are-read _ _ _ c.in_ok-first.ensures.reads tt in
    read-done _ _ _ (read-more _ _ _ _ first c.in_ok-second.ensures.reads tt) tt

pub returns-clause-choice : goal.returns-clause-choice
returns-clause-choice g c honest =
    let reads = are-read _ _ _ c.in_ok-first.ensures.reads tt in
    let works = c.read_head-2.ensures.reads.work.works in
    let first = rw c.first.ensures at (c.in_ok-first.ensures.head (honest-before _ _ _ reads works honest)) in
    let second = subst (λ (s : DiskState). HeadIs s.seen 1 c.in_ok-second.second) (same-before _ _ _ reads works honest)
    (rw c.second.ensures at (c.in_ok-second.ensures.head honest)) in
    c.choose.ensures (now (g.D.SectorDisk.disk c.args.disk.now)).seen first second
