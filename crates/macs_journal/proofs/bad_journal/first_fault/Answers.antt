use Rattle.std.proofs.Common.{◌∙◌, ℕ, arith, inl, subst}
use Rattle.std.proofs.lemmas.Result.{IfOk-weaker}
use Rattle.macs_disk.specs.Disk.{now}
use Rattle.macs_disk.specs.States.{DiskState}
use Rattle.macs_journal.specs.FirstFault.{AreaFaultIs}
use Rattle.macs_journal.proofs.Current.{bad_not_blank}
use Rattle.macs_journal.proofs.Faults.{current-fault}
use Rattle.macs_journal.proofs.OnlyReads.{are-read, honest-before, read-done, read-error, read-start, read-then}
use Rattle.macs_journal.proofs.OnlyReads.{same-before}
use Rattle.macs_journal.proofs.bad_journal.first_fault.Goals as goal

pub area_fault-requires : goal.area_fault-requires
area_fault-requires g c = omega (arith, c.current_area.ensures.reads.work.works.sectors, c.requires)

pub returns-in_err-choice-clause-reads : goal.returns-in_err-choice-clause-reads
returns-in_err-choice-clause-reads g c =
    read-error _ _ _ _ _ (read-start _) c.in_err-choice.ensures.reads tt c.from_residual.ensures.0

pub returns-in-Neither-clause-reads : goal.returns-in-Neither-clause-reads
returns-in-Neither-clause-reads g c = read-done _ _ _ (are-read _ _ _ c.in_ok-choice.ensures.reads tt) tt

pub returns-in-Neither-clause-fault : goal.returns-in-Neither-clause-fault
returns-in-Neither-clause-fault g c honest = λ bad.
    bad_not_blank _ bad (rw c.in-Neither.is at (c.in_ok-choice.ensures.choice honest))

pub returns-in-Refused-clause-reads : goal.returns-in-Refused-clause-reads
returns-in-Refused-clause-reads g c = read-done _ _ _ (are-read _ _ _ c.in_ok-choice.ensures.reads tt) tt

pub returns-in-Refused-clause-fault : goal.returns-in-Refused-clause-fault
returns-in-Refused-clause-fault g c honest = inl (rw c.in-Refused.is at (c.in_ok-choice.ensures.choice honest))

pub returns-in-Current-clause-reads : goal.returns-in-Current-clause-reads
returns-in-Current-clause-reads g c =
    read-then _ _ _ _ (are-read _ _ _ c.in_ok-choice.ensures.reads tt) c.area_fault.ensures.reads

pub returns-in-Current-clause-fault : goal.returns-in-Current-clause-fault
returns-in-Current-clause-fault g c =
    let d = g.D.SectorDisk.disk in
    let old = d c.args.disk.now in
    let mid = d c.current_area.new.disk in
    let new = d c.area_fault.new.disk in
    let reads = are-read old mid _ c.in_ok-choice.ensures.reads tt in
    let works = c.area_fault.ensures.reads.work.works in
    let area = c.in-Current.area in
    IfOk-weaker c.area_fault.result _ _ (λ fault known honest.
    let current =
    rw c.in-Current.is at (c.in_ok-choice.ensures.choice (honest-before old mid new reads works honest)) in
    current-fault (now old).seen area c.in-Current.head fault current
    (subst (λ (n : ℕ). AreaFaultIs (now old).seen area n fault) (c.from.ensures ∙ c.count.ensures.value)
    (subst (λ (s : DiskState). AreaFaultIs s.seen area c.from.result fault)
    (same-before old mid new reads works honest) (known honest))))
    c.area_fault.ensures.fault
