use Rattle.std.proofs.Common.{inl, refl}
use Rattle.std.specs.IoError.{error_kind}
use Rattle.std.proofs.lemmas.Result.{err_from_is_err_and}
use Rattle.macs_disk.specs.FileFailures.{Syncs}
use Rattle.macs_disk.proofs.FailedCalls.{one-failed}
use Rattle.macs_disk.proofs.InterruptedCalls.{none-yet, sync-fails, write-fails}
use Rattle.macs_disk.proofs.settled_file.lengthen.Goals as goal

pub returns-then-sectors-ge-TOO_MANY_SECTORS-clause-cause : goal.returns-then-sectors-ge-TOO_MANY_SECTORS-clause-cause
returns-then-sectors-ge-TOO_MANY_SECTORS-clause-cause g c = inl (refl, none-yet _)

pub returns-in_err-write_zeros-clause-cause : goal.returns-in_err-write_zeros-clause-cause
returns-in_err-write_zeros-clause-cause g c =
    let p = err_from_is_err_and c.from_residual.result c.from_residual.ensures.1 in
    rw p.1 (write-fails _ _ (error_kind c.in_err-write_zeros.field-0.0) p.0 c.in_err-write_zeros.ensures.cause p.2)

pub returns-in_err-sync-clause-cause : goal.returns-in_err-sync-clause-cause
returns-in_err-sync-clause-cause g c =
    let p = err_from_is_err_and c.from_residual-in_err-sync.result c.from_residual-in_err-sync.ensures.1 in
    rw p.1 (sync-fails _ (g.F.DiskFile.failures c.write_zeros.new.file) _ (error_kind c.in_err-sync.field-0.0) p.0
    c.in_ok-write_zeros.ensures.quiet
    (one-failed (Unit {0}) _ _ Syncs error_kind c.in_err-sync.field-0.0 c.in_err-sync.ensures.failure) p.2)
