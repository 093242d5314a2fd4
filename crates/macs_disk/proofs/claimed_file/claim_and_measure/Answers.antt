use Rattle.std.specs.IoError.{error_kind}
use Rattle.std.proofs.lemmas.Result.{IfErr-weaker, err_from_is_err_and}
use Rattle.macs_disk.specs.FileFailures.{Claims}
use Rattle.macs_disk.proofs.FailedCalls.{measured-later, none-failed, not-claimed, one-failed}
use Rattle.macs_disk.proofs.claimed_file.claim_and_measure.Goals as goal

pub returns-in_err-claim-clause-cause : goal.returns-in_err-claim-clause-cause
returns-in_err-claim-clause-cause g c =
    let p = err_from_is_err_and c.from_residual.result c.from_residual.ensures.1 in
    rw p.1 (not-claimed _ _ (error_kind c.in_err-claim.field-0.0) p.0
    (one-failed (Unit {0}) _ _ Claims error_kind c.in_err-claim.field-0.0 c.in_err-claim.ensures.failure) p.2)

pub returns-clause-cause : goal.returns-clause-cause
returns-clause-cause g c =
    IfErr-weaker c.measure.result _ _ (λ fault fails. measured-later _ (g.F.DiskFile.failures c.claim.new.self) _ fault
    (none-failed _ _ Claims error_kind _ c.in_ok-claim.ensures.failure) fails) c.measure.ensures.cause
