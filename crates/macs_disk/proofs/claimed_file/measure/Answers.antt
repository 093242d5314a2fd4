use Rattle.std.proofs.Common.{inl, refl, ℕ}
use Rattle.std.specs.IoError.{error_kind}
use Rattle.std.proofs.lemmas.Result.{err_from_is_err_and}
use Rattle.macs_disk.specs.FileFailures.{Measures}
use Rattle.macs_disk.proofs.FailedCalls.{none-failed, not-measured, one-failed}
use Rattle.macs_disk.proofs.claimed_file.measure.Goals as goal

pub returns-in_err-octets-clause-cause : goal.returns-in_err-octets-clause-cause
returns-in_err-octets-clause-cause g c =
    let p = err_from_is_err_and c.from_residual.result c.from_residual.ensures.1 in
    rw p.1 (not-measured _ _ (error_kind c.in_err-octets.field-0.0) p.0
    (one-failed ℕ _ _ Measures error_kind c.in_err-octets.field-0.0 c.in_err-octets.ensures.failure) p.2)

pub returns-then-octets-ne0-clause-cause : goal.returns-then-octets-ne0-clause-cause
returns-then-octets-ne0-clause-cause g c =
    inl (refl, none-failed _ _ Measures error_kind _ c.in_ok-octets.ensures.failure)
