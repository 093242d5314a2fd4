use Rattle.std.proofs.Common.{◌≡◌, ◌-◌, ◌∙◌, arith}
use Rattle.macs_disk.specs.Files.{Behaves}
use Rattle.macs_disk.specs.Layouts.{place}
use Rattle.macs_disk.proofs.FileOpenings.{cleared, sure-written}
use Rattle.std.specs.IoError.{error_kind}
use Rattle.std.proofs.lemmas.Result.{err_from_is_err_and}
use Rattle.macs_disk.specs.FileFailures.{Syncs}
use Rattle.macs_disk.proofs.FailedCalls.{one-failed}
use Rattle.macs_disk.proofs.InterruptedCalls.{interrupted-then, later-write-fails, sync-fails, write-fails}
use Rattle.macs_disk.proofs.clearing.clear.Goals as goal

pub returns-clause-cleared : goal.returns-clause-cleared
returns-clause-cleared g c empty =
    let file = g.F.DiskFile.file in
    let old = file c.args.file.now in
    let before = file c.mark_as.new.file in
    let over = file c.write_zeros.new.file in
    let was = c.in_ok-mark_as.ensures.marked empty in
    let so : Behaves before = c.in_ok-mark_as.ensures.steady ∙ empty.behaves in
    let second = (c.in_ok-write_zeros.ensures.effect so).ok was.is_sure in
    let still : Behaves over = c.in_ok-write_zeros.ensures.steady ∙ so in
    let third = (c.in_ok-sync.ensures.effect still).ok (sure-written before over 0 _ second was.is_sure) in
    let count : c.place.result - 0 ≡ place c.args.layout 1028 = (let is = c.place.ensures in omega (arith, is)) in
    cleared old before over (file c.sync.new.self) c.args.layout (c.place.result - 0) was second count third

pub returns-in_err-mark_as-clause-cause : goal.returns-in_err-mark_as-clause-cause
returns-in_err-mark_as-clause-cause g c =
    let p = err_from_is_err_and c.from_residual.result c.from_residual.ensures.1 in
    rw (p.1, p.2) c.in_err-mark_as.ensures.cause

pub returns-in_err-write_zeros-clause-cause : goal.returns-in_err-write_zeros-clause-cause
returns-in_err-write_zeros-clause-cause g c =
    let p =
    err_from_is_err_and c.from_residual-in_err-write_zeros.result c.from_residual-in_err-write_zeros.ensures.1 in
    rw p.1 (later-write-fails _ (g.F.DiskFile.failures c.mark_as.new.file) _ p.0 c.in_ok-mark_as.ensures.quiet
    (write-fails _ _ (error_kind c.in_err-write_zeros.field-0.0) p.0 c.in_err-write_zeros.ensures.cause p.2))

pub returns-in_err-sync-clause-cause : goal.returns-in_err-sync-clause-cause
returns-in_err-sync-clause-cause g c =
    let p = err_from_is_err_and c.from_residual-in_err-sync.result c.from_residual-in_err-sync.ensures.1 in
    rw p.1 (sync-fails _ (g.F.DiskFile.failures c.write_zeros.new.file) _ (error_kind c.in_err-sync.field-0.0) p.0
    (interrupted-then _ (g.F.DiskFile.failures c.mark_as.new.file) _ c.in_ok-mark_as.ensures.quiet
    c.in_ok-write_zeros.ensures.quiet)
    (one-failed (Unit {0}) _ _ Syncs error_kind c.in_err-sync.field-0.0 c.in_err-sync.ensures.failure) p.2)
