use Rattle.std.proofs.Common.{◌≡◌, ap, ◌∙◌, List, ℕ}
use Rattle.macs_disk.specs.Files.{file_after_write}
use Rattle.macs_disk.specs.Layouts.{mark, place}
use Rattle.macs_disk.specs.declared.layout.Layout.TheVariants.{Spaced}
use Rattle.macs_disk.proofs.FileOpenings.{marked, sure-written}
use Rattle.std.specs.IoError.{error_kind}
use Rattle.std.proofs.lemmas.Result.{err_from_is_err_and}
use Rattle.macs_disk.proofs.InterruptedCalls.{interrupted-then, later-write-fails, write-fails}
use Rattle.macs_disk.proofs.clearing.put_mark.Goals as goal

pub returns-clause-marked : goal.returns-clause-marked
returns-clause-marked g c empty =
    let file = g.F.DiskFile.file in
    let old = file c.args.file.now in
    let mid = file c.write_all.new.file in
    let first : mid ≡ file_after_write old (place Spaced 1028) mark =
    (c.in_ok-write_all.ensures.effect empty.behaves).ok empty.is_sure
    ∙ ap (λ (l : List ℕ). file_after_write old (place Spaced 1028) l) c.spaced_mark.ensures in
    marked old mid (file c.write_zeros.new.file) empty first
    ((c.in_ok-write_zeros.ensures.effect (c.in_ok-write_all.ensures.steady ∙ empty.behaves)).ok
    (sure-written old mid (place Spaced 1028) mark first empty.is_sure))

pub returns-in_err-write_all-clause-cause : goal.returns-in_err-write_all-clause-cause
returns-in_err-write_all-clause-cause g c =
    let p = err_from_is_err_and c.from_residual.result c.from_residual.ensures.1 in
    rw p.1 (write-fails _ _ (error_kind c.in_err-write_all.field-0.0) p.0 c.in_err-write_all.ensures.cause p.2)

pub returns-in_err-write_zeros-clause-cause : goal.returns-in_err-write_zeros-clause-cause
returns-in_err-write_zeros-clause-cause g c =
    let p =
    err_from_is_err_and c.from_residual-in_err-write_zeros.result c.from_residual-in_err-write_zeros.ensures.1 in
    rw p.1 (later-write-fails _ (g.F.DiskFile.failures c.write_all.new.file) _ p.0 c.in_ok-write_all.ensures.quiet
    (write-fails _ _ (error_kind c.in_err-write_zeros.field-0.0) p.0 c.in_err-write_zeros.ensures.cause p.2))

pub returns-clause-quiet : goal.returns-clause-quiet
returns-clause-quiet g c = interrupted-then _ (g.F.DiskFile.failures c.write_all.new.file) _
    c.in_ok-write_all.ensures.quiet c.in_ok-write_zeros.ensures.quiet
