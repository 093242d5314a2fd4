use Rattle.std.proofs.Common.{inl, inr, refl}
use Rattle.std.proofs.lemmas.Result.{err_from_is_err_and}
use Rattle.macs_disk.proofs.FileOpenings.{enough}
use Rattle.macs_disk.proofs.InterruptedCalls.{later-write-fails, mark-not-read}
use Rattle.macs_disk.proofs.settled_file.prepare.Goals as goal

pub returns-then-sectors-least-clause-known : goal.returns-then-sectors-least-clause-known
returns-then-sectors-least-clause-known g c behaves still size =
    enough (g.F.DiskFile.file c.args.file.now) (g.F.DiskFile.file c.find_layout.new.file) c.args.least c.args.octets
    c.sectors_in-sectors.result c.in_ok-layout.layout
    still size (c.find_layout.ensures.same behaves) (c.in_ok-layout.ensures.found behaves size)
    c.sectors_in-sectors.ensures c.if-sectors-least.true

pub returns-in_err-layout-clause-cause : goal.returns-in_err-layout-clause-cause
returns-in_err-layout-clause-cause g c =
    let p = err_from_is_err_and c.from_residual.result c.from_residual.ensures.1 in
    let (kind, fails) = c.in_err-layout.ensures.cause in
    rw p.1 (mark-not-read _ _ kind p.0 p.2 fails)

pub returns-then-eq-clause-cause : goal.returns-then-eq-clause-cause
returns-then-eq-clause-cause g c = inr (inl (refl, c.in_ok-layout.ensures.quiet))

pub returns-in_err-lengthen-clause-cause : goal.returns-in_err-lengthen-clause-cause
returns-in_err-lengthen-clause-cause g c =
    let p = err_from_is_err_and c.from_residual-in_err-lengthen.result c.from_residual-in_err-lengthen.ensures.1 in
    rw (p.1, p.2) (inr (later-write-fails _ (g.F.DiskFile.failures c.find_layout.new.file) _
    c.in_err-lengthen.field-0.0 c.in_ok-layout.ensures.quiet c.in_err-lengthen.ensures.cause))
