use Rattle.std.proofs.Common.{◌∙◌, sym, arith, refl, true, false}
use Rattle.macs_disk.specs.declared.layout.Layout.TheVariants.{Packed, Spaced}
use Rattle.macs_disk.proofs.FileOpenings.{by-mark, too-short}
use Rattle.std.proofs.Common.{rules}
use Rattle.std.specs.IoError.{error_kind}
use Rattle.macs_disk.specs.FileFailures.{Reads}
use Rattle.macs_disk.proofs.InterruptedCalls.{fails-of, none-yet}
use Rattle.macs_disk.proofs.settled_file.find_layout.Goals as goal

pub returns-then-octets-clause-found : goal.returns-then-octets-clause-found
returns-then-octets-clause-found g c behaves size =
    let short = c.if-octets.true in
    too-short (g.F.DiskFile.file c.args.file.now) (omega (arith, short, size))

pub returns-then-is_mark-clause-found : goal.returns-then-is_mark-clause-found
returns-then-is_mark-clause-found g c behaves size =
    let long = c.if-octets.false in
    by-mark (g.F.DiskFile.file c.args.file.now) c.read_sector.new.into true Spaced (omega (arith, long, size))
    (c.in-Ok.ensures.octets behaves)
    (sym c.is_mark.ensures ∙ c.if-is_mark.true) refl

pub returns-clause-found : goal.returns-clause-found
returns-clause-found g c behaves size =
    let long = c.if-octets.false in
    by-mark (g.F.DiskFile.file c.args.file.now) c.read_sector.new.into false Packed (omega (arith, long, size))
    (c.in-Ok.ensures.octets behaves)
    (sym c.is_mark.ensures ∙ c.if-is_mark.false) refl

pub returns-then-octets-clause-quiet : goal.returns-then-octets-clause-quiet
returns-then-octets-clause-quiet g c = none-yet _

pub returns-in_default-clause-cause : goal.returns-in_default-clause-cause
returns-in_default-clause-cause g c =
    fails-of _ _ Reads error_kind c.read_sector.result (search rules) c.read_sector.ensures.cause
