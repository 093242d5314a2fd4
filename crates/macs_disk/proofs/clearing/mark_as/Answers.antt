use Rattle.std.proofs.Common.{refl, subst, sym}
use Rattle.macs_disk.specs.FileDisks.{IsMarkedAs}
use Rattle.macs_disk.proofs.FileOpenings.{marked-none}
use Rattle.macs_disk.proofs.clearing.mark_as.Goals as goal

pub returns-in-Packed-clause-marked : goal.returns-in-Packed-clause-marked
returns-in-Packed-clause-marked g c empty =
    let file = g.F.DiskFile.file c.args.file.now in
    subst (IsMarkedAs file file) (sym c.in-Packed.is) (marked-none file file empty refl)
