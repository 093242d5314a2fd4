-- So many octets were copied, and the file that is copied is as it was.
use Rattle.std.proofs.Common.{◌≡◌, ◌≤◌}
use Rattle.macs_disk.specs.FileDisks.{HasFront}
use Rattle.macs_disk.specs.FileFailures.{OnlyInterrupted}
use Rattle.macs_disk.specs.Files.{Behaves, IsMadeBeside}
use Rattle.macs_disk.proofs.claimed_file.copy_octets.Given as goal

abbrev pub invariant-loop : goal.invariant-loop
invariant-loop g l = (l.done ≤ l.initial.octets)
    × ((g.F.DiskFile.file l.into).behaves ≡ (g.F.DiskFile.file l.initial.into).behaves)
    × ((g.F.DiskFile.file l.from).behaves ≡ (g.F.DiskFile.file l.initial.from).behaves)
    × (Behaves (g.F.DiskFile.file l.initial.from) → g.F.DiskFile.file l.from ≡ g.F.DiskFile.file l.initial.from)
    × (Behaves (g.F.DiskFile.file l.initial.from)
    → IsMadeBeside (g.F.DiskFile.file l.initial.from) (g.F.DiskFile.file l.initial.into)
    → HasFront (g.F.DiskFile.file l.initial.from) l.done (g.F.DiskFile.file l.into))
    × OnlyInterrupted (g.F.DiskFile.failures l.initial.from) (g.F.DiskFile.failures l.from)
    × OnlyInterrupted (g.F.DiskFile.failures l.initial.into) (g.F.DiskFile.failures l.into)
