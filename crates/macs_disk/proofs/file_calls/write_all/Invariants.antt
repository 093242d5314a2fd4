-- What is gone from the front was written, and nothing else.
use Rattle.std.proofs.Common.{◌≡◌, ◌≤◌, false, length, take}
use Rattle.macs_disk.specs.FileFailures.{OnlyInterrupted}
use Rattle.macs_disk.specs.Files.{Behaves, IsSure, file_after_write}
use Rattle.macs_disk.proofs.file_calls.write_all.Given as goal

abbrev pub invariant-loop : goal.invariant-loop
invariant-loop g l = (l.done ≤ length l.initial.from)
    × ((g.F.DiskFile.file l.file).behaves ≡ (g.F.DiskFile.file l.initial.file).behaves)
    × (Behaves (g.F.DiskFile.file l.initial.file) → IsSure (g.F.DiskFile.file l.initial.file)
    → g.F.DiskFile.file l.file
    ≡ file_after_write (g.F.DiskFile.file l.initial.file) l.initial.at (take l.done l.initial.from))
    × (Behaves (g.F.DiskFile.file l.initial.file) → (g.F.DiskFile.file l.initial.file).is_sure ≡ false
    → (g.F.DiskFile.file l.file).is_sure ≡ false)
    × OnlyInterrupted (g.F.DiskFile.failures l.initial.file) (g.F.DiskFile.failures l.file)
