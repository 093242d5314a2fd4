-- What is in the buffer so far are the file's octets, and the file is as it was.
use Rattle.std.proofs.Common.{◌≡◌, ◌≤◌, length, take}
use Rattle.macs_disk.specs.FileFailures.{OnlyInterrupted}
use Rattle.macs_disk.specs.Files.{Behaves, values_from}
use Rattle.macs_disk.proofs.file_calls.read_whole.Given as goal

abbrev pub invariant-loop : goal.invariant-loop
invariant-loop g l = (length l.into ≡ 512) × (l.done ≤ 512)
    × ((g.F.DiskFile.file l.file).behaves ≡ (g.F.DiskFile.file l.initial.file).behaves)
    × (Behaves (g.F.DiskFile.file l.initial.file) → g.F.DiskFile.file l.file ≡ g.F.DiskFile.file l.initial.file)
    × (Behaves (g.F.DiskFile.file l.initial.file)
    → take l.done l.into ≡ values_from (g.F.DiskFile.file l.initial.file).seen l.initial.from l.done)
    × OnlyInterrupted (g.F.DiskFile.failures l.initial.file) (g.F.DiskFile.failures l.file)
