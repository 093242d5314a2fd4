-- Zeros were written from the front up to here, and nothing else.
use Rattle.std.proofs.Common.{◌≡◌, ◌≤◌, ◌-◌, ◌⊎◌, false, replicate}
use Rattle.macs_disk.specs.FileFailures.{OnlyInterrupted}
use Rattle.macs_disk.specs.Files.{Behaves, IsSure, file_after_write}
use Rattle.macs_disk.proofs.file_calls.write_zeros.Given as goal

abbrev pub invariant-loop : goal.invariant-loop
invariant-loop g l = (l.initial.from ≤ l.at) × ((l.at ≤ l.initial.to) ⊎ (l.at ≡ l.initial.from))
    × ((g.F.DiskFile.file l.file).behaves ≡ (g.F.DiskFile.file l.initial.file).behaves)
    × (Behaves (g.F.DiskFile.file l.initial.file) → IsSure (g.F.DiskFile.file l.initial.file)
    → g.F.DiskFile.file l.file
    ≡ file_after_write (g.F.DiskFile.file l.initial.file) l.initial.from (replicate (l.at - l.initial.from) 0))
    × (Behaves (g.F.DiskFile.file l.initial.file) → (g.F.DiskFile.file l.initial.file).is_sure ≡ false
    → (g.F.DiskFile.file l.file).is_sure ≡ false)
    × OnlyInterrupted (g.F.DiskFile.failures l.initial.file) (g.F.DiskFile.failures l.file)
