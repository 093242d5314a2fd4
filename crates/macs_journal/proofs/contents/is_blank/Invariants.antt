use Rattle.std.proofs.Common.{◌≡◌, ◌≤◌, ◌<◌, ℕ}
use Rattle.macs_disk.specs.Files.{Behaves}
use Rattle.macs_journal.specs.Contents.{IsUnused, sector_in}
use Rattle.macs_journal.proofs.contents.is_blank.Given as goal

-- the file is as it was, and each sector so far is unused
abbrev pub invariant-loop-round : goal.invariant-loop-round
invariant-loop-round g l =
    let file = g.F.DiskFile.file l.initial.file in
    (l._round ≤ l.number)
    × (l.number ≤ l.sectors)
    × ((g.F.DiskFile.file l.file).behaves ≡ file.behaves)
    × (Behaves file → g.F.DiskFile.file l.file ≡ file)
    × (Behaves file → (k : ℕ) → k < l.number → IsUnused k (sector_in file k))
