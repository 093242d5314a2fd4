-- What is in the buffer so far was taken from the source, and no read failed.
use Rattle.std.proofs.Common.{length, ◌-◌, ◌≡◌, ◌≤◌, take}
use Rattle.std.specs.Io.KnownBytes.{Consumes}
use Rattle.macs_pcap.proofs.moving.fill.Given as goal

abbrev pub invariant-loop-count : goal.invariant-loop-count
invariant-loop-count g l = (length l.into ≡ length l.initial.into) × (l.count ≤ length l.into)
    × Consumes (g.R.Source.state l.initial.source).left (g.R.Source.state l.source).left (take l.count l.into)
    × ((g.R.Source.state l.source).failed ≡ (g.R.Source.state l.initial.source).failed)

abbrev pub decreases-loop-count : goal.decreases-loop-count
decreases-loop-count g l = length l.initial.into - l.count
