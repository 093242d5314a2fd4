-- What is gone from the rest was written, and no write failed.
use Rattle.std.proofs.Common.{length, ◌≡◌, ℕ, List, ◌++◌}
use Rattle.std.specs.Io.KnownBytes.{Appends}
use Rattle.macs_pcap.proofs.moving.send.Given as goal

abbrev pub invariant-loop-rest : goal.invariant-loop-rest
invariant-loop-rest g l =
    ((front : List ℕ) × (l.initial.rest ≡ front ++ l.rest)
    × Appends (g.W.Sink.state l.initial.sink).held (g.W.Sink.state l.sink).held front)
    × ((g.W.Sink.state l.sink).failed ≡ (g.W.Sink.state l.initial.sink).failed)

abbrev pub decreases-loop-rest : goal.decreases-loop-rest
decreases-loop-rest g l = length l.rest
