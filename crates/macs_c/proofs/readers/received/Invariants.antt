use Rattle.std.proofs.Common.{◌≡◌, ◌<◌, ℕ, length, get_or}
use Rattle.macs_rxsc.specs.Counting.{count_of}
use Rattle.macs_rxsc.specs.Value.{counters_of}
use Rattle.macs_rxsc.specs.declared.verdict.Verdict.TheVariants.{HeldBack}
use Rattle.macs_c.specs.Shown.{verdicts}
use Rattle.macs_c.proofs.readers.received.Given as goal

abbrev pub invariant-loop-at : goal.invariant-loop-at
invariant-loop-at l = (length l.counts ≡ 15) × ((k : ℕ) → k < l.at
    → get_or l.counts k 0 ≡ count_of (get_or verdicts k HeldBack) (counters_of l.endpoint.rx))
