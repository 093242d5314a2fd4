use Rattle.std.proofs.Common.{◌≡◌, ◌<◌, ℕ, length, get_or}
use Rattle.macs_txsc.specs.Transmit.{fault_count}
use Rattle.macs_txsc.specs.Value.{counters_of}
use Rattle.macs_txsc.specs.declared.fault.TxFault.TheVariants.{Runt}
use Rattle.macs_c.specs.Shown.{faults}
use Rattle.macs_c.proofs.readers.unsent.Given as goal

abbrev pub invariant-loop-at : goal.invariant-loop-at
invariant-loop-at l = (length l.counts ≡ 6) × ((k : ℕ) → k < l.at
    → get_or l.counts k 0 ≡ fault_count (get_or faults k Runt) (counters_of l.endpoint.tx))
