-- What a C program reads of an endpoint.
use Rattle.std.specs.Prelude.{◌≡◌, ◌<◌, ◌≤◌, ℕ, List, [], ◌∷◌, map, Option, Some, None, IsSomeAnd}
use Rattle.macs_endpoint.specs.Reserved.{reserved_of}
use Rattle.macs_endpoint.specs.State.{no_logs}
use Rattle.macs_endpoint.specs.Value.{state_of}
use Rattle.macs_rxsc.specs.Counting.{count_of}
use Rattle.macs_rxsc.specs.Receive.{Numbers}
use Rattle.macs_rxsc.specs.Value as rxsc
use Rattle.macs_rxsc.specs.declared.verdict.Kind.TheVariants as kind
use Rattle.macs_rxsc.specs.declared.verdict.Reason.TheVariants as reason
use Rattle.macs_rxsc.specs.declared.verdict.Verdict.{Verdict}
use Rattle.macs_rxsc.specs.declared.verdict.Verdict.TheVariants.{Delivered, Discarded}
use Rattle.macs_txsc.specs.Transmit.{fault_count}
use Rattle.macs_txsc.specs.Value as txsc
use Rattle.macs_txsc.specs.declared.fault.TxFault.{TxFault}
use Rattle.macs_txsc.specs.declared.fault.TxFault.TheVariants as tx
use Rattle.macs_c.specs.Calls.{E}
use Rattle.macs_c.specs.declared.answers.Answer.{Answer}
use Rattle.macs_c.specs.declared.answers.Answer.TheVariants as code
use Rattle.macs_c.specs.declared.readers.MacsCounters.{MacsCounters}
use Rattle.macs_c.specs.declared.readers.MacsRx.{MacsRx}
use Rattle.macs_c.specs.declared.readers.MacsTx.{MacsTx}
use Rattle.macs_c.specs.declared.slot.Slot.{Slot}

-- ---- associations

-- A transmit association is shown: its next packet number, and how many are reserved from there on. Or its number is
-- out of its range, or there is none.
abbrev pub TxFrom : E → ℕ → MacsTx → Answer → MacsTx → Type 0
TxFrom e an old code.Success new = (an < 4) × ((state_of e no_logs).next an ≡ Some new.next)
    × ((reserved_of e).tx an ≡ Some new.reserved)
TxFrom e an old code.Field new = (4 ≤ an) × (new ≡ old)
TxFrom e an old code.Absent new = (an < 4) × ((state_of e no_logs).next an ≡ None) × (new ≡ old)
TxFrom e an old answer new = ⊥

-- The same of a receive association, with the lowest acceptable packet number.
abbrev pub RxFrom : E → List ℕ → ℕ → MacsRx → Answer → MacsRx → Type 0
RxFrom e sci an old code.Success new = (an < 4)
    × IsSomeAnd ((state_of e no_logs).numbers sci an)
    (λ (n : Numbers). (new.next ≡ n.next) × (new.lowest ≡ n.lowest))
    × ((reserved_of e).rx sci an ≡ Some new.reserved)
RxFrom e sci an old code.Field new = (4 ≤ an) × (new ≡ old)
RxFrom e sci an old code.Absent new = (an < 4) × ((state_of e no_logs).numbers sci an ≡ None) × (new ≡ old)
RxFrom e sci an old answer new = ⊥

-- ---- counters

-- the faults that are counted, in the order of their codes
abbrev pub faults : List TxFault
faults = tx.Runt ∷ tx.TooLong ∷ tx.ForeignSource ∷ tx.NoEncodingSa ∷ tx.Exhausted ∷ tx.NoNumber ∷ []

-- the verdicts that are counted, in the order of their codes
abbrev pub verdicts : List Verdict
verdicts =
    Delivered kind.Ok ∷ Delivered kind.Delayed ∷ Delivered kind.Invalid ∷ Delivered kind.Untagged
    ∷ Delivered kind.UnknownSci ∷ Delivered kind.UnusedSa ∷ Discarded reason.Runt ∷ Discarded reason.Oversize
    ∷ Discarded reason.NoTag ∷ Discarded reason.BadTag ∷ Discarded reason.ForKay ∷ Discarded reason.NoSci
    ∷ Discarded reason.NotUsingSa ∷ Discarded reason.Late ∷ Discarded reason.NotValid ∷ []

-- how many plain frames were not sent, by fault
abbrev pub unsent_counts : E → List ℕ
unsent_counts e = map (λ (fault : TxFault). fault_count fault (txsc.counters_of e.tx)) faults

-- how many received frames were delivered or discarded, by verdict
abbrev pub received_counts : E → List ℕ
received_counts e = map (λ (verdict : Verdict). count_of verdict (rxsc.counters_of e.rx)) verdicts

-- all counters
abbrev pub counts_of : E → MacsCounters
counts_of e = record {
  protected_frames = (txsc.counters_of e.tx).protected;
  unsent = unsent_counts e;
  received = received_counts e;
}

-- ---- the same where an endpoint may be open

-- a transmit association, where an endpoint may be open: with none this is refused, and nothing is stored
abbrev pub TxAnswer : Option Slot → ℕ → MacsTx → Answer → MacsTx → Type 0
TxAnswer None an old answer new = (answer ≡ code.Closed) × (new ≡ old)
TxAnswer (Some slot) an old answer new = TxFrom slot.endpoint an old answer new

-- a receive association, likewise
abbrev pub RxAnswer : Option Slot → List ℕ → ℕ → MacsRx → Answer → MacsRx → Type 0
RxAnswer None sci an old answer new = (answer ≡ code.Closed) × (new ≡ old)
RxAnswer (Some slot) sci an old answer new = RxFrom slot.endpoint sci an old answer new

-- the counters, likewise
abbrev pub CountersAnswer : Option Slot → MacsCounters → Answer → MacsCounters → Type 0
CountersAnswer None old answer new = (answer ≡ code.Closed) × (new ≡ old)
CountersAnswer (Some slot) old answer new = (answer ≡ code.Success) × (new ≡ counts_of slot.endpoint)
