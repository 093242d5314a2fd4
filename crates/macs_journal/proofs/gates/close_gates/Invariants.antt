use Rattle.std.proofs.Common.{◌≡◌, ℕ}
use Rattle.macs_disk.specs.Disk.{IsHonest, Works, now}
use Rattle.macs_journal.specs.NewArea.{AreClosed, IsNoOpenGate}
use Rattle.macs_journal.specs.Work.{IsSpared}
use Rattle.macs_journal.proofs.gates.close_gates.Given as goal

abbrev pub invariant-loop-k : goal.invariant-loop-k
invariant-loop-k g l =
    let old = g.D.SectorDisk.disk l.fn.disk in
    let disk = g.D.SectorDisk.disk l.disk in
    record {
      works : Works old disk;
      steady : disk.failures ≡ old.failures;
      spared : IsHonest disk → (i : ℕ) → IsNoOpenGate (now old).seen l.fn.area l.fn.first l.k i → IsSpared old disk i;
      closed : IsHonest disk → AreClosed (now old).seen (now disk).seen l.fn.area l.fn.first l.k;
    }
