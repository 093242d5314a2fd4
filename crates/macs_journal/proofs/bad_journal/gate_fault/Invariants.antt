use Rattle.std.proofs.Common.{◌<◌, ◌+◌, ℕ}
use Rattle.macs_disk.specs.Disk.{IsHonest, now}
use Rattle.macs_journal.specs.Found.{IsGateOpen}
use Rattle.macs_journal.proofs.OnlyReads.{AreRead}
use Rattle.macs_journal.proofs.bad_journal.gate_fault.Given as goal

-- the gates so far are closed
abbrev pub invariant-loop-behind : goal.invariant-loop-behind
invariant-loop-behind g l =
    let old = g.D.SectorDisk.disk l.fn.disk in
    let disk = g.D.SectorDisk.disk l.disk in
    record {
      above : l.slot < l.behind;
      reads : AreRead old disk;
      shut : IsHonest disk → (k : ℕ) → l.slot < k → k < l.behind → ¬ IsGateOpen (now old).seen l.area (k + 1);
    }
