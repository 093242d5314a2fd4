use Rattle.macs_disk.specs.Disk.{IsHonest, now}
use Rattle.macs_journal.specs.FirstFault.{AreSound}
use Rattle.macs_journal.proofs.OnlyReads.{AreRead}
use Rattle.macs_journal.proofs.bad_journal.area_fault.Given as goal

-- the slots so far are sound
abbrev pub invariant-loop-slot : goal.invariant-loop-slot
invariant-loop-slot g l =
    let old = g.D.SectorDisk.disk l.fn.disk in
    let disk = g.D.SectorDisk.disk l.disk in
    record {
      reads : AreRead old disk;
      sound : IsHonest disk → AreSound (now old).seen l.area l.count l.slot;
    }
