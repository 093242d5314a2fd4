use Rattle.std.specs.Prelude.{◌≡◌, ◌≤◌, ◌+◌, false, length}
use Rattle.macs_disk.specs.Disk.{IsHonest, Works}
use Rattle.macs_journal.specs.Areas.{other_area}
use Rattle.macs_journal.specs.Compacting.{compacted_place, next_head}
use Rattle.macs_journal.specs.Stepping.{AtNextCall, IsCompactionUnderWay}
use Rattle.macs_journal.specs.Value.{AreLent, IsIdle, left_of}
use Rattle.macs_journal.proofs.Compacting.{IsCompactOf}
use Rattle.macs_journal.proofs.journal.Journal.finish_compact.Given as goal

abbrev pub invariant-loop-self : goal.invariant-loop-self
invariant-loop-self g l =
    let old = g.D.SectorDisk.disk l.fn.self.disk in
    let disk = g.D.SectorDisk.disk l.self.disk in
    let records = g.R.RecordSource.listed l.fn.records in
    let head = next_head l.fn.self.place.head (length records) in
    record {
      running : l.self.stopped ≡ false;
      compacts : IsCompactOf head l.self.under_way;
      lent : AreLent l.self.under_way records;
      works : Works old disk;
      steady : disk.failures ≡ old.failures;
      place : IsCompactionUnderWay l.self.under_way → l.self.place ≡ l.fn.self.place;
      moved : IsIdle l.self → l.self.place ≡ compacted_place l.fn.self.place (length records);
      most : disk.clock + left_of l.self.under_way ≤ old.clock + (519 + length records);
      at : IsHonest disk → AtNextCall old disk (other_area l.fn.self.place.area) head records l.self.under_way;
    }

abbrev pub decreases-loop-self : goal.decreases-loop-self
decreases-loop-self g l = left_of l.self.under_way
