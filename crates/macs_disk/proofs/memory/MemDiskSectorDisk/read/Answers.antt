use Rattle.macs_disk.proofs.Kept.{kept-on}
use Rattle.macs_disk.proofs.memory.MemDiskSectorDisk.read.Goals as goal

pub invariant_of-self : goal.invariant_of-self
invariant_of-self g c =
    let m = c.args.self.now in
    record {
      chosen = m.chosen;
      kept =
          kept-on _ _ _ _ _ _ m.calls.stamped m.kept _ _ c.pass.ensures.entries c.pass.ensures.later;
    }
