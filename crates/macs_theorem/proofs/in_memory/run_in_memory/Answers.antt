use Rattle.std.proofs.Common.{arith, min, subst, sym}
use Rattle.macs_disk.specs.Fuses.{disk_of_fuse}
use Rattle.macs_disk.specs.MemDisks.{disk_of, memory_of}
use Rattle.macs_headline.specs.Binding.{IsNewDisk}
use Rattle.macs_headline.proofs.PlayedLosses.{blank-new, fused-new}
use Rattle.macs_theorem.proofs.in_memory.run_in_memory.Goals as goal

pub run-requires-clause-new : goal.run-requires-clause-new
run-requires-clause-new g c =
    let disk = disk_of c.in-Ok.disk in
    subst (λ fuse. IsNewDisk (disk_of_fuse disk_of fuse)) (sym c.new-2.ensures)
    (fused-new disk (min disk.clock disk.clock) 0 0 (omega arith)
    (blank-new (memory_of c.in-Ok.disk) c.in-Ok.ensures.ok))
