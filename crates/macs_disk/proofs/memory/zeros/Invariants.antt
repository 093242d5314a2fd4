use Rattle.std.proofs.Common.{◌≡◌, replicate}
use Rattle.macs_disk.specs.States.{zero_sector}
use Rattle.macs_disk.proofs.memory.zeros.Given as goal

abbrev pub invariant-loop-i : goal.invariant-loop-i
invariant-loop-i g l = l.sectors.items ≡ replicate l._i zero_sector
