use Rattle.std.proofs.Common.{◌≡◌, ◌<◌, ℕ, get_or, length}
use Rattle.macs_gf.specs.Gf128.{times_x}
use Rattle.macs_ghash.proofs.filling.all_further_by_x.Given as goal

abbrev pub invariant-loop-l : goal.invariant-loop-l
invariant-loop-l over l = record {
  size : length l.further ≡ over.row.P;
  done : (k : ℕ) → k < l.l → get_or l.further k 0 ≡ times_x (get_or l.blocks k 0);
}
