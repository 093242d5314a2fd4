use Rattle.std.proofs.Common.{◌≡◌, ◌<◌, ℕ, [], get_or, length}
use Rattle.macs_aes.proofs.planes.Planes.store.Given as goal

abbrev pub invariant-loop-i : goal.invariant-loop-i
invariant-loop-i g l = record {
  size : length l.stored ≡ g.row.N;
  done : (i : ℕ) → i < l.i → get_or l.stored i [] ≡ get_or l.self i [];
}
