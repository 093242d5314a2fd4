use Rattle.std.proofs.Common.{◌≡◌, ◌≢◌, ◌+◌, ◌*◌, ◌/◌, ◌<◌, ℕ, get_or, length}
use Rattle.macs_ghash.proofs.strings.put_block.Given as goal

abbrev pub invariant-loop-j : goal.invariant-loop-j
invariant-loop-j over l = record {
  size : length l.octets ≡ over.row.M;
  done : (i : ℕ) → i < l.j → get_or l.octets (16 * l.k + i) 0 ≡ get_or l.block i 0;
  others : (m : ℕ) → m / 16 ≢ l.k → get_or l.octets m 0 ≡ get_or l.initial.octets m 0;
}
