use Rattle.std.proofs.Common.{◌≡◌, ℕ, ◌+◌, ◌*◌, ◌<◌, ◌≤◌, length, slice_index}
use Rattle.macs_ghash.proofs.strings.short_block.Given as goal

abbrev pub invariant-loop-k : goal.invariant-loop-k
invariant-loop-k l = record {
  size : length l.block ≡ 16;
  done : (j : ℕ) → j < l.k → slice_index l.block j ≡ slice_index l.octets (16 * l.i + j);
  left : (j : ℕ) → l.k ≤ j → slice_index l.block j ≡ 0;
}
