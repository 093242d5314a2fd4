use Rattle.std.proofs.Common.{◌≡◌, ℕ, false, length}
use Rattle.macs_disk.specs.CallLists.{flag_at}
use Rattle.macs_fixtures.proofs.blocks.keep_first.Given as goal

abbrev pub invariant-loop-n : goal.invariant-loop-n
invariant-loop-n g l = record {
  same_length : length l.flags.items ≡ length l.fn.flags.items;
  fewer : (k : ℕ) → flag_at l.fn.flags.items k ≡ false → flag_at l.flags.items k ≡ false;
}
