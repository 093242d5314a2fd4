use Rattle.std.proofs.Common.{◌≡◌, ◌<◌, ◌≤◌, ◌||◌, ℕ, length}
use Rattle.macs_disk.specs.Files.{has_some}
use Rattle.macs_disk.specs.CallLists.{flag_at}
use Rattle.macs_fixtures.proofs.blocks.mark.Given as goal

abbrev pub invariant-loop-n : goal.invariant-loop-n
invariant-loop-n g l = record {
  same_length : length l.flags.items ≡ length l.fn.flags.items;
  marked : (k : ℕ) → k < l.n → flag_at l.flags.items k ≡ (has_some l.block l.from l.to k || flag_at l.fn.flags.items k);
  rest : (k : ℕ) → l.n ≤ k → flag_at l.flags.items k ≡ flag_at l.fn.flags.items k;
}
