use Rattle.std.proofs.Common.{◌≡◌, ◌<◌, ℕ, false, length}
use Rattle.macs_disk.specs.CallLists.{flag_at}
use Rattle.macs_fixtures.proofs.blocks.clear.Given as goal

abbrev pub invariant-loop-n : goal.invariant-loop-n
invariant-loop-n g l = record {
  same_length : length l.flags.items ≡ length l.initial.flags.items;
  clear : (k : ℕ) → k < l.n → flag_at l.flags.items k ≡ false;
}
