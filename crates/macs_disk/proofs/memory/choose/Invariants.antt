use Rattle.std.proofs.Common.{◌≡◌, ◌<◌, ◌≤◌, ℕ, length}
use Rattle.std.specs.Prelude.{unwrap_or}
use Rattle.macs_disk.specs.CallLists.{choice_at, sectors_in}
use Rattle.macs_disk.proofs.memory.choose.Given as goal

abbrev pub invariant-loop-i : goal.invariant-loop-i
invariant-loop-i g l = record {
  same_length : length l.sectors.items ≡ length l.fn.sectors.items;
  done : (k : ℕ) → k < l.i
      → sectors_in l.sectors.items k ≡ unwrap_or (choice_at l.choices k) (sectors_in l.fn.sectors.items k);
  rest : (k : ℕ) → l.i ≤ k → sectors_in l.sectors.items k ≡ sectors_in l.fn.sectors.items k;
}
