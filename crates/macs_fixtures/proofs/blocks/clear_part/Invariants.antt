use Rattle.std.proofs.Common.{◌≡◌, ◌<◌, ◌≤◌, ℕ, length}
use Rattle.macs_fixtures.specs.Blocks.{octet_at}
use Rattle.macs_fixtures.proofs.blocks.clear_part.Given as goal

abbrev pub invariant-loop-p : goal.invariant-loop-p
invariant-loop-p g l = record {
  same_length : length l.to.items ≡ length l.fn.to.items;
  cleared : (k : ℕ) → l.at ≤ k → k < l.p → octet_at l.to.items k ≡ 0;
  before : (k : ℕ) → k < l.at → octet_at l.to.items k ≡ octet_at l.fn.to.items k;
  behind : (k : ℕ) → l.p ≤ k → octet_at l.to.items k ≡ octet_at l.fn.to.items k;
}
