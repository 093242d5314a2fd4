use Rattle.std.proofs.Common.{◌≡◌, ◌<◌, ◌≤◌, ◌+◌, ◌-◌, ℕ, length}
use Rattle.macs_fixtures.specs.Blocks.{are_octets, octet_at}
use Rattle.macs_fixtures.proofs.blocks.store.Given as goal

abbrev pub invariant-loop-i : goal.invariant-loop-i
invariant-loop-i g l = record {
  same_length : length l.to.items ≡ length l.fn.to.items;
  stored : (p : ℕ) → l.at ≤ p → p < l.at + l.i → octet_at l.to.items p ≡ octet_at l.from (p - l.at);
  before : (p : ℕ) → p < l.at → octet_at l.to.items p ≡ octet_at l.fn.to.items p;
  behind : (p : ℕ) → l.at + l.i ≤ p → octet_at l.to.items p ≡ octet_at l.fn.to.items p;
  octets : are_octets l.fn.to.items → are_octets l.to.items;
}
