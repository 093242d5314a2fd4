use Rattle.std.proofs.Common.{◌≡◌, ◌<◌, ◌+◌, ℕ, length}
use Rattle.macs_fixtures.specs.Blocks.{octet_at}
use Rattle.macs_fixtures.proofs.blocks.fetch.Given as goal

abbrev pub invariant-loop-i : goal.invariant-loop-i
invariant-loop-i l = record {
  same_length : length l.into ≡ length l.fn.into;
  fetched : (k : ℕ) → k < l.i → octet_at l.into k ≡ octet_at l.from (l.at + k);
}
