use Rattle.std.proofs.Common.{◌≡◌, ◌<◌, ◌+◌, ℕ}
use Rattle.macs_gf.specs.Ghash.{block_at, hash_input}
use Rattle.macs_ghash.proofs.strings.gathered_blocks.Given as goal

abbrev pub invariant-loop-k : goal.invariant-loop-k
invariant-loop-k over l = (j : ℕ) → j < l.k → block_at l.octets j ≡ block_at (hash_input l.aad l.text) (l.i + j)
