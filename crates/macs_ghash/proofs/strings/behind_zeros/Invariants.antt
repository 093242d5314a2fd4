use Rattle.std.proofs.Common.{◌/◌, ◌≡◌, ◌<◌, ◌+◌, ◌-◌, ℕ}
use Rattle.macs_gf.specs.Ghash.{block_at, hash_input}
use Rattle.macs_ghash.proofs.strings.behind_zeros.Given as goal

abbrev pub invariant-loop-k : goal.invariant-loop-k
invariant-loop-k over l = record {
  zeros : (j : ℕ) → j < over.row.M / 16 - l.count → block_at l.octets j ≡ 0;
  done : (j : ℕ) → j < l.k → block_at l.octets (over.row.M / 16 - l.count + j) ≡ block_at (hash_input l.aad l.text) j;
}
