use Rattle.std.proofs.Common.{◌≡◌, ◌<◌, ℕ, get_or, length}
use Rattle.macs_ghash.specs.Tables.{octets_in}
use Rattle.macs_ghash.proofs.octets.sixteen_of.Given as goal

abbrev pub invariant-loop-j : goal.invariant-loop-j
invariant-loop-j l = record {
  size : length l.block ≡ 16;
  done : (k : ℕ) → k < l.j → get_or l.block k 0 ≡ octets_in l.octets l.g k;
}
