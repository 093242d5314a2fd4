use Rattle.std.proofs.Common.{◌≡◌, ◌+◌, ◌*◌, ◌<◌, ℕ, [], bit_xor, get_or, length}
use Rattle.macs_ghash.specs.Tables.{octet_from_left, octets_in}
use Rattle.macs_ghash.specs.declared.octets.TheConstants.{SIXTEENS}
use Rattle.macs_ghash.proofs.filling.all_octets.Given as goal

abbrev pub invariant-loop-p : goal.invariant-loop-p
invariant-loop-p over l = record {
  size : length l.parts ≡ over.row.N;
  each : (p : ℕ) → p < l.p → (g b : ℕ) → g < SIXTEENS → b < 16
      → octets_in (get_or l.parts p []) g (bit_xor b 7) ≡ octet_from_left (get_or l.blocks (SIXTEENS * p + g) 0) b;
}
