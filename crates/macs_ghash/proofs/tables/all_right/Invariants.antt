use Rattle.std.proofs.Common.{◌≡◌, ◌+◌, ◌*◌, ◌%◌, ◌<◌, ℕ, [], get_or, length}
use Rattle.macs_ghash.specs.Tables.{octets_in}
use Rattle.macs_ghash.specs.declared.octets.TheConstants.{SIXTEENS}
use Rattle.macs_ghash.proofs.tables.all_right.Given as goal

abbrev pub invariant-loop-p : goal.invariant-loop-p
invariant-loop-p over l = record {
  size : length l.parts ≡ over.row.N;
  each : (p : ℕ) → p < l.p → (g j : ℕ) → g < SIXTEENS → j < 16
      → octets_in (get_or l.parts p []) g j ≡ get_or l.octets (16 * (SIXTEENS * p + g) + j) 0 % 16;
}
