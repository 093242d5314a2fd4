use Rattle.std.proofs.Common.{◌≡◌, ◌<◌, ℕ, [], get_or, length}
use Rattle.macs_ghash.specs.Tables.{chosen_octets, octets_in}
use Rattle.macs_ghash.specs.declared.octets.TheConstants.{SIXTEENS}
use Rattle.macs_ghash.proofs.filling.row_of.Given as goal

abbrev pub invariant-loop-p : goal.invariant-loop-p
invariant-loop-p over l = record {
  size : length l.parts ≡ over.row.N;
  each : (p : ℕ) → p < l.p → (g n : ℕ) → g < SIXTEENS → n < 16 → octets_in (get_or l.parts p []) g n
      ≡ chosen_octets n (octets_in (get_or l.x0 p []) g l.place) (octets_in (get_or l.x1 p []) g l.place)
      (octets_in (get_or l.x2 p []) g l.place) (octets_in (get_or l.x3 p []) g l.place);
}
