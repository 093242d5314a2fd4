use Rattle.std.proofs.Common.{◌≡◌, ◌<◌, ◌≤◌, ℕ}
use Rattle.macs_ghash.specs.Tables.{octets_in, row_term, stepped, with_beyond}
use Rattle.macs_ghash.specs.declared.octets.TheConstants.{SIXTEENS}
use Rattle.macs_ghash.proofs.tables.products.Given as goal

abbrev pub invariant-loop-k : goal.invariant-loop-k
invariant-loop-k over l = record {
  sums : (g : ℕ) → g < SIXTEENS → with_beyond (octets_in l.sums.low g) (octets_in l.sums.high g)
      ≡ stepped (row_term over.row.N l.tables l.left l.right g) l.k;
  tail : (g j : ℕ) → g < SIXTEENS → j < 16 → l.k ≤ j → octets_in l.sums.high g j ≡ 0;
}
