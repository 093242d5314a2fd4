use Rattle.std.proofs.Common.{◌≡◌, ◌+◌, ◌*◌, ◌<◌, ℕ, [], get_or, length}
use Rattle.macs_ghash.specs.Tables.{nibble_product, octet_from_left, octets_in}
use Rattle.macs_ghash.specs.declared.octets.TheConstants.{SIXTEENS}
use Rattle.macs_ghash.proofs.filling.fill.Given as goal

abbrev pub invariant-loop-b : goal.invariant-loop-b
invariant-loop-b over l = record {
  size : length l.tables ≡ 16;
  each : (b : ℕ) → b < l.b → (p g n : ℕ) → p < over.row.N → g < SIXTEENS → n < 16
      → octets_in (get_or (get_or l.tables b []) p []) g n
      ≡ octet_from_left (nibble_product n (get_or l.powers (SIXTEENS * p + g) 0)) b;
}
