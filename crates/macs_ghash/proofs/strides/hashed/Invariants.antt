use Rattle.std.proofs.Common.{◌≡◌, ◌+◌, ◌-◌, ◌*◌, ◌^◌, ◌<◌, ℕ, take}
use Rattle.macs_gf.specs.Ghash.{blocks_of, ghash_from, hash_input, subkey_power}
use Rattle.macs_ghash.specs.Tables.{AreTables}
use Rattle.macs_ghash.specs.declared.octets.TheConstants.{SIXTEENS}
use Rattle.macs_ghash.proofs.strides.hashed.Given as goal

abbrev pub invariant-loop-stride : goal.invariant-loop-stride
invariant-loop-stride over l = record {
  on : l.taken ≡ l.first + l.size * l._stride;
  state : (h : ℕ) → h < 2 ^ 128
      → AreTables SIXTEENS over.row.N (λ i. subkey_power h (SIXTEENS * over.row.N - i)) l.tables
      → l.state ≡ ghash_from h 0 (take l.taken (blocks_of (hash_input l.aad l.text)));
}
