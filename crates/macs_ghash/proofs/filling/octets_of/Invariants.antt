use Rattle.std.proofs.Common.{◌≡◌, ◌+◌, ◌*◌, ◌/◌, ◌%◌, ◌^◌, ◌<◌, ℕ, get_or, length}
use Rattle.macs_ghash.specs.declared.octets.TheConstants.{SIXTEENS}
use Rattle.macs_ghash.proofs.filling.octets_of.Given as goal

abbrev pub invariant-loop-g : goal.invariant-loop-g
invariant-loop-g over l = record {
  size : length l.words ≡ 2 * SIXTEENS;
  first : (k : ℕ) → k < l.g → get_or l.words (2 * k) 0 ≡ get_or l.blocks (SIXTEENS * l.p + k) 0 / 2 ^ 64;
  second : (k : ℕ) → k < l.g → get_or l.words (2 * k + 1) 0 ≡ get_or l.blocks (SIXTEENS * l.p + k) 0 % 2 ^ 64;
  small : (m : ℕ) → get_or l.words m 0 < 18446744073709551616;
}
