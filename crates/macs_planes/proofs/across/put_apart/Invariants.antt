use Rattle.std.proofs.Common.{◌≡◌, ◌≢◌, ◌+◌, ◌*◌, ◌%◌, ◌<◌, ℕ, [], get_or, length}
use Rattle.macs_planes.specs.Across.{octet_of_words}
use Rattle.macs_aes.specs.Blocks.{octet}
use Rattle.macs_planes.specs.declared.places.TheConstants.{LANES}
use Rattle.macs_planes.proofs.across.put_apart.Given as goal

abbrev pub invariant-loop-g : goal.invariant-loop-g
invariant-loop-g l = record {
  size : length l.blocks ≡ LANES;
  sizes : (h : ℕ) → h < l.g → length (get_or l.blocks (8 * h + l.i) []) ≡ 16;
  octets : (h j : ℕ) → h < l.g → j < 16 → octet l.blocks (8 * h + l.i) j ≡ octet_of_words l.words (16 * h + j);
  others : (n : ℕ) → n % 8 ≢ l.i → get_or l.blocks n [] ≡ get_or l.initial.blocks n [];
}
