use Rattle.std.proofs.Common.{◌≡◌, ◌+◌, ◌*◌, ◌/◌, ◌%◌, ◌<◌, ℕ, [], get_or, length}
use Rattle.macs_aes.specs.Bits.{IsBlock}
use Rattle.macs_aes.specs.Blocks.{octet}
use Rattle.macs_planes.specs.declared.places.TheConstants.{OCTETS}
use Rattle.macs_planes.proofs.across.side_by_side.Given as goal

abbrev pub invariant-loop-m : goal.invariant-loop-m
invariant-loop-m l = record {
  size : length l.octets ≡ OCTETS;
  whole : (k : ℕ) → k < l.m → IsBlock (get_or l.blocks (8 * (k / 16) + l.i) []);
  done : (k : ℕ) → k < l.m → get_or l.octets k 0 ≡ octet l.blocks (8 * (k / 16) + l.i) (k % 16);
}
