use Rattle.std.proofs.Common.{◌≡◌, ◌<◌, ℕ, [], get_or, length}
use Rattle.macs_aes.specs.Bits.{IsBlock, tested}
use Rattle.macs_aes.specs.Blocks.{bit_in, octet}
use Rattle.macs_aes.proofs.bits.plane.Given as goal

abbrev pub invariant-loop-i : goal.invariant-loop-i
invariant-loop-i g l = record {
  size : length l.lanes ≡ g.row.N;
  are : (i : ℕ) → i < l.i → IsBlock (get_or l.blocks i []);
  done : (i j : ℕ) → i < l.i → j < 16 → bit_in l.lanes i j ≡ tested l.mask (octet l.blocks i j);
}
