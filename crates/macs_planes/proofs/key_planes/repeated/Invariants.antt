use Rattle.std.proofs.Common.{◌≡◌, ◌%◌, ◌<◌, ℕ, get_or, length}
use Rattle.macs_aes.specs.Bits.{IsBlock}
use Rattle.macs_planes.specs.declared.places.TheConstants.{OCTETS}
use Rattle.macs_planes.proofs.key_planes.repeated.Given as goal

abbrev pub invariant-loop-m : goal.invariant-loop-m
invariant-loop-m l = record {
  size : length l.octets ≡ OCTETS;
  whole : 0 < l.m → IsBlock l.block;
  done : (k : ℕ) → k < l.m → get_or l.octets k 0 ≡ get_or l.block (k % 16) 0;
}
