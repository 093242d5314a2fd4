use Rattle.std.proofs.Common.{◌≡◌, ◌<◌, ◌%◌, ℕ, [], get_or, length}
use Rattle.macs_aes.specs.Cipher.{round_key}
use Rattle.macs_aes.specs.KeyExpansion.{key_words}
use Rattle.macs_planes.specs.Across.{IsKeyPlanes, turned_back}
use Rattle.macs_planes.specs.declared.places.TheConstants.{LANES}
use Rattle.macs_planes.proofs.key_planes.fill.Given as goal

abbrev pub invariant-loop-round : goal.invariant-loop-round
invariant-loop-round l = record {
  size : length l.keys ≡ 15;
  each : (i : ℕ) → i < l.round
      → IsKeyPlanes LANES (turned_back (i % 4) (round_key (key_words l.schedule) i)) (get_or l.keys i []);
}
