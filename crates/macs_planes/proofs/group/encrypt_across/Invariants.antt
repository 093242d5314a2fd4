use Rattle.std.proofs.Common.{◌≡◌, ◌+◌, ◌-◌, ◌%◌, ◌≤◌, map}
use Rattle.macs_aes.specs.Cipher.{encrypt, state_after_rounds}
use Rattle.macs_aes.specs.KeyExpansion.{key_words}
use Rattle.macs_planes.specs.Across.{turned}
use Rattle.macs_planes.proofs.group.encrypt_across.Given as goal

abbrev pub invariant-loop-round : goal.invariant-loop-round
invariant-loop-round l = record {
  before : l.round ≤ l.rounds → map (turned ((l.round - 1) % 4)) l.planes
      ≡ map (λ b. state_after_rounds (key_words l.fn.schedule) b (l.round - 1)) l.fn.start;
  done : l.round ≡ l.rounds + 1 → map (turned 2) l.planes ≡ map (encrypt l.fn.schedule) l.fn.start;
}
