use Rattle.std.proofs.Common.{◌≡◌, ℕ, ◌<◌, [], get_or, length}
use Rattle.macs_aes.specs.Cipher.{round_key}
use Rattle.macs_aes.proofs.schedule.round_keys_of.Given as goal

abbrev pub invariant-loop-round : goal.invariant-loop-round
invariant-loop-round l =
    (length l.keys ≡ 15) × ((i : ℕ) → i < l.round → get_or l.keys i [] ≡ round_key l.words i)
