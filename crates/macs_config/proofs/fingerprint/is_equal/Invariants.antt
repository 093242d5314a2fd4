use Rattle.std.proofs.Common.{◌≡◌, ℕ, ◌<◌, ◌↔◌, slice_index}
use Rattle.macs_config.proofs.fingerprint.is_equal.Given as goal

abbrev pub invariant-loop-i : goal.invariant-loop-i
invariant-loop-i l = (l.difference ≡ 0) ↔ ((k : ℕ) → k < l.i → slice_index l.one k ≡ slice_index l.other k)
