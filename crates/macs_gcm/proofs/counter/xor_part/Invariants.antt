use Rattle.std.proofs.Common.{◌≡◌, ℕ, ◌+◌, ◌-◌, ◌*◌, ◌/◌, ◌%◌, ◌<◌, ◌≤◌, [], bit_xor, get_or, length, slice_index}
use Rattle.macs_gcm.proofs.counter.xor_part.Given as goal

abbrev pub invariant-loop-j : goal.invariant-loop-j
invariant-loop-j l = record {
  within : (k : ℕ) → l.start ≤ k → k < l.start + 16 * l.j → k < length l.text
      → slice_index l.text k ≡ bit_xor (slice_index l.initial.text k)
      (slice_index (get_or l.masks (l.skipped + (k - l.start) / 16) []) ((k - l.start) % 16));
  before : (k : ℕ) → k < l.start → slice_index l.text k ≡ slice_index l.initial.text k;
  after : (k : ℕ) → l.start + 16 * l.j ≤ k → slice_index l.text k ≡ slice_index l.initial.text k;
}
