use Rattle.std.proofs.Common.{◌≡◌, ℕ, ◌+◌, ◌*◌, ◌/◌, ◌%◌, ◌<◌, ◌≤◌, [], bit_xor, get_or, length, slice_index}
use Rattle.macs_gcm.proofs.key_stream.KeyStream.encipher.Given as goal

abbrev pub invariant-loop-i : goal.invariant-loop-i
invariant-loop-i l = record {
  masked : (k : ℕ) → k < 16 * l.i → k < length l.text
      → slice_index l.text k ≡ bit_xor (slice_index l.fn.text k)
      (slice_index (get_or (get_or l.fn.self.rows (k / 16 + 1) []) l.fn.place []) (k % 16));
  after : (k : ℕ) → 16 * l.i ≤ k → slice_index l.text k ≡ slice_index l.fn.text k;
}
