use Rattle.std.proofs.Common.{◌≡◌, ℕ, ◌-◌, ◌*◌, ◌<◌, ◌≤◌, bit_xor, length, slice_index}
use Rattle.macs_gcm.specs.Counter.{inc32, key_stream}
use Rattle.macs_gcm.specs.Gcm.{pre_counter_block}
use Rattle.macs_gcm.specs.declared.counter.TheConstants.{GROUP}
use Rattle.macs_gcm.proofs.counter.gctr_after_first.Given as goal

abbrev pub invariant-loop-g : goal.invariant-loop-g
invariant-loop-g l = record {
  masked : (k : ℕ) → k < 16 * (GROUP * l.g - 2) → k < length l.text
      → slice_index l.text k
      ≡ bit_xor (slice_index l.fn.text k) (key_stream l.fn.keys (inc32 (pre_counter_block l.fn.iv)) k);
  after : (k : ℕ) → 16 * (GROUP * l.g - 2) ≤ k → slice_index l.text k ≡ slice_index l.fn.text k;
}
