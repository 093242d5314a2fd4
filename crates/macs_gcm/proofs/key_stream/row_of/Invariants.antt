use Rattle.std.proofs.Common.{◌≡◌, ℕ, ◌+◌, ◌%◌, ◌^◌, ◌<◌, ◌++◌, [], get_or, length}
use Rattle.std.specs.Int.{to_be_bytes, w32}
use Rattle.macs_gcm.specs.declared.counter.TheConstants.{GROUP}
use Rattle.macs_gcm.proofs.key_stream.row_of.Given as goal

abbrev pub invariant-loop-j : goal.invariant-loop-j
invariant-loop-j l = record {
  size : length l.masks ≡ GROUP;
  made : (k : ℕ) → k < l.j → get_or l.masks k []
      ≡ l.fixed ++ to_be_bytes w32 ((l.first + k) % 2 ^ 32) ++ to_be_bytes w32 l.number;
}
