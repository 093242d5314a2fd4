use Rattle.std.proofs.Common.{◌≡◌, ◌+◌, ◌*◌, ◌++◌, ◌∷◌, length, take}
use Rattle.std.specs.List.{concat}
use Rattle.macs_record.proofs.writing.RecordWriter.fingerprints.Given as goal

abbrev pub invariant-loop-item : goal.invariant-loop-item
invariant-loop-item l = record {
  written : l.writer ≡ l.fn.self ++ length l.fn.fingerprints ∷ concat (take l.item-index l.fn.fingerprints);
  size : length l.writer ≡ length l.fn.self + 1 + 32 * l.item-index;
}
