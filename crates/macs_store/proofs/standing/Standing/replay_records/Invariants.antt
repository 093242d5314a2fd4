use Rattle.std.proofs.Common.{◌≡◌, drop}
use Rattle.macs_store.specs.Replay.{standing_after_records}
use Rattle.macs_store.specs.Table.{standing_of}
use Rattle.macs_store.proofs.standing.Standing.replay_records.Given as goal

abbrev pub invariant-loop-value : goal.invariant-loop-value
invariant-loop-value l = standing_after_records (standing_of l.fn.self) l.records
    ≡ standing_after_records (standing_of l.self) (drop l.value-index l.records)
