use Rattle.std.proofs.Common.{◌≡◌, ◌≤◌, ◌+◌, take}
use Rattle.std.specs.List.{range_with_len}
use Rattle.std.specs.Prelude.{flat_map}
use Rattle.macs_config.specs.Config.{spent_of}
use Rattle.macs_config.specs.Value.{config_of}
use Rattle.macs_store.specs.Snapshot.{most_spent_records, spent_records_at, walk_past_all}
use Rattle.macs_store.proofs.snapshot.pass_spent.Given as goal

abbrev pub invariant-loop-place : goal.invariant-loop-place
invariant-loop-place l = record {
  walked : l.walk ≡ walk_past_all l.initial.walk
      (flat_map (spent_records_at l.role (spent_of l.role (config_of l.config)))
      (take l.place (range_with_len 0 most_spent_records)));
  few : l.walk.passed ≤ l.initial.walk.passed + l.place;
}
