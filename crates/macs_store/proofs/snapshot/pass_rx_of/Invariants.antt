use Rattle.std.proofs.Common.{◌≡◌, ◌≤◌, ◌+◌, take}
use Rattle.std.specs.Prelude.{flat_map}
use Rattle.macs_config.specs.Snapshot.{every_an}
use Rattle.macs_config.specs.Value.{config_of}
use Rattle.macs_store.specs.Snapshot.{rx_records_at, walk_past_all}
use Rattle.macs_store.specs.Table.{table_ceilings}
use Rattle.macs_store.proofs.snapshot.pass_rx_of.Given as goal

abbrev pub invariant-loop-an : goal.invariant-loop-an
invariant-loop-an l = record {
  walked : l.walk ≡ walk_past_all l.initial.walk
      (flat_map (rx_records_at (config_of l.config) (table_ceilings l.ceilings) l.sci) (take l.an-index every_an));
  few : l.walk.passed ≤ l.initial.walk.passed + l.an-index;
}
