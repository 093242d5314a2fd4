use Rattle.std.proofs.Common.{◌≡◌, ◌≤◌, ◌+◌, ◌*◌, take}
use Rattle.std.specs.Prelude.{flat_map}
use Rattle.macs_config.specs.Value.{config_of}
use Rattle.macs_store.specs.Snapshot.{rx_records_of, walk_past_all}
use Rattle.macs_store.specs.Table.{table_ceilings}
use Rattle.macs_store.proofs.snapshot.pass_rx.Given as goal

abbrev pub invariant-loop-sci : goal.invariant-loop-sci
invariant-loop-sci l = record {
  walked : l.walk ≡ walk_past_all l.initial.walk
      (flat_map (rx_records_of (config_of l.config) (table_ceilings l.ceilings)) (take l.sci-index l.scis));
  few : l.walk.passed ≤ l.initial.walk.passed + 4 * l.sci-index;
}
