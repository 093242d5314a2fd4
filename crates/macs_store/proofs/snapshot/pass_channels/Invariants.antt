use Rattle.std.proofs.Common.{◌≡◌, ◌≤◌, ◌+◌, take}
use Rattle.macs_store.specs.Snapshot.{channel_records, walk_past_all}
use Rattle.macs_store.proofs.snapshot.pass_channels.Given as goal

abbrev pub invariant-loop-sci : goal.invariant-loop-sci
invariant-loop-sci l = record {
  walked : l.walk ≡ walk_past_all l.initial.walk (channel_records (take l.sci-index l.scis));
  few : l.walk.passed ≤ l.initial.walk.passed + l.sci-index;
}
