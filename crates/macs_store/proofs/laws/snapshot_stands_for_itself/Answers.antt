use Rattle.macs_store.proofs.SnapshotLength.{snapshot-few, snapshot-some}
use Rattle.macs_store.proofs.Snapshots.{snapshot-stands}
use Rattle.macs_store.proofs.laws.snapshot_stands_for_itself.Goals as goal

pub returns-clause-stands : goal.returns-clause-stands
returns-clause-stands c = snapshot-stands

pub returns-clause-some : goal.returns-clause-some
returns-clause-some c = snapshot-some

pub returns-clause-few : goal.returns-clause-few
returns-clause-few c = snapshot-few
