use Rattle.macs_store.specs.Snapshot.{snapshot}
use Rattle.macs_store.specs.Table.{standing_of}
use Rattle.macs_store.proofs.Passing.{walked-count}
use Rattle.macs_store.proofs.standing.Standing.record_count.Goals as goal

pub returns : goal.returns
returns c = walked-count _ (snapshot (standing_of c.args.self.now)) c.walk-passed.result c.walk-passed.ensures
