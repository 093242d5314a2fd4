use Rattle.macs_store.specs.Snapshot.{snapshot}
use Rattle.macs_store.specs.Table.{standing_of}
use Rattle.macs_store.proofs.Passing.{walked-found}
use Rattle.macs_store.proofs.standing.Standing.record_at.Goals as goal

pub returns : goal.returns
returns c = walked-found c.args.place (snapshot (standing_of c.args.self.now)) c.walk-found.result c.walk-found.ensures
