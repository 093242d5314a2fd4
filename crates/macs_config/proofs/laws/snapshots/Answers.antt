use Rattle.macs_config.proofs.SnapshotWords.{order-words, part-words}
use Rattle.macs_config.proofs.laws.snapshots.Goals as goal

pub returns-clause-parts : goal.returns-clause-parts
returns-clause-parts c = part-words

pub returns-clause-order : goal.returns-clause-order
returns-clause-order c = order-words
