use Rattle.macs_config.specs.Config.{spent_of}
use Rattle.macs_config.specs.Value.{config_of}
use Rattle.macs_store.proofs.ReadFingerprints.{AreRead}
use Rattle.macs_store.proofs.snapshot.fingerprints_at.Given as goal

abbrev pub invariant-loop-more : goal.invariant-loop-more
invariant-loop-more l = AreRead (spent_of l.role (config_of l.config)) l.start l.more l.fingerprints
