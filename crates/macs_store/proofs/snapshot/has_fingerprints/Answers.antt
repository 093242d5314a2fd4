use Rattle.std.proofs.Common.{◌∙◌, sym}
use Rattle.macs_config.specs.Config.{spent_of}
use Rattle.macs_config.specs.Value.{config_of}
use Rattle.macs_store.proofs.ReadFingerprints.{any-read}
use Rattle.macs_store.proofs.snapshot.has_fingerprints.Goals as goal

pub returns-clause-some : goal.returns-clause-some
returns-clause-some c there =
    (any-read (spent_of c.args.role (config_of c.args.config.now)) c.args.place c.spent_at.result c.spent_at.ensures).0
    (sym c.is_some.ensures ∙ there)

pub returns-clause-none : goal.returns-clause-none
returns-clause-none c gone =
    (any-read (spent_of c.args.role (config_of c.args.config.now)) c.args.place c.spent_at.result c.spent_at.ensures).1
    (sym c.is_some.ensures ∙ gone)
