use Rattle.std.proofs.Common.{◌∙◌}
use Rattle.macs_record.specs.declared.record.Record.TheVariants.{Settings}
use Rattle.macs_store.specs.Snapshot.{walk_past}
use Rattle.macs_store.proofs.snapshot.pass_settings.Goals as goal

pub returns-clause-walked : goal.returns-clause-walked
returns-clause-walked c =
    c.pass.ensures.walked
    ∙ (λ i. walk_past c.args.walk.now
    (Settings (c.validate.ensures i) (c.replay.ensures i) (c.sci_mode.ensures i) (c.encoding.ensures i)))
