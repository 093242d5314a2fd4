use Rattle.std.proofs.Common.{◌∙◌, ap, sym}
use Rattle.macs_config.specs.Config.{this_edition}
use Rattle.macs_config.specs.Identity.{Identity}
use Rattle.macs_config.specs.Snapshot.{config_of_parts}
use Rattle.macs_config.proofs.Listed.{listed-slice}
use Rattle.macs_config.proofs.config.Config.restore.Goals as goal

pub returns-then-restore_from-clause-restored : goal.returns-then-restore_from-clause-restored
returns-then-restore_from-clause-restored c =
    sym (c.if-restore_from.ensures.restored) ∙ listed-slice this_edition c.new-config.result.identity c.args.parts.now
    ∙ ap (λ (i : Identity). config_of_parts this_edition i c.args.parts.now) c.new-config.ensures.identity

pub returns-else-restore_from-clause-restored : goal.returns-else-restore_from-clause-restored
returns-else-restore_from-clause-restored c =
    sym (c.if-restore_from.ensures.restored) ∙ listed-slice this_edition c.new-config.result.identity c.args.parts.now
    ∙ ap (λ (i : Identity). config_of_parts this_edition i c.args.parts.now) c.new-config.ensures.identity
