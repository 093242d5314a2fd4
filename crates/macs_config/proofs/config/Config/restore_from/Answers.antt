use Rattle.std.proofs.Common.{rules, subst, sym}
use Rattle.macs_config.specs.Config.{IsConfig, this_edition}
use Rattle.macs_config.specs.Value.{config_in}
use Rattle.macs_config.proofs.Listed.{listed-is-config}
use Rattle.macs_config.proofs.config.Config.restore_from.Goals as goal

pub invariant_of-self : goal.invariant_of-self
invariant_of-self g c = subst (IsConfig this_edition c.self.inside.identity) (sym c.reset.ensures) (search rules)

pub invariant_of-self-else-not-is_restored : goal.invariant_of-self-else-not-is_restored
invariant_of-self-else-not-is_restored g c =
    listed-is-config this_edition c.self.inside.identity (g.P.PartSource.listed c.args.parts.now)
    (config_in c.restore-is_restored.new.contents)
    c.if-not-is_restored.ensures
