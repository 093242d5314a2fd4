use Rattle.std.proofs.Common.{rules, subst, sym}
use Rattle.macs_config.specs.Config.{IsConfig, this_edition}
use Rattle.macs_config.proofs.config.Config.new.Goals as goal

pub invariant_of-result : goal.invariant_of-result
invariant_of-result c = subst (IsConfig this_edition c.args.identity.now) (sym c.new.ensures) (search rules)
