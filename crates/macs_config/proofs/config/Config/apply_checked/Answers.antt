use Rattle.std.proofs.Common.{◌≡◌, ◌∙◌, Ok, ap, subst, sym}
use Rattle.macs_config.specs.Apply.{apply, config_after, refusal_of}
use Rattle.macs_config.specs.Config.{Config, IsConfig, this_edition}
use Rattle.macs_config.specs.Value.{ConfigValue, config_in, config_of}
use Rattle.macs_config.specs.declared.command.Command.{Command}
use Rattle.macs_config.proofs.Judging.{changed-is}
use Rattle.macs_config.proofs.Kept.{apply-keeps}
use Rattle.macs_config.proofs.Refused.{taken_by}
use Rattle.macs_config.proofs.config.Config.apply_checked.Goals as goal
use Rattle.macs_config.proofs.config.Config.apply_checked.Goals.{After-change}

pub change-requires : goal.change-requires
change-requires c = (
  c.self.inside.identity,
  ap (λ (command : Command). refusal_of this_edition c.self.inside.identity (config_in c.self.inside.contents) command)
      c.judged.ensures.asked
      ∙ ap (λ (s : ConfigValue). refusal_of this_edition s.identity (config_of s) c.args.checked.now) c.self.view_is
      ∙ c.requires,
)

new_is : (c : After-change) → apply this_edition c.args.self.now.identity (config_of c.args.self.now) c.args.checked.now
    ≡ Ok (config_of (record { identity = c.self.inside.identity; contents = c.change.new.contents }))
new_is c =
    let old = c.args.self.now in
    let inside : ConfigValue = record { identity = c.self.inside.identity; contents = c.self.inside.contents } in
    taken_by (refusal_of this_edition old.identity (config_of old) c.args.checked.now)
    (config_after (config_of old) c.args.checked.now) c.requires
    ∙ ap (λ (new : Config). Ok new)
    (ap (λ (s : ConfigValue). config_after (config_of s) c.args.checked.now) (sym c.self.view_is)
    ∙ ap (λ (command : Command). config_after (config_of inside) command) (sym c.judged.ensures.asked)
    ∙ sym (changed-is (config_of inside) c.judged.result.now c.judged.ensures.judged)
    ∙ sym c.change.ensures)

pub invariant_of-self : goal.invariant_of-self
invariant_of-self c =
    let new : ConfigValue = record { identity = c.self.inside.identity; contents = c.change.new.contents } in
    let is =
    subst (λ (s : ConfigValue). IsConfig this_edition s.identity (config_of s)) c.self.view_is c.self.invariant in
    subst (λ (s : ConfigValue). IsConfig this_edition s.identity (config_of new)) (sym c.self.view_is)
    (apply-keeps this_edition c.args.self.now.identity (config_of c.args.self.now) (config_of new) c.args.checked.now is
    (new_is (goal.at.invariant_of-self c).After-change))

pub returns-clause-applied : goal.returns-clause-applied
returns-clause-applied c = new_is (goal.at.returns-clause-applied c).After-change
