use Rattle.std.proofs.Common.{◌≡◌, ◌∙◌, IsOk, ap, subst, sym}
use Rattle.macs_config.specs.Apply.{apply}
use Rattle.macs_config.specs.Config.{this_edition}
use Rattle.macs_config.specs.Identity.{Identity}
use Rattle.macs_config.specs.Value.{config_of}
use Rattle.macs_config.specs.declared.command.Command.{Command}
use Rattle.macs_store.specs.Standing.{accept, ceilings_after}
use Rattle.macs_store.specs.Table.{StandingValue, table_ceilings, standing_of}
use Rattle.macs_store.proofs.Replaying.{accepted-stands, accepted-unrefused}
use Rattle.macs_store.proofs.standing.Standing.accept_checked.Goals as goal
use Rattle.macs_store.proofs.standing.Standing.accept_checked.Goals.{After-adjust}

pub apply_checked-requires : goal.apply_checked-requires
apply_checked-requires c =
    let before : StandingValue = record { config = c.self.inside.config; table = c.self.inside.ceilings } in
    accepted-unrefused (standing_of before) c.args.checked.now
    (subst (λ (h : StandingValue). IsOk (accept (standing_of h) c.args.checked.now)) (sym c.self.view_is) c.requires)

pub adjust-requires : goal.adjust-requires
adjust-requires c = (
  config_of c.self.inside.config,
  c.self.invariant.1,
  ap (λ (command : Command). apply this_edition c.apply_checked.new.self.identity (config_of c.self.inside.config)
      command) c.judged.ensures.asked
      ∙ ap (λ (identity : Identity). apply this_edition identity (config_of c.self.inside.config) c.args.checked.now)
      c.apply_checked.ensures.identity
      ∙ c.apply_checked.ensures.applied,
)

-- the ceilings are those after the command
ceilings : (c : After-adjust) → table_ceilings c.adjust.new.ceilings
    ≡ ceilings_after c.apply_checked.new.self.identity c.args.checked.now (table_ceilings c.self.inside.ceilings)
ceilings c =
    c.adjust.ensures.ceilings
    ∙ ap (λ (command : Command). ceilings_after c.apply_checked.new.self.identity command
    (table_ceilings c.self.inside.ceilings)) c.judged.ensures.asked

pub invariant_of-self : goal.invariant_of-self
invariant_of-self c =
    let before : StandingValue = record { config = c.self.inside.config; table = c.self.inside.ceilings } in (
      accepted-stands (standing_of before) c.args.checked.now c.apply_checked.new.self.identity
          (config_of c.apply_checked.new.self) (table_ceilings c.adjust.new.ceilings)
          c.apply_checked.ensures.identity c.apply_checked.ensures.applied
          (ceilings (goal.at.invariant_of-self c).After-adjust) c.self.invariant.0,
      c.adjust.ensures.channels,
    )
