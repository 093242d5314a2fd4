use Rattle.std.proofs.Common.{◌≡◌, ◌∙◌, Option, ap}
use Rattle.macs_config.specs.Apply.{Reason, answer_or_refusal, refusal_of, with_reason}
use Rattle.macs_config.specs.Config.{this_edition}
use Rattle.macs_config.specs.Value.{ConfigValue, config_of}
use Rattle.macs_config.proofs.Refused.{answered_unless, none_unless, refused_unless}
use Rattle.macs_config.proofs.config.Config.check.Goals as goal
use Rattle.macs_config.proofs.config.Config.check.Goals.{After-check}

abbrev first : (c : After-check) → Option Reason
first c = refusal_of this_edition c.args.self.now.identity (config_of c.args.self.now) c.args.command.now

checked : (c : After-check) → with_reason c.check.result ≡ answer_or_refusal (first c) c.args.command.now
checked c =
    c.check.ensures
    ∙ ap (λ (s : ConfigValue). answer_or_refusal (refusal_of this_edition s.identity (config_of s) c.args.command.now)
    c.args.command.now) c.self.view_is

pub returns-clause-refused : goal.returns-clause-refused
returns-clause-refused c =
    let after = (goal.at.returns-clause-refused c).After-check in
    refused_unless (first after) c.args.command.now c.check.result (checked after)

pub returns-clause-fits : goal.returns-clause-fits
returns-clause-fits c =
    let after = (goal.at.returns-clause-fits c).After-check in
    none_unless (first after) c.args.command.now c.check.result (checked after)

pub returns-clause-checked : goal.returns-clause-checked
returns-clause-checked c =
    let after = (goal.at.returns-clause-checked c).After-check in
    answered_unless (first after) c.args.command.now c.check.result (checked after)
