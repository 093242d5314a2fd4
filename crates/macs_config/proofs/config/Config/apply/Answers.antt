use Rattle.std.proofs.Common.{◌≡◌, ◌∙◌, Ok, Err, ap, sym}
use Rattle.std.proofs.lemmas.Result.{err_from_is_err_and}
use Rattle.macs_config.specs.Apply.{apply, config_after, refusal_of}
use Rattle.macs_config.specs.Config.{this_edition}
use Rattle.macs_config.specs.Value.{config_of}
use Rattle.macs_config.specs.declared.command.Command.{Command}
use Rattle.macs_config.proofs.Refused.{handed_on}
use Rattle.macs_config.proofs.config.Config.apply.Goals as goal
use Rattle.macs_config.proofs.config.Config.apply.Goals.{After-apply_checked}

applied : (c : After-apply_checked)
    → apply this_edition c.args.self.now.identity (config_of c.args.self.now) c.args.command.now
    ≡ Ok (config_of c.apply_checked.new.self)
applied c =
    ap (λ (command : Command). apply this_edition c.args.self.now.identity (config_of c.args.self.now) command)
    (sym c.in_ok-checked.ensures.checked)
    ∙ c.apply_checked.ensures.applied

pub returns-in_err-checked-clause-refused : goal.returns-in_err-checked-clause-refused
returns-in_err-checked-clause-refused c =
    let old = c.args.self.now in
    let refusal = c.in_err-checked.field-0.0 in
    let risen = err_from_is_err_and c.from_residual.result c.from_residual.ensures.1 in
    handed_on (refusal_of this_edition old.identity (config_of old) c.args.command.now)
    (config_after (config_of old) c.args.command.now) c.from_residual.result refusal
    ((c.check.ensures.refused refusal).0 c.in_err-checked.was) (risen.1 ∙ ap Err risen.2)
