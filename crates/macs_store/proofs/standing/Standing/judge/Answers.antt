use Rattle.std.proofs.Common.{◌∙◌, Result, sym, ap}
use Rattle.std.specs.Result.{result_ok}
use Rattle.macs_config.specs.Apply.{Reason, answer_or_refusal, refusal_of}
use Rattle.macs_config.specs.Config.{this_edition}
use Rattle.macs_config.specs.Judged.{rx_install, tx_install}
use Rattle.macs_config.specs.Value.{config_of}
use Rattle.macs_config.specs.declared.command.Command.{Command}
use Rattle.macs_store.specs.Commands.{command_of}
use Rattle.macs_store.specs.Table.{StandingValue, standing_of}
use Rattle.macs_store.proofs.Replaying.{answered-by, judged-fits, judged-refused, ok-with_reason, plain-is}
use Rattle.macs_store.proofs.standing.Standing.judge.Goals as goal

-- what a configuration answers to a command, in the answer of the standing
abbrev answer : StandingValue → Command → Result Command Reason
answer h asked = answer_or_refusal (refusal_of this_edition (standing_of h).identity (standing_of h).config asked) asked

pub returns-in-TxInstall-clause-fits : goal.returns-in-TxInstall-clause-fits
returns-in-TxInstall-clause-fits c =
    let asked = tx_install c.in-TxInstall.an c.in-TxInstall.sa c.in-TxInstall.start in
    judged-fits (standing_of c.args.self.now) c.args.value.now asked (ap command_of c.in-TxInstall.is) c.ok.result
    (c.ok.ensures.value ∙ ok-with_reason c.check_tx.result
    ∙ ap result_ok (c.check_tx.ensures ∙ ap (λ (h : StandingValue). answer h asked) c.self.view_is))

pub returns-in-TxInstall-clause-refused : goal.returns-in-TxInstall-clause-refused
returns-in-TxInstall-clause-refused c =
    let asked = tx_install c.in-TxInstall.an c.in-TxInstall.sa c.in-TxInstall.start in
    judged-refused (standing_of c.args.self.now) c.args.value.now asked (ap command_of c.in-TxInstall.is) c.ok.result
    (c.ok.ensures.value ∙ ok-with_reason c.check_tx.result
    ∙ ap result_ok (c.check_tx.ensures ∙ ap (λ (h : StandingValue). answer h asked) c.self.view_is))

pub returns-in-RxInstall-clause-fits : goal.returns-in-RxInstall-clause-fits
returns-in-RxInstall-clause-fits c =
    let asked = rx_install c.in-RxInstall.sci c.in-RxInstall.an c.in-RxInstall.sa c.in-RxInstall.start in
    judged-fits (standing_of c.args.self.now) c.args.value.now asked (ap command_of c.in-RxInstall.is)
    c.ok-in-RxInstall.result
    (c.ok-in-RxInstall.ensures.value ∙ ok-with_reason c.check_rx.result
    ∙ ap result_ok (c.check_rx.ensures ∙ ap (λ (h : StandingValue). answer h asked) c.self.view_is))

pub returns-in-RxInstall-clause-refused : goal.returns-in-RxInstall-clause-refused
returns-in-RxInstall-clause-refused c =
    let asked = rx_install c.in-RxInstall.sci c.in-RxInstall.an c.in-RxInstall.sa c.in-RxInstall.start in
    judged-refused (standing_of c.args.self.now) c.args.value.now asked (ap command_of c.in-RxInstall.is)
    c.ok-in-RxInstall.result
    (c.ok-in-RxInstall.ensures.value ∙ ok-with_reason c.check_rx.result
    ∙ ap result_ok (c.check_rx.ensures ∙ ap (λ (h : StandingValue). answer h asked) c.self.view_is))

pub returns-in_ok-plain_command_of-in_default : goal.returns-in_ok-plain_command_of-in_default
returns-in_ok-plain_command_of-in_default c =
    let asked = c.in_ok-plain_command_of-in_default.field-0 in
    let is =
    plain-is c.args.value.now asked (sym c.in_ok-plain_command_of-in_default.was ∙ c.plain_command_of.ensures) in
    let first = refusal_of this_edition c.self.inside.config.identity (config_of c.self.inside.config) asked in
    let judged = c.ok-in_default.ensures.value
    ∙ ok-with_reason c.check.result
    ∙ ap result_ok
    (answered-by first asked c.check.result c.check.ensures.refused c.check.ensures.fits c.check.ensures.checked
    ∙ ap (λ (h : StandingValue). answer h asked) c.self.view_is) in
    record {
      fits = judged-fits (standing_of c.args.self.now) c.args.value.now asked is c.ok-in_default.result judged;
      refused = judged-refused (standing_of c.args.self.now) c.args.value.now asked is c.ok-in_default.result judged;
    }
