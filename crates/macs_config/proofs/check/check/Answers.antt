use Rattle.std.proofs.Common.{◌∙◌, Option, Result, ap}
use Rattle.macs_config.specs.Apply.{Reason, answer_or_refusal}
use Rattle.macs_config.specs.Value.{config_in}
use Rattle.macs_config.specs.declared.command.Command.{Command}
use Rattle.macs_config.specs.declared.command.Command.TheVariants.{SetSciMode, TxUse, TxRemove, RxDrop, RxRemove}
use Rattle.macs_config.proofs.check.check.Goals as goal

-- what is answered where no key is spent
abbrev keyless : Command → Option Reason → Result Command Reason
keyless command reason = answer_or_refusal reason command

pub returns-in-SetSciMode : goal.returns-in-SetSciMode
returns-in-SetSciMode c = rw c.in-SetSciMode.is (c.unless_refused.ensures
    ∙ ap (keyless (SetSciMode c.in-SetSciMode.mode)) (c.sci_mode_refusal.ensures (config_in c.args.contents.now)))

pub returns-in-TxInstall : goal.returns-in-TxInstall
returns-in-TxInstall c = rw c.in-TxInstall.is (c.check_tx_install.ensures c.args.identity.now)

pub returns-in-TxUse : goal.returns-in-TxUse
returns-in-TxUse c = rw c.in-TxUse.is (c.unless_refused-in-TxUse.ensures
    ∙ ap (keyless (TxUse c.in-TxUse.an)) (c.tx_use_refusal.ensures c.args.identity.now))

pub returns-in-TxRemove : goal.returns-in-TxRemove
returns-in-TxRemove c = rw c.in-TxRemove.is (c.unless_refused-in-TxRemove.ensures
    ∙ ap (keyless (TxRemove c.in-TxRemove.an)) (c.tx_remove_refusal.ensures c.args.identity.now))

pub returns-in-RxDrop : goal.returns-in-RxDrop
returns-in-RxDrop c = rw c.in-RxDrop.is (c.unless_refused-in-RxDrop.ensures
    ∙ ap (keyless (RxDrop c.in-RxDrop.sci)) (c.rx_drop_refusal.ensures c.args.identity.now))

pub returns-in-RxInstall : goal.returns-in-RxInstall
returns-in-RxInstall c = rw c.in-RxInstall.is (c.check_rx_install.ensures c.args.identity.now)

pub returns-in-RxRemove : goal.returns-in-RxRemove
returns-in-RxRemove c = rw c.in-RxRemove.is (c.unless_refused-in-RxRemove.ensures
    ∙ ap (keyless (RxRemove c.in-RxRemove.sci c.in-RxRemove.an)) (c.rx_remove_refusal.ensures c.args.identity.now))
