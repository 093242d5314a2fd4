use Rattle.std.proofs.Common.{◌≡◌, ◌++◌, Ok, refl, sym, subst}
use Rattle.std.proofs.lemmas.List.{append-nil}
use Rattle.macs_config.specs.Apply.{apply, config_after, refusal_of, spent_by}
use Rattle.macs_config.specs.Config.{Config, Edition, spent_of}
use Rattle.macs_config.specs.Identity.{Identity}
use Rattle.macs_config.specs.declared.command.Command.{Command}
use Rattle.macs_config.specs.declared.command.Command.TheVariants.{RxAdd, RxDrop, RxInstall, RxRemove, SetReplay}
use Rattle.macs_config.specs.declared.command.Command.TheVariants.{SetSciMode, SetValidate, TxInstall, TxRemove, TxUse}
use Rattle.macs_config.specs.declared.command.Role.{Role}
use Rattle.macs_config.specs.declared.command.Role.TheVariants.{Receive, Transmit}
use Rattle.macs_config.proofs.Kept.{applied_by}
use Rattle.macs_config.proofs.laws.spent_for_good.Goals as goal

-- Spent keys stay.
changed-spends : (role : Role) (old : Config) (command : Command)
    → spent_of role (config_after old command) ≡ spent_of role old ++ spent_by role command
changed-spends Transmit old (SetValidate validate) = sym (append-nil old.spent_tx)
changed-spends Transmit old (SetReplay on window) = sym (append-nil old.spent_tx)
changed-spends Transmit old (SetSciMode mode) = sym (append-nil old.spent_tx)
changed-spends Transmit old (TxInstall an key start confidential offset) = refl
changed-spends Transmit old (TxUse an) = sym (append-nil old.spent_tx)
changed-spends Transmit old (TxRemove an) = sym (append-nil old.spent_tx)
changed-spends Transmit old (RxAdd sci) = sym (append-nil old.spent_tx)
changed-spends Transmit old (RxDrop sci) = sym (append-nil old.spent_tx)
changed-spends Transmit old (RxInstall sci an key start offset) = sym (append-nil old.spent_tx)
changed-spends Transmit old (RxRemove sci an) = sym (append-nil old.spent_tx)
changed-spends Receive old (SetValidate validate) = sym (append-nil old.spent_rx)
changed-spends Receive old (SetReplay on window) = sym (append-nil old.spent_rx)
changed-spends Receive old (SetSciMode mode) = sym (append-nil old.spent_rx)
changed-spends Receive old (TxInstall an key start confidential offset) = sym (append-nil old.spent_rx)
changed-spends Receive old (TxUse an) = sym (append-nil old.spent_rx)
changed-spends Receive old (TxRemove an) = sym (append-nil old.spent_rx)
changed-spends Receive old (RxAdd sci) = sym (append-nil old.spent_rx)
changed-spends Receive old (RxDrop sci) = sym (append-nil old.spent_rx)
changed-spends Receive old (RxInstall sci an key start offset) = refl
changed-spends Receive old (RxRemove sci an) = sym (append-nil old.spent_rx)

spent-for-good : (edition : Edition) (identity : Identity) (old new : Config) (command : Command) (role : Role)
    → apply edition identity old command ≡ Ok new → spent_of role new ≡ spent_of role old ++ spent_by role command
spent-for-good edition identity old new command role done =
    let made = applied_by (refusal_of edition identity old command) (config_after old command) new done in
    subst (λ (c : Config). spent_of role c ≡ spent_of role old ++ spent_by role command) made.1
    (changed-spends role old command)

pub returns : goal.returns
returns c = spent-for-good
