use Rattle.std.proofs.Common.{◌∙◌, ap}
use Rattle.macs_config.specs.declared.command.Command.{Command}
use Rattle.macs_commands.specs.Words.{word_of}
use Rattle.macs_commands.proofs.files.table_writing.command_table.Goals as goal

pub returns-in-SetValidate : goal.returns-in-SetValidate
returns-in-SetValidate c =
    let word = c.of.ensures ∙ ap (λ (x : Command). word_of x) c.in-SetValidate.is in
    rw c.in-SetValidate.is (rw c.validate_word.ensures
    at (c.with.ensures _ _ (rw word at c.with_word-table.ensures) c.string-mode.ensures))

pub returns-in-SetReplay : goal.returns-in-SetReplay
returns-in-SetReplay c =
    let word = c.of.ensures ∙ ap (λ (x : Command). word_of x) c.in-SetReplay.is in
    rw c.in-SetReplay.is (c.with-in-SetReplay.ensures _ _
    (c.with-table.ensures _ _ (rw word at c.with_word-table.ensures) c.flag.ensures) c.number.ensures)

pub returns-in-SetSciMode : goal.returns-in-SetSciMode
returns-in-SetSciMode c =
    let word = c.of.ensures ∙ ap (λ (x : Command). word_of x) c.in-SetSciMode.is in
    rw c.in-SetSciMode.is (rw c.sci_mode_word.ensures at (c.with-in-SetSciMode.ensures _ _
    (rw word at c.with_word-table.ensures) c.string-mode-in-SetSciMode.ensures))

pub returns-in-TxInstall : goal.returns-in-TxInstall
returns-in-TxInstall c =
    let word = c.of.ensures ∙ ap (λ (x : Command). word_of x) c.in-TxInstall.is in
    rw c.in-TxInstall.is (rw c.from.ensures at (c.with-in-TxInstall.ensures _ _ (c.with-table-in-TxInstall-4.ensures _
    _ (c.with-table-in-TxInstall-3.ensures _ _ (c.with-table-in-TxInstall-2.ensures _ _
    (c.with-table-in-TxInstall.ensures _ _ (rw word at c.with_word-table.ensures) c.an_value.ensures)
    c.key_value.ensures) c.number-in-TxInstall.ensures) c.flag-in-TxInstall.ensures)
    c.number-in-TxInstall-2.ensures))

pub returns-in-TxUse : goal.returns-in-TxUse
returns-in-TxUse c =
    let word = c.of.ensures ∙ ap (λ (x : Command). word_of x) c.in-TxUse.is in
    rw c.in-TxUse.is (c.with-in-TxUse.ensures _ _ (rw word at c.with_word-table.ensures) c.an_value-in-TxUse.ensures)

pub returns-in-TxRemove : goal.returns-in-TxRemove
returns-in-TxRemove c =
    let word = c.of.ensures ∙ ap (λ (x : Command). word_of x) c.in-TxRemove.is in
    rw c.in-TxRemove.is
    (c.with-in-TxRemove.ensures _ _ (rw word at c.with_word-table.ensures) c.an_value-in-TxRemove.ensures)

pub returns-in-RxAdd : goal.returns-in-RxAdd
returns-in-RxAdd c =
    let word = c.of.ensures ∙ ap (λ (x : Command). word_of x) c.in-RxAdd.is in
    rw c.in-RxAdd.is (c.with-in-RxAdd.ensures _ _ (rw word at c.with_word-table.ensures) c.sci_value.ensures)

pub returns-in-RxDrop : goal.returns-in-RxDrop
returns-in-RxDrop c =
    let word = c.of.ensures ∙ ap (λ (x : Command). word_of x) c.in-RxDrop.is in
    rw c.in-RxDrop.is
    (c.with-in-RxDrop.ensures _ _ (rw word at c.with_word-table.ensures) c.sci_value-in-RxDrop.ensures)

pub returns-in-RxInstall : goal.returns-in-RxInstall
returns-in-RxInstall c =
    let word = c.of.ensures ∙ ap (λ (x : Command). word_of x) c.in-RxInstall.is in
    rw c.in-RxInstall.is (rw c.from-in-RxInstall.ensures at (c.with-in-RxInstall.ensures _ _
    (c.with-table-in-RxInstall-4.ensures _ _ (c.with-table-in-RxInstall-3.ensures _ _
    (c.with-table-in-RxInstall-2.ensures _ _ (c.with-table-in-RxInstall.ensures _ _
    (rw word at c.with_word-table.ensures) c.sci_value-in-RxInstall.ensures) c.an_value-in-RxInstall.ensures)
    c.key_value-in-RxInstall.ensures) c.number-in-RxInstall.ensures) c.number-in-RxInstall-2.ensures))

pub returns-in-RxRemove : goal.returns-in-RxRemove
returns-in-RxRemove c =
    let word = c.of.ensures ∙ ap (λ (x : Command). word_of x) c.in-RxRemove.is in
    rw c.in-RxRemove.is (c.with-in-RxRemove.ensures _ _ (c.with-table-in-RxRemove.ensures _ _
    (rw word at c.with_word-table.ensures) c.sci_value-in-RxRemove.ensures) c.an_value-in-RxRemove.ensures)
