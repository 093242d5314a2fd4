use Rattle.std.proofs.Common.{◌≡◌, ◌∙◌, sym, ℕ, Bool, List, subst}
use Rattle.macs_aes.specs.declared.keys.Key.{Key}
use Rattle.macs_config.specs.declared.command.Command.{Command}
use Rattle.macs_config.specs.declared.command.Command.TheVariants.{SetValidate, SetReplay, SetSciMode, TxInstall, TxUse}
use Rattle.macs_config.specs.declared.command.Command.TheVariants.{TxRemove, RxAdd, RxDrop, RxInstall, RxRemove}
use Rattle.macs_config.specs.declared.command.SciMode.{SciMode}
use Rattle.macs_config.specs.declared.command.Validate.{Validate}
use Rattle.macs_commands.specs.CommandLines.{IsTold, fields_of}
use Rattle.macs_commands.specs.Words.{word_of}
use Rattle.macs_commands.specs.declared.command_word.CommandWord.TheVariants as words
use Rattle.macs_commands.specs.declared.command_word.CommandWord.{CommandWord}
use Rattle.macs_commands.proofs.requests.commands_of_lines.fields_taken.Goals as goal

-- ---- the commands of a word

-- what is so of each command with this word
abbrev OfWord : CommandWord → (Command → Type 0) → Type 0
OfWord words.SetValidate S = (mode : Validate) → S (SetValidate mode)
OfWord words.SetReplay S = (on : Bool) (window : ℕ) → S (SetReplay on window)
OfWord words.SetSciMode S = (mode : SciMode) → S (SetSciMode mode)
OfWord words.TxInstall S = (an : ℕ) (key : Key) (start : ℕ) (confidential : Bool) (offset : ℕ)
    → S (TxInstall an key start confidential offset)
OfWord words.TxUse S = (an : ℕ) → S (TxUse an)
OfWord words.TxRemove S = (an : ℕ) → S (TxRemove an)
OfWord words.RxAdd S = (sci : List ℕ) → S (RxAdd sci)
OfWord words.RxDrop S = (sci : List ℕ) → S (RxDrop sci)
OfWord words.RxInstall S = (sci : List ℕ) (an : ℕ) (key : Key) (start offset : ℕ)
    → S (RxInstall sci an key start offset)
OfWord words.RxRemove S = (sci : List ℕ) (an : ℕ) → S (RxRemove sci an)

for_its_word : (S : Command → Type 0) (command : Command) → OfWord (word_of command) S → S command
for_its_word S (SetValidate mode) each = each mode
for_its_word S (SetReplay on window) each = each on window
for_its_word S (SetSciMode mode) each = each mode
for_its_word S (TxInstall an key start confidential offset) each = each an key start confidential offset
for_its_word S (TxUse an) each = each an
for_its_word S (TxRemove an) each = each an
for_its_word S (RxAdd sci) each = each sci
for_its_word S (RxDrop sci) each = each sci
for_its_word S (RxInstall sci an key start offset) each = each sci an key start offset
for_its_word S (RxRemove sci an) each = each sci an

for_word : (word : CommandWord) (S : Command → Type 0) → OfWord word S → (command : Command)
    → word ≡ word_of command → S command
for_word word S each command same =
    for_its_word S command (subst (λ (w : CommandWord). OfWord w S) same each)

pub returns-in-RxInstall : goal.returns-in-RxInstall
returns-in-RxInstall c = λ command told same is.
    for_word words.RxInstall (λ (x : Command). IsTold x → c.args.text.now ≡ fields_of x → c.rx_install.result ≡ x)
    (λ sci an key start offset told is. c.rx_install.ensures sci an key start offset told is)
    command (sym c.in-RxInstall.is ∙ same) told is
