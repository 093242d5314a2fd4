-- The words of commands and modes. Each is spelled here once.
use Rattle.std.specs.Prelude.{ℕ, Bool, true, false, List, [], ◌∷◌, codes, Option}
use Rattle.std.specs.List.{find}
use Rattle.std.specs.Str.{bytes_eq}
use Rattle.macs_config.specs.declared.command.Command.{Command}
use Rattle.macs_config.specs.declared.command.Command.TheVariants as commands
use Rattle.macs_config.specs.declared.command.SciMode.{SciMode}
use Rattle.macs_config.specs.declared.command.SciMode.TheVariants.{Explicit, EndStation, Implicit}
use Rattle.macs_config.specs.declared.command.Validate.{Validate}
use Rattle.macs_config.specs.declared.command.Validate.TheVariants.{Strict, Check}
use Rattle.macs_commands.specs.declared.command_word.CommandWord.{CommandWord}
use Rattle.macs_commands.specs.declared.command_word.CommandWord.TheVariants.{SetValidate, SetReplay, SetSciMode}
use Rattle.macs_commands.specs.declared.command_word.CommandWord.TheVariants.{TxInstall}
use Rattle.macs_commands.specs.declared.command_word.CommandWord.TheVariants.{TxUse, TxRemove, RxAdd, RxDrop, RxInstall}
use Rattle.macs_commands.specs.declared.command_word.CommandWord.TheVariants.{RxRemove}

-- ---- commands

-- the word of a command
abbrev pub word_of : Command → CommandWord
word_of (commands.SetValidate validate) = SetValidate
word_of (commands.SetReplay on window) = SetReplay
word_of (commands.SetSciMode mode) = SetSciMode
word_of (commands.TxInstall an key start confidential offset) = TxInstall
word_of (commands.TxUse an) = TxUse
word_of (commands.TxRemove an) = TxRemove
word_of (commands.RxAdd sci) = RxAdd
word_of (commands.RxDrop sci) = RxDrop
word_of (commands.RxInstall sci an key start offset) = RxInstall
word_of (commands.RxRemove sci an) = RxRemove

-- how it is spelled
abbrev pub word_text : CommandWord → List ℕ
word_text SetValidate = codes "set-validate"
word_text SetReplay = codes "set-replay"
word_text SetSciMode = codes "set-sci-mode"
word_text TxInstall = codes "tx-install"
word_text TxUse = codes "tx-use"
word_text TxRemove = codes "tx-remove"
word_text RxAdd = codes "rx-add"
word_text RxDrop = codes "rx-drop"
word_text RxInstall = codes "rx-install"
word_text RxRemove = codes "rx-remove"

-- every command word, once
abbrev pub words : List CommandWord
words = SetValidate ∷ SetReplay ∷ SetSciMode ∷ TxInstall ∷ TxUse ∷ TxRemove ∷ RxAdd ∷ RxDrop ∷ RxInstall ∷ RxRemove ∷ []

-- the command word that is spelled like this
abbrev pub word_spelled : List ℕ → Option CommandWord
word_spelled text = find (λ word. bytes_eq (word_text word) text) words

-- ---- modes

-- what is done with frames that do not verify
abbrev pub validate_word : Validate → List ℕ
validate_word Strict = codes "strict"
validate_word Check = codes "check"

-- each mode, once
abbrev pub validate_modes : List Validate
validate_modes = Strict ∷ Check ∷ []

-- the mode that is spelled like this
abbrev pub validate_spelled : List ℕ → Option Validate
validate_spelled text = find (λ mode. bytes_eq (validate_word mode) text) validate_modes

-- how transmitted frames name the channel
abbrev pub sci_mode_word : SciMode → List ℕ
sci_mode_word Explicit = codes "explicit"
sci_mode_word EndStation = codes "end-station"
sci_mode_word Implicit = codes "implicit"

-- each mode, once
abbrev pub sci_modes : List SciMode
sci_modes = Explicit ∷ EndStation ∷ Implicit ∷ []

-- the mode that is spelled like this
abbrev pub sci_mode_spelled : List ℕ → Option SciMode
sci_mode_spelled text = find (λ mode. bytes_eq (sci_mode_word mode) text) sci_modes

-- whether replay protection is on
abbrev pub replay_word : Bool → List ℕ
replay_word true = codes "on"
replay_word false = codes "off"

-- whether User Data are encrypted
abbrev pub protection_word : Bool → List ℕ
protection_word true = codes "confidential"
protection_word false = codes "integrity"
