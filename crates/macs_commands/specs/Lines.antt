-- The table of a command: its word, its keys, and its values in the order of its line.
use Rattle.std.specs.Prelude.{ℕ, codes, if◌then◌else◌, Bool, List, [], ◌∷◌, Option, Some, None}
use Rattle.std.specs.Prelude.{option_and_then, Result, Ok, Err}
use Rattle.std.specs.List.{list_any}
use Rattle.std.specs.Str.{bytes_eq}
use Rattle.toml.specs.Data.{Members, member, no_members}
use Rattle.macs_config.specs.declared.command.Command.{Command}
use Rattle.macs_config.specs.declared.command.Command.TheVariants.{SetValidate, SetReplay, SetSciMode, TxInstall, TxUse}
use Rattle.macs_config.specs.declared.command.Command.TheVariants.{TxRemove, RxAdd, RxDrop, RxInstall, RxRemove}
use Rattle.macs_commands.specs.Tables.{an_in, confidential_in, key_in, offset_in, on_in, sci_in, sci_mode_in, start_in}
use Rattle.macs_commands.specs.Tables.{text_at, validate_in, window_in}
use Rattle.macs_commands.specs.declared.files.config_fault.KeyName.{KeyName}
use Rattle.macs_commands.specs.declared.files.config_fault.KeyName.TheVariants.{Mode, On, Window, An, Key, Start}
use Rattle.macs_commands.specs.declared.files.config_fault.KeyName.TheVariants.{Confidential, Offset, Sci}
use Rattle.macs_commands.specs.Words.{word_spelled}
use Rattle.macs_commands.specs.declared.command_word.CommandWord.{CommandWord}
use Rattle.macs_commands.specs.declared.command_word.CommandWord.TheVariants as word

-- ---- words

-- the word of a table
abbrev pub word_in : Members → Option CommandWord
word_in members = option_and_then word_spelled (text_at (codes "do") members)

-- ---- keys

-- the keys of the table of a command
abbrev pub keys_of : CommandWord → List (List ℕ)
keys_of word.SetValidate = codes "do" ∷ codes "mode" ∷ []
keys_of word.SetReplay = codes "do" ∷ codes "on" ∷ codes "window" ∷ []
keys_of word.SetSciMode = codes "do" ∷ codes "mode" ∷ []
keys_of word.TxInstall =
    codes "do" ∷ codes "an" ∷ codes "key" ∷ codes "start" ∷ codes "confidential" ∷ codes "offset" ∷ []
keys_of word.TxUse = codes "do" ∷ codes "an" ∷ []
keys_of word.TxRemove = codes "do" ∷ codes "an" ∷ []
keys_of word.RxAdd = codes "do" ∷ codes "sci" ∷ []
keys_of word.RxDrop = codes "do" ∷ codes "sci" ∷ []
keys_of word.RxInstall =
    codes "do" ∷ codes "sci" ∷ codes "an" ∷ codes "key" ∷ codes "start" ∷ codes "offset" ∷ []
keys_of word.RxRemove = codes "do" ∷ codes "sci" ∷ codes "an" ∷ []

-- a key is one of these
abbrev pub has_key : List (List ℕ) → List ℕ → Bool
has_key keys key = list_any (λ one. bytes_eq key one) keys

-- the first key of a table that is not among these
abbrev pub key_beside : List (List ℕ) → Members → Option (List ℕ)
key_beside keys no_members = None
key_beside keys (member key value members) = if has_key keys key then key_beside keys members else Some key

-- the first key of a table that its command does not have
abbrev pub extra_key : Members → Option (List ℕ)
extra_key members = option_and_then (λ which. key_beside (keys_of which) members) (word_in members)

-- ---- lines

-- the value, or the name of the key that it should have been at
abbrev pub required : {X : Type 0} → KeyName → Option X → Result X KeyName
required name (Some x) = Ok x
required name None = Err name

infixl 10 ◌>>=◌
-- the first of two readings, followed by the second
abbrev pub ◌>>=◌ : {X Y : Type 0} → Result X KeyName → (X → Result Y KeyName) → Result Y KeyName
Ok x >>= f = f x
Err name >>= f = Err name

-- the command of a table with this word, or the first key in the order of the line that is missing, of another type or
-- out of range
abbrev pub command_of : CommandWord → Members → Result Command KeyName
command_of word.SetValidate members = do
  mode ← required Mode (validate_in members)
  Ok (SetValidate mode)
command_of word.SetReplay members = do
  on ← required On (on_in members)
  window ← required Window (window_in members)
  Ok (SetReplay on window)
command_of word.SetSciMode members = do
  mode ← required Mode (sci_mode_in members)
  Ok (SetSciMode mode)
command_of word.TxInstall members = do
  an ← required An (an_in members)
  key ← required Key (key_in members)
  start ← required Start (start_in members)
  confidential ← required Confidential (confidential_in members)
  offset ← required Offset (offset_in members)
  Ok (TxInstall an key start confidential offset)
command_of word.TxUse members = do
  an ← required An (an_in members)
  Ok (TxUse an)
command_of word.TxRemove members = do
  an ← required An (an_in members)
  Ok (TxRemove an)
command_of word.RxAdd members = do
  sci ← required Sci (sci_in members)
  Ok (RxAdd sci)
command_of word.RxDrop members = do
  sci ← required Sci (sci_in members)
  Ok (RxDrop sci)
command_of word.RxInstall members = do
  sci ← required Sci (sci_in members)
  an ← required An (an_in members)
  key ← required Key (key_in members)
  start ← required Start (start_in members)
  offset ← required Offset (offset_in members)
  Ok (RxInstall sci an key start offset)
command_of word.RxRemove members = do
  sci ← required Sci (sci_in members)
  an ← required An (an_in members)
  Ok (RxRemove sci an)
