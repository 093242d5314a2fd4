-- The line of a command: its word, and its fields in order, with a blank before each.
use Rattle.std.specs.Prelude.{ℕ, List, ◌==◌, ◌++◌, codes}
use Rattle.std.specs.Fmt.{decimal}
use Rattle.std.specs.List.{after_first, before_first}
use Rattle.hex.specs.Hex.{encode_lower}
use Rattle.macs_aes.specs.Keys.{HasItsLength, octets_of_key}
use Rattle.macs_aes.specs.declared.keys.Key.{Key}
use Rattle.macs_config.specs.Apply.{IsCommand}
use Rattle.macs_config.specs.declared.command.Command.{Command}
use Rattle.macs_config.specs.declared.command.Command.TheVariants.{SetValidate, SetReplay, SetSciMode, TxInstall, TxUse}
use Rattle.macs_config.specs.declared.command.Command.TheVariants.{TxRemove, RxAdd, RxDrop, RxInstall, RxRemove}
use Rattle.macs_commands.specs.Words.{protection_word, replay_word, sci_mode_word, validate_word, word_of, word_text}

-- ---- the words of a text

-- a word, a blank, and what follows
abbrev pub spaced : List ℕ → List ℕ → List ℕ
spaced word rest = word ++ (codes " " ++ rest)

-- a text up to its first blank, or all of it
abbrev pub first_word : List ℕ → List ℕ
first_word text = before_first (λ octet. octet == 32) text

-- what follows the first blank of a text, or nothing
abbrev pub after_word : List ℕ → List ℕ
after_word text = after_first (λ octet. octet == 32) text

-- ---- values

-- the key of a command, if it has one, has 16 or 32 octets, according to its type
abbrev pub HasItsKey : Command → Type 0
HasItsKey (TxInstall an key start confidential offset) = HasItsLength key
HasItsKey (RxInstall sci an key start offset) = HasItsLength key
HasItsKey command = Unit {0}

-- a command whose fields are in the ranges of their types
abbrev pub IsTold : Command → Type 0
IsTold command = IsCommand command × HasItsKey command

-- ---- lines

-- a key, in 32 or 64 lower-case hex digits
abbrev pub key_digits : Key → List ℕ
key_digits key = encode_lower (octets_of_key key)

-- its fields: numbers in decimal, octets in lower-case hex digits
abbrev pub fields_of : Command → List ℕ
fields_of (SetValidate validate) = validate_word validate
fields_of (SetReplay on window) = spaced (replay_word on) (decimal window)
fields_of (SetSciMode mode) = sci_mode_word mode
fields_of (TxInstall an key start confidential offset) =
    spaced (decimal an) (spaced (key_digits key) (spaced (decimal start)
    (spaced (protection_word confidential) (decimal offset))))
fields_of (TxUse an) = decimal an
fields_of (TxRemove an) = decimal an
fields_of (RxAdd sci) = encode_lower sci
fields_of (RxDrop sci) = encode_lower sci
fields_of (RxInstall sci an key start offset) =
    spaced (encode_lower sci) (spaced (decimal an) (spaced (key_digits key) (spaced (decimal start) (decimal offset))))
fields_of (RxRemove sci an) = spaced (encode_lower sci) (decimal an)

-- the line of a command, without its line feed
abbrev pub command_line : Command → List ℕ
command_line command = spaced (word_text (word_of command)) (fields_of command)
