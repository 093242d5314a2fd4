-- The list of the keys that endpoints on a disk file of this name have been given.
use Rattle.std.specs.Prelude.{◌≡◌, ◌⊎◌, ◌≤◌, ◌-◌, ◌++◌, ℕ, List, [], codes, length, map, slice_index_or, take}
use Rattle.std.specs.Prelude.{Option, Some, None}
use Rattle.std.specs.List.{All, flat_map}
use Rattle.std.specs.Fmt.{decimal}
use Rattle.std.specs.Option.{option_map}
use Rattle.hex.specs.Hex.{encode_lower}
use Rattle.macs_aes.specs.Keys.{octets_of_key}
use Rattle.macs_config.specs.declared.command.Command.{Command}
use Rattle.macs_config.specs.declared.command.Command.TheVariants.{TxInstall, RxInstall}
use Rattle.macs_texts.specs.KeyTexts.{key_digest}
use Rattle.macs_texts.specs.Lines.{line}
use Rattle.macs_cli.specs.Reasons.{Complains}
use Rattle.macs_cli.specs.declared.failure.Failure.{Failure}
use Rattle.macs_cli.specs.declared.failure.Failure.TheVariants as failures
use Rattle.macs_offline.specs.declared.key_list.KeyFault.{KeyFault}
use Rattle.macs_offline.specs.declared.key_list.KeyFault.TheVariants as key

-- the octets of the key that a command installs
abbrev pub key_in : Command → Option (List ℕ)
key_in (TxInstall an key start confidential offset) = Some (octets_of_key key)
key_in (RxInstall sci an key start offset) = Some (octets_of_key key)
key_in command = None

-- its fingerprint, in hex digits
abbrev pub digits_of : Command → Option (List ℕ)
digits_of command = option_map (λ key. encode_lower (key_digest key)) (key_in command)

-- the line after the keys of an endpoint that is gone
abbrev pub formatted : List ℕ
formatted = codes "formatted\n"

-- the line of a key, by its digits; nothing for a command that installs no key
abbrev pub key_line : Option (List ℕ) → List ℕ
key_line None = []
key_line (Some digits) = line digits

-- the lines of keys, one after the other
abbrev pub lines_text : List (Option (List ℕ)) → List ℕ
lines_text keys = flat_map key_line keys

-- these digits occur before a `formatted` line
abbrev pub HasSpent : List ℕ → List ℕ → Type 0
HasSpent list digits = (before between after : List ℕ)
    × (list ≡ before ++ (digits ++ (between ++ (formatted ++ after))))

-- a list has this key, by its digits, as a key of an endpoint that is gone
abbrev pub IsSpentIn : List ℕ → Option (List ℕ) → Type 0
IsSpentIn list key = (digits : List ℕ) × (key ≡ Some digits) × HasSpent list digits

-- the index, counting from 1, of the first of these keys that the list has as a key of an endpoint that is gone
abbrev pub IsFirstSpent : List ℕ → List (Option (List ℕ)) → ℕ → Type 0
IsFirstSpent list keys at = (1 ≤ at) × (at ≤ length keys) × IsSpentIn list (slice_index_or keys (at - 1) None)
    × All (λ key. ¬ IsSpentIn list key) (take (at - 1) keys)

-- the text for the command with this number, counting from 1
abbrev pub spent_text : ℕ → List ℕ
spent_text at = codes "command " ++ (decimal at ++ codes " key: an earlier disk file of this name had it")

-- a failure reports the first of these commands whose key is spent in some list, or that the list cannot be read
abbrev pub SaysSpent : List Command → Failure → Type 0
SaysSpent commands failure =
    Complains (λ said. ((list : List ℕ) × (at : ℕ) × IsFirstSpent list (map digits_of commands) at
    × (said ≡ spent_text at)) ⊎ (said ≡ codes "key list: cannot be read")) failure

-- if the keys of its commands are not noted, a command file has no commands to apply
abbrev pub failure_of_keys : KeyFault → Failure
failure_of_keys key.Spent = failures.Commands
failure_of_keys key.File = failures.Commands
failure_of_keys key.Memory = failures.Memory
