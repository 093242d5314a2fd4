-- How long lines are.
use Rattle.std.proofs.Common.{◌≡◌, ◌≤◌, ◌<◌, ◌+◌, ◌*◌, ◌^◌, ℕ, Bool, true, false, List, ◌++◌, length, codes, decimal}
use Rattle.std.proofs.Common.{refl, arith}
use Rattle.std.proofs.Common.{length-append}
use Rattle.std.proofs.lemmas.Fmt.{length-decimal-le}
use Rattle.hex.specs.Hex.{encode_lower}
use Rattle.hex.proofs.HexLemmas.{decode_sized-ok}
use Rattle.macs_aes.specs.Keys.{HasItsLength, octets_of_key}
use Rattle.macs_aes.specs.declared.keys.Key.{Key}
use Rattle.macs_aes.specs.declared.keys.Key.TheVariants.{Long, Short}
use Rattle.macs_config.specs.Apply.{IsKey}
use Rattle.macs_config.specs.declared.command.Command.{Command}
use Rattle.macs_config.specs.declared.command.Command.TheVariants.{SetValidate, SetReplay, SetSciMode}
use Rattle.macs_config.specs.declared.command.Command.TheVariants.{TxInstall, TxUse, TxRemove}
use Rattle.macs_config.specs.declared.command.Command.TheVariants.{RxAdd, RxDrop, RxInstall, RxRemove}
use Rattle.macs_config.specs.declared.command.SciMode.{SciMode}
use Rattle.macs_config.specs.declared.command.SciMode.TheVariants.{Explicit, EndStation, Implicit}
use Rattle.macs_config.specs.declared.command.Validate.{Validate}
use Rattle.macs_config.specs.declared.command.Validate.TheVariants.{Strict, Check}
use Rattle.macs_fields.specs.Fields.{IsOctets, IsSci}
use Rattle.macs_commands.specs.CommandLines.{spaced, key_digits, IsTold, command_line, fields_of}
use Rattle.macs_commands.specs.Words.{protection_word, replay_word, sci_mode_word, validate_word}
use Rattle.macs_commands.specs.Words.{word_of, word_text}
use Rattle.macs_commands.specs.Requests.{IsAsked, request_line}
use Rattle.macs_commands.specs.declared.requests.request.Request.{Request}
use Rattle.macs_commands.specs.declared.requests.request.Request.TheVariants.{About, Apply, Counters, Keys, Show, Stop}
use Rattle.macs_commands.specs.declared.requests.request.Request.TheVariants.{Traffic}
use Rattle.macs_commands.proofs.KeyDigits.{decoded, octets_are}

literal : (text : List ℕ) (n most : ℕ) → length text ≡ n → n ≤ most → length text ≤ most
literal text n most is within = omega (arith, is, within)

length-spaced : (a b : List ℕ) → length (spaced a b) ≡ length a + (1 + length b)
length-spaced a b =
    let blank : length (codes " ") ≡ 1 = refl in
    omega (arith, length-append a (codes " " ++ b), length-append (codes " ") b, blank)

-- two texts of at most so many octets, with a blank between
both : (a b : List ℕ) (m n : ℕ) → length a ≤ m → length b ≤ n → length (spaced a b) ≤ m + (1 + n)
both a b m n short small = omega (arith, length-spaced a b, short, small)

number : (n : ℕ) → n < 2 ^ 32 → length (decimal n) ≤ 10
number n small = length-decimal-le 10 n (omega arith) (omega (arith, small)) (omega (arith, small))

digits : (n : ℕ) (octets : List ℕ) → IsOctets n octets → length (encode_lower octets) ≡ 2 * n
digits n octets are = decode_sized-ok (encode_lower octets) n octets (decoded n octets (encode_lower octets) are refl)

key_short : (key : Key) → IsKey (octets_of_key key) → HasItsLength key → length (key_digits key) ≤ 64
key_short (Short octets) is size = omega (arith, digits 16 octets (octets_are 16 octets size is))
key_short (Long octets) is size = omega (arith, digits 32 octets (octets_are 32 octets size is))

sci_short : (sci : List ℕ) → IsSci sci → length (encode_lower sci) ≤ 16
sci_short sci is = omega (arith, digits 8 sci is)

validate_short : (mode : Validate) → length (validate_word mode) ≤ 6
validate_short Strict = literal (codes "strict") 6 6 refl (omega arith)
validate_short Check = literal (codes "check") 5 6 refl (omega arith)

sci_mode_short : (mode : SciMode) → length (sci_mode_word mode) ≤ 11
sci_mode_short Explicit = literal (codes "explicit") 8 11 refl (omega arith)
sci_mode_short EndStation = literal (codes "end-station") 11 11 refl (omega arith)
sci_mode_short Implicit = literal (codes "implicit") 8 11 refl (omega arith)

replay_short : (on : Bool) → length (replay_word on) ≤ 3
replay_short true = literal (codes "on") 2 3 refl (omega arith)
replay_short false = literal (codes "off") 3 3 refl (omega arith)

protection_short : (confidential : Bool) → length (protection_word confidential) ≤ 12
protection_short true = literal (codes "confidential") 12 12 refl (omega arith)
protection_short false = literal (codes "integrity") 9 12 refl (omega arith)

word_short : (command : Command) → length (word_text (word_of command)) ≤ 12
word_short (SetValidate mode) = literal (codes "set-validate") 12 12 refl (omega arith)
word_short (SetReplay on window) = literal (codes "set-replay") 10 12 refl (omega arith)
word_short (SetSciMode mode) = literal (codes "set-sci-mode") 12 12 refl (omega arith)
word_short (TxInstall an key start confidential offset) = literal (codes "tx-install") 10 12 refl (omega arith)
word_short (TxUse an) = literal (codes "tx-use") 6 12 refl (omega arith)
word_short (TxRemove an) = literal (codes "tx-remove") 9 12 refl (omega arith)
word_short (RxAdd sci) = literal (codes "rx-add") 6 12 refl (omega arith)
word_short (RxDrop sci) = literal (codes "rx-drop") 7 12 refl (omega arith)
word_short (RxInstall sci an key start offset) = literal (codes "rx-install") 10 12 refl (omega arith)
word_short (RxRemove sci an) = literal (codes "rx-remove") 9 12 refl (omega arith)

fields_short : (command : Command) → IsTold command → length (fields_of command) ≤ 120
fields_short (SetValidate mode) told = omega (arith, validate_short mode)
fields_short (SetReplay on window) told =
    omega (arith, both (replay_word on) (decimal window) 3 10 (replay_short on) (number window told.0))
fields_short (SetSciMode mode) told = omega (arith, sci_mode_short mode)
fields_short (TxInstall an key start confidential offset) told =
    let last = both (protection_word confidential) (decimal offset) 12 10 (protection_short confidential)
    (number offset (omega (arith, told.0.3))) in
    let third = both (decimal start) (spaced (protection_word confidential) (decimal offset)) 10 23
    (number start told.0.2) last in
    let second =
    both (key_digits key) (spaced (decimal start) (spaced (protection_word confidential) (decimal offset))) 64 34
    (key_short key told.0.1 told.1) third in
    let first = both (decimal an)
    (spaced (key_digits key) (spaced (decimal start) (spaced (protection_word confidential) (decimal offset))))
    10 99 (number an (omega (arith, told.0.0))) second in
    omega (arith, first)
fields_short (TxUse an) told = omega (arith, number an (omega (arith, told.0)))
fields_short (TxRemove an) told = omega (arith, number an (omega (arith, told.0)))
fields_short (RxAdd sci) told = omega (arith, sci_short sci told.0)
fields_short (RxDrop sci) told = omega (arith, sci_short sci told.0)
fields_short (RxInstall sci an key start offset) told =
    let last =
    both (decimal start) (decimal offset) 10 10 (number start told.0.3) (number offset (omega (arith, told.0.4))) in
    let third =
    both (key_digits key) (spaced (decimal start) (decimal offset)) 64 21 (key_short key told.0.2 told.1) last in
    let second = both (decimal an) (spaced (key_digits key) (spaced (decimal start) (decimal offset))) 10 86
    (number an (omega (arith, told.0.1))) third in
    let first = both (encode_lower sci)
    (spaced (decimal an) (spaced (key_digits key) (spaced (decimal start) (decimal offset)))) 16 97
    (sci_short sci told.0.0) second in
    omega (arith, first)
fields_short (RxRemove sci an) told =
    omega (
      arith,
      both (encode_lower sci) (decimal an) 16 10 (sci_short sci told.0.0) (number an (omega (arith, told.0.1))),
    )

command_short : (command : Command) → IsTold command → length (command_line command) ≤ 255
command_short command told =
    omega (
      arith,
      both (word_text (word_of command)) (fields_of command) 12 120 (word_short command) (fields_short command told),
    )

-- the line of a request
request_within : (request : Request) → IsAsked request → length (request_line request) ≤ 255
request_within Show asked = literal (codes "show") 4 255 refl (omega arith)
request_within Counters asked = literal (codes "counters") 8 255 refl (omega arith)
request_within Keys asked = literal (codes "keys") 4 255 refl (omega arith)
request_within Traffic asked = literal (codes "traffic") 7 255 refl (omega arith)
request_within About asked = literal (codes "about") 5 255 refl (omega arith)
request_within Stop asked = literal (codes "stop") 4 255 refl (omega arith)
request_within (Apply command) asked = command_short command asked

pub request_short : (request : Request) → IsAsked request → length (request_line request) < 256
request_short request asked = omega (arith, request_within request asked)
