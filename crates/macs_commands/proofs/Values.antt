-- What the texts of fields say.
use Rattle.std.proofs.Common.{◌≡◌, ℕ, ◌<◌, ◌^◌, Bool, true, false, List, Some, None, Result}
use Rattle.std.proofs.Common.{bytes_eq, codes, decimal, refl, ap, ◌∙◌}
use Rattle.std.specs.Result.{result_unwrap_or}
use Rattle.std.specs.Str.Parse.{ParsesUnsigned}
use Rattle.std.proofs.lemmas.Fmt.{parse-decimal}
use Rattle.hex.specs.Hex.{encode_lower}
use Rattle.macs_aes.specs.Keys.{HasItsLength, octets_of_key}
use Rattle.macs_aes.specs.declared.keys.Key.{Key}
use Rattle.macs_aes.specs.declared.keys.Key.TheVariants.{Long, Short}
use Rattle.macs_config.specs.Apply.{IsKey}
use Rattle.macs_fields.specs.Fields.{IsSci}
use Rattle.macs_commands.specs.CommandLines.{key_digits}
use Rattle.macs_commands.specs.Digits.{key_of, octets_of}
use Rattle.macs_commands.specs.Words.{protection_word}
use Rattle.macs_commands.proofs.Blanks.{Lacks, hex_lacks, lacks}
use Rattle.macs_commands.proofs.KeyDigits.{bytes_of, each_octet, key_read, octets_read}

-- what both are, is the same
pub some_same : {X : Type 0} (a b : X) → Some a ≡ Some b → a ≡ b
some_same a b e = cc

-- ---- numbers

pub number_said : {E : Type 0} (k n value : ℕ) (text : List ℕ) (r : Result ℕ E) → n < 2 ^ k → n < 2 ^ 64
    → text ≡ decimal n → ParsesUnsigned k 10 text r → value ≡ result_unwrap_or r 0 → value ≡ n
number_said {E} k n value text r small within is read unwrapped =
    unwrapped ∙ ap (λ (x : Result ℕ E). result_unwrap_or x 0) (parse-decimal k n text r small within is read)

-- ---- octets

pub sci_said : (found sci text : List ℕ) → Some found ≡ octets_of 8 text → IsSci sci → text ≡ encode_lower sci
    → found ≡ sci
sci_said found sci text read is said = some_same found sci (read ∙ octets_read 8 sci text is said)

pub sci_none : (sci text : List ℕ) → None ≡ octets_of 8 text → IsSci sci → text ≡ encode_lower sci → ⊥
sci_none sci text read is said = let e : None ≡ Some sci = read ∙ octets_read 8 sci text is said in cc

pub sci_lacks : (sci : List ℕ) → IsSci sci → Lacks 32 (encode_lower sci)
sci_lacks sci is = hex_lacks 8 sci is.size (bytes_of sci is.each)

-- ---- keys

pub key_said : (found key : Key) (text : List ℕ) → Some found ≡ key_of text → IsKey (octets_of_key key)
    → HasItsLength key
    → text ≡ key_digits key → found ≡ key
key_said found key text read is size said = some_same found key (read ∙ key_read key text is size said)

pub key_none : (key : Key) (text : List ℕ) → None ≡ key_of text → IsKey (octets_of_key key) → HasItsLength key
    → text ≡ key_digits key → ⊥
key_none key text read is size said = let e : None ≡ Some key = read ∙ key_read key text is size said in cc

pub key_lacks : (key : Key) → IsKey (octets_of_key key) → HasItsLength key → Lacks 32 (key_digits key)
key_lacks (Short octets) is size = hex_lacks 16 octets size (bytes_of octets (each_octet octets is))
key_lacks (Long octets) is size = hex_lacks 32 octets size (bytes_of octets (each_octet octets is))

-- ---- modes and flags

pub confidential_said : (confidential : Bool) (word : List ℕ) → word ≡ protection_word confidential
    → bytes_eq word (codes "confidential") ≡ confidential
confidential_said true word is = ap (λ (w : List ℕ). bytes_eq w (codes "confidential")) is
confidential_said false word is = ap (λ (w : List ℕ). bytes_eq w (codes "confidential")) is

pub protection_lacks : (confidential : Bool) → Lacks 32 (protection_word confidential)
protection_lacks true = lacks 32 (codes "confidential") refl
protection_lacks false = lacks 32 (codes "integrity") refl
