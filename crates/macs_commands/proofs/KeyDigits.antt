-- Octets and keys, read from their digits.
use Rattle.std.proofs.Common.{◌≡◌, ◌∙◌, ℕ, ◌<◌, ◌^◌, ◌%◌, ◌/◌, List, length, Option, Some, None, Result, Ok, Err}
use Rattle.std.proofs.Common.{sym, ap, arith, inl, inr}
use Rattle.std.specs.List.{All}
use Rattle.std.specs.Option.{option_map}
use Rattle.std.proofs.lemmas.Bool.{cases_lt}
use Rattle.std.proofs.lemmas.List.{get_or_past}
use Rattle.hex.specs.Hex.{IsBytes, decode_sized, encode_lower}
use Rattle.hex.specs.declared.error.FromHexError.{FromHexError}
use Rattle.hex.proofs.HexLemmas.{decode_sized-encode_lower, decode_sized-ok, decode_sized-other}
use Rattle.macs_aes.specs.Keys.{HasItsLength, octets_of_key}
use Rattle.macs_aes.specs.declared.keys.Key.{Key}
use Rattle.macs_aes.specs.declared.keys.Key.TheVariants.{Long, Short}
use Rattle.macs_config.specs.Apply.{IsKey}
use Rattle.macs_fields.specs.Fields.{IsOctets}
use Rattle.macs_commands.specs.CommandLines.{key_digits}
use Rattle.macs_commands.specs.Digits.{key_of, octets_of}

-- ---- octets

pub bytes_of : (octets : List ℕ) → All (λ octet. octet < 2 ^ 8) octets → IsBytes octets
bytes_of octets each i = elim (cases_lt i (length octets)) [
  | inl within ↦ each i 0 within
  | inr past ↦ rw (get_or_past octets i 0 past) (omega arith)
]

abbrev found_in : Result (List ℕ) FromHexError → Option (List ℕ)
found_in r = elim r [ Ok octets ↦ Some octets | Err cause ↦ None ]

pub decoded : (n : ℕ) (octets text : List ℕ) → IsOctets n octets → text ≡ encode_lower octets
    → decode_sized text n ≡ Ok octets
decoded n octets text are is =
    ap (λ (t : List ℕ). decode_sized t n) is ∙ decode_sized-encode_lower octets n are.size (bytes_of octets are.each)

pub octets_read : (n : ℕ) (octets text : List ℕ) → IsOctets n octets → text ≡ encode_lower octets
    → octets_of n text ≡ Some octets
octets_read n octets text are is = ap (λ (r : Result (List ℕ) FromHexError). found_in r) (decoded n octets text are is)

-- ---- keys

pub each_octet : (octets : List ℕ) → IsKey octets → All (λ octet. octet < 2 ^ 8) octets
each_octet octets is = elim is [ inl short ↦ short.each | inr long ↦ long.each ]

pub octets_are : (n : ℕ) (octets : List ℕ) → length octets ≡ n → IsKey octets → IsOctets n octets
octets_are n octets size is = record { size = size; each = each_octet octets is }

not_short : (octets text : List ℕ) → IsOctets 32 octets → text ≡ encode_lower octets → octets_of 16 text ≡ None
not_short octets text are is =
    let size : length text ≡ 64 = decode_sized-ok text 32 octets (decoded 32 octets text are is) in
    let even : length text % 2 ≡ 0 = ap (λ (n : ℕ). n % 2) size in
    let half : length text / 2 ≡ 32 = ap (λ (n : ℕ). n / 2) size in
    ap (λ (r : Result (List ℕ) FromHexError). found_in r)
    (decode_sized-other text 16 even (λ other. let e : 32 ≡ 16 = sym half ∙ other in omega (arith, e)))

abbrev key_among : Option (List ℕ) → Option (List ℕ) → Option Key
key_among short long = elim short [ Some octets ↦ Some (Short octets) | None ↦ option_map Long long ]

pub key_read : (key : Key) (text : List ℕ) → IsKey (octets_of_key key) → HasItsLength key → text ≡ key_digits key
    → key_of text ≡ Some key
key_read (Short octets) text is size said =
    ap (λ (o : Option (List ℕ)). key_among o (octets_of 32 text))
    (octets_read 16 octets text (octets_are 16 octets size is) said)
key_read (Long octets) text is size said =
    let are = octets_are 32 octets size is in
    ap (λ (o : Option (List ℕ)). key_among o (octets_of 32 text)) (not_short octets text are said)
    ∙ ap (λ (o : Option (List ℕ)). key_among None o) (octets_read 32 octets text are said)
