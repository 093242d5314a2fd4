-- What a line spells in hex.
use Rattle.std.proofs.Common.{◌≡◌, ℕ, List, Option, Some, None, Result, Ok, Err, MatchOption, refl, sym, ◌∙◌, arith}
use Rattle.std.proofs.Common.{inl, inr}
use Rattle.std.specs.Option.{option_map}
use Rattle.std.specs.Result.{result_ok}
use Rattle.hex.specs.Hex.{decode_of, decode_sized}
use Rattle.hex.specs.declared.error.FromHexError.{FromHexError}
use Rattle.hex.proofs.HexLemmas.{decode_of-ok, decode_sized-ok, decode_sized-twice}
use Rattle.macs_aes.specs.Keys.{octets_of_key}
use Rattle.macs_aes.specs.declared.keys.Key.{Key}
use Rattle.macs_aes.specs.declared.keys.Key.TheVariants.{Long, Short}
use Rattle.macs_cli.specs.OpenInput.{SpellsKey, SpellsSized}
use Rattle.macs_commands.specs.Digits.{key_of, octets_of}

-- a line that decodes at a size spells so many octets
spells-decoded : (line : List ℕ) (n : ℕ) (octets : List ℕ) → decode_sized line n ≡ Ok octets → SpellsSized line n octets
spells-decoded line n octets decoded =
    let digits = decode_sized-ok line n octets decoded in
    let whole : decode_of line ≡ Ok octets = sym (decode_sized-twice line n digits) ∙ decoded in
    let parts = decode_of-ok line octets whole in
    (omega (arith, digits, parts.2), whole)

-- a line that spells so many octets decodes to them at that size
decode_sized-spelled : (line : List ℕ) (n : ℕ) (octets : List ℕ) → SpellsSized line n octets
    → decode_sized line n ≡ Ok octets
decode_sized-spelled line n octets spelled =
    let parts = decode_of-ok line octets spelled.1 in
    decode_sized-twice line n (omega (arith, spelled.0, parts.2)) ∙ spelled.1

-- decoding at a size answers the octets that are spelled, and nothing where none are
pub spelled-sized : (line : List ℕ) (n : ℕ) (read : Option (List ℕ)) → read ≡ result_ok (decode_sized line n)
    → MatchOption read ((octets : List ℕ) → ¬ SpellsSized line n octets) (SpellsSized line n)
spelled-sized line n read is = rw is (go (decode_sized line n) refl)
  where
    go : (decoded : Result (List ℕ) FromHexError) → decode_sized line n ≡ decoded
        → MatchOption (result_ok decoded) ((octets : List ℕ) → ¬ SpellsSized line n octets) (SpellsSized line n)
    go (Ok octets) e = spells-decoded line n octets e
    go (Err fault) e = λ octets spelled. let d = decode_sized-spelled line n octets spelled in cc

-- the key of a line is the one that is spelled, and none where none is
pub spelled-key : (line : List ℕ) (read : Option Key) → read ≡ key_of line
    → MatchOption read ((key : List ℕ) → ¬ SpellsKey line key) (λ key. SpellsKey line (octets_of_key key))
spelled-key line read is = rw is (go (octets_of 16 line) (octets_of 32 line) refl refl)
  where
    go : (short long : Option (List ℕ)) → short ≡ octets_of 16 line → long ≡ octets_of 32 line
        → MatchOption (elim short [ Some octets ↦ Some (Short octets) | None ↦ option_map Long long ])
        ((key : List ℕ) → ¬ SpellsKey line key) (λ key. SpellsKey line (octets_of_key key))
    go (Some octets) long s l =
        let spelled = spelled-sized line 16 (Some octets) s in (inl spelled.0, spelled.1)
    go None (Some octets) s l =
        let spelled = spelled-sized line 32 (Some octets) l in (inr spelled.0, spelled.1)
    go None None s l = λ key spelled. elim spelled.0 [
      | inl size ↦ spelled-sized line 16 None s key (size, spelled.1)
      | inr size ↦ spelled-sized line 32 None l key (size, spelled.1)
    ]
