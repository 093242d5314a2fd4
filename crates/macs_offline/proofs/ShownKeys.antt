-- The front of a text, and its characters as they are shown.
use Rattle.std.proofs.Common.{◌≡◌, ◌∙◌, ℕ, zero, suc, true, List, [], ◌∷◌, map, take, refl, ap, sym}
use Rattle.std.specs.Str.{IsUtf8, chars, encode_utf8_all}
use Rattle.std.proofs.Math.Utf8.{scalar, scalars}
use Rattle.std.proofs.lemmas.Bool.{and_parts}
use Rattle.std.proofs.lemmas.Str.{chars-encodes, encodes-chars, scalars-chars}
use Rattle.macs_cli.specs.Controls.{printable_char}

scalars-take : (n : ℕ) (characters : List ℕ) → scalars characters ≡ true → scalars (take n characters) ≡ true
scalars-take zero characters all = refl
scalars-take (suc n) [] all = refl
scalars-take (suc n) (character ∷ rest) all =
    let parts = and_parts (scalar character) (scalars rest) all in
    rw parts.0 (scalars-take n rest parts.1)

-- a front of a text has its first characters
front-chars : (n : ℕ) (text front : List ℕ) → IsUtf8 text → front ≡ encode_utf8_all (take n (chars text))
    → chars front ≡ take n (chars text)
front-chars n text front utf8 is =
    ap chars is ∙ chars-encodes (take n (chars text)) (scalars-take n (chars text) (scalars-chars text utf8))

-- so it has when it is shown
pub front-shown : (n : ℕ) (text front shown : List ℕ) → IsUtf8 text → front ≡ encode_utf8_all (take n (chars text))
    → IsUtf8 shown → chars shown ≡ map printable_char (chars front)
    → shown ≡ encode_utf8_all (map printable_char (take n (chars text)))
front-shown n text front shown utf8 is shown_utf8 each =
    sym (encodes-chars shown shown_utf8)
    ∙ ap encode_utf8_all (each ∙ ap (map printable_char) (front-chars n text front utf8 is))
