-- Text whose control characters are replaced.
use Rattle.std.proofs.Common.{◌≡◌, ◌∙◌, ℕ, Bool, true, false, List, [], ◌∷◌, map, slice_index_or, if◌then◌else◌, refl}
use Rattle.std.proofs.Common.{ap}
use Rattle.std.specs.Char.{is_control}
use Rattle.std.specs.Str.{IsUtf8, chars, encode_utf8_all}
use Rattle.std.proofs.Math.Utf8.{scalar, scalars}
use Rattle.std.proofs.lemmas.Bool.{and_parts}
use Rattle.std.proofs.lemmas.List.Elements.{All-map}
use Rattle.std.proofs.lemmas.Str.{chars-encodes, scalars-chars}
use Rattle.macs_cli.specs.Controls.{IsPrintable, printable_char}

-- what stands for a character is one
scalar-printable : (character : ℕ) → scalar character ≡ true → scalar (printable_char character) ≡ true
scalar-printable character is = go (is_control character)
  where
    go : (control : Bool) → scalar (if control then 63 else character) ≡ true
    go true = refl
    go false = is

scalars-printable : (characters : List ℕ) → scalars characters ≡ true → scalars (map printable_char characters) ≡ true
scalars-printable [] all = refl
scalars-printable (character ∷ rest) all =
    let parts = and_parts (scalar character) (scalars rest) all in
    rw (scalar-printable character parts.0) (scalars-printable rest parts.1)

-- and it is no control character
printable-is : (character : ℕ) → is_control (printable_char character) ≡ false
printable-is character = go (is_control character) refl
  where
    go : (control : Bool) → is_control character ≡ control → is_control (if control then 63 else character) ≡ false
    go true is = refl
    go false is = is

-- the characters of a text that was written from those of another
pub chars-printable : (text shown : List ℕ) → IsUtf8 text → shown ≡ encode_utf8_all (map printable_char (chars text))
    → chars shown ≡ map printable_char (chars text)
chars-printable text shown utf8 written =
    ap chars written
    ∙ chars-encodes (map printable_char (chars text)) (scalars-printable (chars text) (scalars-chars text utf8))

-- none of them is a control character
pub is-printable : (text shown : List ℕ) → chars shown ≡ map printable_char (chars text) → IsPrintable shown
is-printable text shown same =
    rw same (All-map (λ (character : ℕ). is_control character ≡ false) printable_char (chars text)
    (λ i d within. printable-is (slice_index_or (chars text) i d)))
