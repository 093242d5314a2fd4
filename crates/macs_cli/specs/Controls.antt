-- Text without control characters.
use Rattle.std.specs.Prelude.{◌≡◌, ℕ, false, List, if◌then◌else◌}
use Rattle.std.specs.Char.{is_control}
use Rattle.std.specs.List.{All}
use Rattle.std.specs.Str.{chars}

-- `?` (63) for a control character, which is one below U+0020 or one from U+007F to U+009F; any other is unchanged
abbrev pub printable_char : ℕ → ℕ
printable_char character = if is_control character then 63 else character

-- no character of the text is a control character
abbrev pub IsPrintable : List ℕ → Type 0
IsPrintable text = All (λ character. is_control character ≡ false) (chars text)
