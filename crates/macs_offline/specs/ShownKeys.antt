-- A key of a file, as it is displayed.
use Rattle.std.specs.Prelude.{◌++◌, if◌then◌else◌, ℕ, nat_lt, List, [], length, map, take, codes}
use Rattle.std.specs.Str.{chars, encode_utf8_all}
use Rattle.macs_cli.specs.Controls.{printable_char}

-- what comes after its first 64 characters
abbrev pub more_mark : List ℕ → List ℕ
more_mark key = if nat_lt 64 (length (chars key)) then codes ".." else []

-- its first 64 characters, with `?` for each control character, then `..` if it has more
abbrev pub shown_key : List ℕ → List ℕ
shown_key key = encode_utf8_all (map printable_char (take 64 (chars key))) ++ more_mark key
