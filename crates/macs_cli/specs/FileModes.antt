-- What `check` reports about a command file that others can read.
use Rattle.std.specs.Prelude.{◌+◌, ◌/◌, ◌%◌, ◌==◌, ◌++◌, ◌∷◌, [], ℕ, List, codes, if◌then◌else◌, Bool, Option, Some}
use Rattle.std.specs.Prelude.{None}
use Rattle.macs_texts.specs.Lines.{line}

-- the last octal digit of a number
abbrev pub octal_digit : ℕ → ℕ
octal_digit number = 48 + number % 8

-- the last three octal digits
abbrev pub three_digits : ℕ → List ℕ
three_digits number = octal_digit (number / 64) ∷ octal_digit (number / 8) ∷ octal_digit number ∷ []

-- the permission bits of a mode in octal: three digits, preceded by a fourth if setuid, setgid or sticky is set
abbrev pub mode_digits : ℕ → List ℕ
mode_digits mode = if mode / 512 % 8 == 0 then three_digits mode else octal_digit (mode / 512) ∷ three_digits mode

-- the line of a mode
abbrev pub mode_line : ℕ → List ℕ
mode_line mode = line (codes "mode " ++ mode_digits mode)

-- users other than the owner and the group can read a file with this mode
abbrev pub others_read : ℕ → Bool
others_read mode = mode / 4 % 2 == 1

-- the warning about a file's mode, if it is known: its line if others can read the file, else nothing
abbrev pub mode_warning : Option ℕ → List ℕ
mode_warning None = []
mode_warning (Some mode) = if others_read mode then mode_line mode else []
