-- The lines of a text of octets.
use Rattle.std.specs.Prelude.{ℕ, ◌-◌, ◌==◌, List, [], ◌∷◌, length, take, slice_index, slice_index_or, if◌then◌else◌}

-- lines with one more octet at the start of the first
abbrev pub led_by : ℕ → List (List ℕ) → List (List ℕ)
led_by octet [] = (octet ∷ []) ∷ []
led_by octet (line ∷ others) = (octet ∷ line) ∷ others

-- the lines of a text: each ends with a line feed (10), which may be missing at the end of the text
unfoldable pub lines : List ℕ → List (List ℕ)
lines [] = []
lines (octet ∷ rest) = if octet == 10 then [] ∷ lines rest else led_by octet (lines rest)

-- a line without one trailing carriage return (13)
abbrev pub trimmed_line : List ℕ → List ℕ
trimmed_line line = if slice_index line (length line - 1) == 13 then take (length line - 1) line else line

-- a line of a text, counting from 0
abbrev pub line_at : List ℕ → ℕ → List ℕ
line_at text i = trimmed_line (slice_index_or (lines text) i [])
