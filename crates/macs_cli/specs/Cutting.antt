-- The pieces of a text: its lines, and the words of a line.
use Rattle.std.specs.Prelude.{ℕ, ◌==◌, List, [], ◌∷◌, if◌then◌else◌}

-- pieces with one more octet at the start of the first
abbrev pub led_by : ℕ → List (List ℕ) → List (List ℕ)
led_by octet [] = (octet ∷ []) ∷ []
led_by octet (piece ∷ others) = (octet ∷ piece) ∷ others

-- the pieces of a text: each ends with this octet, which may be missing at the end of the text
unfoldable pub pieces : ℕ → List ℕ → List (List ℕ)
pieces end [] = []
pieces end (octet ∷ rest) = if octet == end then [] ∷ pieces end rest else led_by octet (pieces end rest)

-- the lines of a text, terminated by line feeds
abbrev pub lines : List ℕ → List (List ℕ)
lines = pieces 10

-- the words of a line, terminated by blanks
abbrev pub words : List ℕ → List (List ℕ)
words = pieces 32
