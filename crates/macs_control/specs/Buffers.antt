-- The value of an option of a socket.
use Rattle.std.specs.Prelude.{ℕ, List, [], ◌∷◌, ◌++◌}
use Rattle.std.specs.Int.{to_le_bytes, w32}

-- a 32-bit number, low octet first, followed by octets that are ignored
abbrev pub option_value : ℕ → List ℕ
option_value number = to_le_bytes w32 number ++ 0 ∷ 0 ∷ 0 ∷ 0 ∷ 0 ∷ 0 ∷ 0 ∷ 0 ∷ 0 ∷ 0 ∷ 0 ∷ 0 ∷ []
