-- Gates: a gate is a sector that says whether the body before it counts.
use Rattle.std.specs.Prelude.{List, ℕ, [], ◌∷◌}
use Rattle.macs_record.specs.Sectors.{Begins, padded_sector}

-- MSECOPEN
abbrev pub open_mark : List ℕ
open_mark = 0x4d ∷ 0x53 ∷ 0x45 ∷ 0x43 ∷ 0x4f ∷ 0x50 ∷ 0x45 ∷ 0x4e ∷ []

-- a gate is open if its sector begins with the mark, regardless of the rest, and closed otherwise
abbrev pub IsOpen : List ℕ → Type 0
IsOpen sector = Begins open_mark sector

-- an open gate, as it is written
abbrev pub open_gate : List ℕ
open_gate = padded_sector open_mark

-- a closed gate, as it is written
abbrev pub closed_gate : List ℕ
closed_gate = padded_sector []
