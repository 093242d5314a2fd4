-- Texts with a limit.
use Rattle.std.specs.Prelude.{◌≡◌, ℕ, List, [], ◌∷◌, ◌++◌, length, nat_le, Option, Some, None, if◌then◌else◌}

-- how many octets fit on a paper, and its text, or none where the text was cut
pub record Sheet : Type 0 where
  pub room : ℕ
  pub text : Option (List ℕ)

-- nothing is written
abbrev pub blank : ℕ → Sheet
blank room = record { room = room; text = Some [] }

-- a text up to this room, or none where it is longer
abbrev pub fitting : ℕ → List ℕ → Option (List ℕ)
fitting room text = if nat_le (length text) room then Some text else None

-- one octet more; where it does not fit, the text is cut, and stays so
abbrev pub with_octet : ℕ → Option (List ℕ) → ℕ → Option (List ℕ)
with_octet room None octet = None
with_octet room (Some text) octet = fitting room (text ++ octet ∷ [])

-- octets after octets
abbrev pub with_octets : ℕ → Option (List ℕ) → List ℕ → Option (List ℕ)
with_octets room text [] = text
with_octets room text (octet ∷ more) = with_octets room (with_octet room text octet) more

-- what is on a sheet once more is written on it
unfoldable pub written : Sheet → List ℕ → Sheet
written sheet more = record { room = sheet.room; text = with_octets sheet.room sheet.text more }

-- This was written on a sheet.
abbrev pub Writes : Sheet → Sheet → List ℕ → Type 0
Writes old new more = new ≡ written old more

-- This is all that was written on a sheet since it was blank.
abbrev pub IsWritten : Sheet → List ℕ → Type 0
IsWritten sheet text = Writes (blank sheet.room) sheet text
