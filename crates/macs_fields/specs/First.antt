-- The first refusal that applies: for every enum of refusals that are checked in order.
use Rattle.std.specs.Prelude.{◌≡◌, ◌⊎◌, Bool, List, [], ◌∷◌, if◌then◌else◌, Option, Some, None}

-- none of these refusals applies
abbrev pub NoneHolds : {R : Type 0} → (R → Type 0) → List R → Type 0
NoneHolds Holds [] = Unit {0}
NoneHolds Holds (r ∷ rs) = (¬ Holds r) × NoneHolds Holds rs

-- the refusal is the first of these, in order, that applies
abbrev pub IsFirst : {R : Type 0} → (R → Type 0) → List R → R → Type 0
IsFirst Holds [] refusal = ⊥
IsFirst Holds (r ∷ rs) refusal = (Holds r × (refusal ≡ r)) ⊎ ((¬ Holds r) × IsFirst Holds rs refusal)

-- the first of these whose test is true
abbrev pub first : {X : Type 0} → List (X × Bool) → Option X
first [] = None
first (row ∷ rows) = if row.1 then Some row.0 else first rows
