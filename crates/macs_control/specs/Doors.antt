-- Who waits where clients connect, and who is let in.
use Rattle.std.specs.Prelude.{◌≡◌, ◌++◌, ⊤, List, [], ◌∷◌, Option, Some, None}

-- the first of those that are known to wait is let in; nobody is if nobody waits. What is unknown stays so
abbrev pub LetsIn : {S : Type 0} → Option (List S) → Option S → Option (List S) → Type 0
LetsIn None came new = new ≡ None
LetsIn (Some []) came new = (came ≡ None) × (new ≡ Some [])
LetsIn (Some (first ∷ rest)) came new = (came ≡ Some first) × (new ≡ Some rest)

-- these are let in, one after another: the first of those that are known to wait
abbrev pub LetsInEach : {S : Type 0} → Option (List S) → List S → Option (List S) → Type 0
LetsInEach None came new = new ≡ None
LetsInEach (Some old) came new = (rest : List _) × (old ≡ came ++ rest) × (new ≡ Some rest)

-- if it is known who waits, nobody does
abbrev pub IsNobody : {S : Type 0} → Option (List S) → Type 0
IsNobody None = ⊤
IsNobody (Some waiting) = waiting ≡ []
