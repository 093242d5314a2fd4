-- What is printed, where the octets are known.
use Rattle.std.proofs.Common.{◌≡◌, ℕ, List, Option, subst}
use Rattle.std.specs.Io.KnownBytes.{Appends}

-- a text that was printed is an equal one
pub prints-text : (before after : Option (List ℕ)) (text other : List ℕ) → text ≡ other → Appends before after text
    → Appends before after other
prints-text before after text other same printed = subst (λ (x : List ℕ). Appends before after x) same printed
