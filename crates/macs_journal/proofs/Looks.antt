-- What holds of one of two places that are looked at one after the other.
use Rattle.std.proofs.Common.{◌≡◌, ◌⊎◌, ◌↔◌, inl, inr, ℕ, zero, suc, Bool, true, false, IsTrue, arith}
use Rattle.macs_journal.specs.Areas.{IsArea}

-- one of two holds, where the first is known not to
pub either_holds : {A B : Type 0} (first second : Bool) → (IsTrue first ↔ A) → (IsTrue second ↔ B) → first ≡ false
    → IsTrue second ↔ (A ⊎ B)
either_holds {A} {B} first second one two not_first = (λ is. inr (two.0 is), go)
  where
    go : A ⊎ B → IsTrue second
    go (inl a) = let first_is : first ≡ true = one.1 a in cc
    go (inr b) = two.1 b

-- an area of which it holds is the second, where it does not hold of the first
pub second_area : (P : ℕ → Type 0) (first second : Bool) → (IsTrue first ↔ P 0) → (IsTrue second ↔ P 1) → first ≡ false
    → IsTrue second ↔ ((area : ℕ) × IsArea area × P area)
second_area P first second one two not_first = (λ is. (1, omega arith, two.0 is), λ some. go some.0 some.1 some.2)
  where
    go : (area : ℕ) → IsArea area → P area → IsTrue second
    go zero is holds = let first_is : first ≡ true = one.1 holds in cc
    go (suc zero) is holds = two.1 holds
    go (suc (suc n)) is holds = absurd (omega (arith, is))
