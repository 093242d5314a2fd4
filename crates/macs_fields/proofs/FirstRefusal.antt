-- The first refusal of a list, over any enum of refusals: that there is at most one, and what a function owes that
-- answers it.
use Rattle.std.proofs.Common.{◌≡◌, ◌∙◌, ◌↔◌, Bool, true, false, List, [], ◌∷◌, ◌++◌, map, Result, Ok, Err, inl, inr}
use Rattle.std.proofs.Common.{refl, ap, sym, subst}
use Rattle.std.proofs.lemmas.Bool.{false≢true}
use Rattle.std.specs.Prelude.{IsTrue}
use Rattle.std.specs.List.{list_any}
use Rattle.macs_fields.specs.First.{NoneHolds, IsFirst}

-- there is at most one
pub first-once : {R : Type 0} (Holds : R → Type 0) (refusals : List R) (f g : R) → IsFirst Holds refusals f
    → IsFirst Holds refusals g → f ≡ g
first-once Holds [] f g a b = absurd a
first-once Holds (r ∷ rs) f g (inl a) (inl b) = a.1 ∙ sym b.1
first-once Holds (r ∷ rs) f g (inl a) (inr b) = absurd (b.0 a.0)
first-once Holds (r ∷ rs) f g (inr a) (inl b) = absurd (a.0 b.0)
first-once Holds (r ∷ rs) f g (inr a) (inr b) = first-once Holds rs f g a.1 b.1

-- where none holds there is none
pub none-first : {R : Type 0} (Holds : R → Type 0) (refusals : List R) (f : R) → NoneHolds Holds refusals
    → ¬ IsFirst Holds refusals f
none-first Holds [] f none first = first
none-first Holds (r ∷ rs) f none (inl here) = none.0 here.0
none-first Holds (r ∷ rs) f none (inr later) = none-first Holds rs f none.1 later.1

-- an error that is the first refusal is the first refusal exactly
pub exactly_first : {R X : Type 0} (Holds : R → Type 0) (refusals : List R) (result : Result X R) (f : R)
    → result ≡ Err f → IsFirst Holds refusals f
    → (g : R) → (result ≡ Err g) ↔ IsFirst Holds refusals g
exactly_first Holds refusals result f is first g = (
  λ e. let same : f ≡ g = cc in subst (λ x. IsFirst Holds refusals x) same first,
  λ other. let same = first-once Holds refusals f g first other in cc,
)

-- where none holds, a result that is no error is exact
pub exactly_none : {R X : Type 0} (Holds : R → Type 0) (refusals : List R) (result : Result X R) (x : X) → result ≡ Ok x
    → NoneHolds Holds refusals
    → (g : R) → (result ≡ Err g) ↔ IsFirst Holds refusals g
exactly_none Holds refusals result x is none g = (λ e. cc, λ first. absurd (none-first Holds refusals g none first))

-- the first refusal of a list under a name is the first of a longer list of such names
pub first-map-append : {Q R : Type 0} (Holds : R → Type 0) (name : Q → R) (refusals : List Q) (more : List R) (f : Q)
    → IsFirst (λ q. Holds (name q)) refusals f → IsFirst Holds (map name refusals ++ more) (name f)
first-map-append Holds name [] more f first = absurd first
first-map-append Holds name (q ∷ qs) more f (inl here) = inl (here.0, ap name here.1)
first-map-append Holds name (q ∷ qs) more f (inr later) = inr (later.0, first-map-append Holds name qs more f later.1)

-- where none of a list holds, the first refusal after it is the first
pub first-behind : {Q R : Type 0} (Holds : R → Type 0) (name : Q → R) (refusals : List Q) (more : List R) (f : R)
    → NoneHolds (λ q. Holds (name q)) refusals → IsFirst Holds more f → IsFirst Holds (map name refusals ++ more) f
first-behind Holds name [] more f none first = first
first-behind Holds name (q ∷ qs) more f none first = inr (none.0, first-behind Holds name qs more f none.1 first)

-- none holds of two lists where none holds of either
pub none-map-append : {Q R : Type 0} (Holds : R → Type 0) (name : Q → R) (refusals : List Q) (more : List R)
    → NoneHolds (λ q. Holds (name q)) refusals → NoneHolds Holds more → NoneHolds Holds (map name refusals ++ more)
none-map-append Holds name [] more none rest = rest
none-map-append Holds name (q ∷ qs) more none rest = (none.0, none-map-append Holds name qs more none.1 rest)

-- ---- where each refusal has a test

test_first : {R : Type 0} (holds : R → Bool) (r : R) (rs : List R) (b : Bool) → holds r ≡ b
    → (list_any holds rs ≡ true → (first : R) × IsFirst (λ q. IsTrue (holds q)) rs first)
    → list_any holds (r ∷ rs) ≡ true → (first : R) × IsFirst (λ q. IsTrue (holds q)) (r ∷ rs) first
test_first holds r rs true is later any = (r, inl (is, refl))
test_first holds r rs false is later any = let found = later (rw is at any) in (found.0, inr ((λ yes. cc), found.1))

-- where one holds there is a first
pub first-some : {R : Type 0} (holds : R → Bool) (refusals : List R) → list_any holds refusals ≡ true
    → (first : R) × IsFirst (λ r. IsTrue (holds r)) refusals first
first-some holds [] any = absurd (false≢true any)
first-some holds (r ∷ rs) any = test_first holds r rs (holds r) refl (first-some holds rs) any

test_none : {R : Type 0} (holds : R → Bool) (r : R) (rs : List R) (b : Bool) → holds r ≡ b
    → (list_any holds rs ≡ false → NoneHolds (λ q. IsTrue (holds q)) rs)
    → list_any holds (r ∷ rs) ≡ false → NoneHolds (λ q. IsTrue (holds q)) (r ∷ rs)
test_none holds r rs true is later any = let no : true ≡ false = rw is at any in cc
test_none holds r rs false is later any = ((λ yes. cc), later (rw is at any))

-- and else none
pub first-none : {R : Type 0} (holds : R → Bool) (refusals : List R) → list_any holds refusals ≡ false
    → NoneHolds (λ r. IsTrue (holds r)) refusals
first-none holds [] any = tt
first-none holds (r ∷ rs) any = test_none holds r rs (holds r) refl (first-none holds rs) any
