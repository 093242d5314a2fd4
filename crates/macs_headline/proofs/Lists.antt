-- Items of lists.
use Rattle.std.proofs.Common.{◌≡◌, ◌≢◌, ◌⊎◌, inl, inr, ℕ, zero, suc, List, [], ◌∷◌, ◌++◌, map, ap, replicate, refl, sym}
use Rattle.std.proofs.Common.{◌∙◌, subst, arith}
use Rattle.std.specs.Prelude.{AllPairs, Contains}
use Rattle.std.specs.List.{AllByRecursion}
use Rattle.std.proofs.lemmas.List.{get_or_default}
use Rattle.std.proofs.lemmas.List.Kept.{AllPairs-cons}

-- ---- one more in front

pub contains-first : {X : Type 0} (x : X) (xs : List X) → Contains (x ∷ xs) x
contains-first x xs = (zero, omega arith, refl)

pub contains-later : {X : Type 0} (x : X) (xs : List X) (y : X) → Contains xs y → Contains (x ∷ xs) y
contains-later x xs y (k, within, is) = (suc k, omega (arith, within), is)

pub contains-cases : {X : Type 0} (x : X) (xs : List X) (y : X) → Contains (x ∷ xs) y → (y ≡ x) ⊎ Contains xs y
contains-cases x xs y (zero, within, is) = inl (sym is)
contains-cases x xs y (suc k, within, is) = inr (k, omega (arith, within), is)

pub contains-none : {X : Type 0} (y : X) → ¬ Contains [] y
contains-none y (k, within, is) = omega (arith, within)

pub contains-map : {X Y : Type 0} (f : X → Y) (xs : List X) (x : X) → Contains xs x → Contains (map f xs) (f x)
contains-map f [] x h = absurd (contains-none x h)
contains-map f (first ∷ xs) x h = elim (contains-cases first xs x h) [
  | inl same ↦ subst (λ y. Contains (map f (first ∷ xs)) y) (ap f (sym same)) (contains-first (f first) (map f xs))
  | inr later ↦ contains-later (f first) (map f xs) (f x) (contains-map f xs x later)
]

-- ---- pairs

pub pairs-none : {X : Type 0} → AllPairs {X = X} (λ a b. a ≢ b) []
pairs-none i j d before within = absurd (omega (arith, within))

-- one that is none of the others
pub none-twice : {X : Type 0} (x : X) (xs : List X) → ¬ Contains xs x → AllPairs {X = X} (λ a b. a ≢ b) xs
    → AllPairs {X = X} (λ a b. a ≢ b) (x ∷ xs)
none-twice {X} x xs apart pairs =
    AllPairs-cons (λ (a : X) (b : X). a ≢ b) x xs
    (λ k d within same. apart (k, within, get_or_default xs k x d within ∙ sym same)) pairs

pub not-twice : {X : Type 0} (x : X) (xs : List X) → AllPairs {X = X} (λ a b. a ≢ b) (x ∷ xs) → ¬ Contains xs x
not-twice x xs pairs (k, within, is) = pairs zero (suc k) x (omega arith) (omega (arith, within)) (sym is)

-- ---- one more at the end

pub all-on : {X : Type 0} (P : X → Type 0) (xs : List X) (x : X) → AllByRecursion P xs → P x
    → AllByRecursion P (xs ++ x ∷ [])
all-on P [] x all is = (is, tt)
all-on P (first ∷ xs) x all is = (all.0, all-on P xs x all.1 is)

-- ---- the same many times

pub each-same : {X : Type 0} (P : X → Type 0) (n : ℕ) (x : X) → P x → AllByRecursion P (replicate n x)
each-same P zero x is = tt
each-same P (suc n) x is = (is, each-same P n x is)
