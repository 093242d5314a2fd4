-- Things that happen to a value, one after another.
use Rattle.std.proofs.Common.{◌++◌, List, [], ◌∷◌, refl, subst}
use Rattle.macs_commands.specs.InTurn.{InTurn}

module _ {S A : Type 0} (Does : S → A → S → Type 0) where
  -- some, and then others
  pub and-then : (a b c : S) (some more : List A) → InTurn Does a some b → InTurn Does b more c
      → InTurn Does a (some ++ more) c
  and-then a b c [] more same rest = subst (λ (s : S). InTurn Does s more c) same rest
  and-then a b c (first ∷ some) more (between, one, left) rest =
      (between, one, and-then between b c some more left rest)

  -- one alone
  pub alone : (a b : S) (only : A) → Does a only b → InTurn Does a (only ∷ []) b
  alone a b only one = (b, one, refl)
