-- What happens to a value, one thing after another.
use Rattle.std.specs.Prelude.{◌≡◌, List, [], ◌∷◌}

-- these happen to it in order: `Does` is what one of them makes of it
abbrev pub InTurn : {S A : Type 0} → (S → A → S → Type 0) → S → List A → S → Type 0
InTurn Does old [] new = new ≡ old
InTurn {S} Does old (first ∷ rest) new = (between : S) × Does old first between × InTurn Does between rest new
