-- An element of an array of bounded size is lent, and comes back changed.
use Rattle.std.proofs.Common.{◌≡◌, ◌∙◌, ℕ, List, length, set, get_or, ap}
use Rattle.std.specs.List.{refill}
use Rattle.std.proofs.lemmas.List.{length-set}
use Rattle.arrayvec.proofs.ArrayVecLemmas.{items-with_items}

-- what the array holds then
pub lent : {X : Type 0} (items ws : List X) (place : ℕ) (new : X) → ws ≡ items
    → refill (length items) items (set ws place new) ≡ set items place new
lent {X = X} items ws place new same =
    ap (λ (xs : List X). refill (length items) items (set xs place new)) same
    ∙ items-with_items (record { items = items }) (set items place new) (length-set items place new)

-- the element that was lent
pub lent_old : {X : Type 0} (items ws : List X) (place : ℕ) (d : X) → ws ≡ items → d ≡ get_or ws place d
    → get_or ws place d ≡ get_or items place (get_or ws place d)
lent_old {X = X} items ws place d same is = ap (λ (xs : List X). get_or xs place d) same ∙ ap (get_or items place) is
