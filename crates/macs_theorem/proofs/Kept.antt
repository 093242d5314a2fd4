-- What the example programs keep.
use Rattle.std.proofs.Common.{◌≡◌, ◌++◌, ℕ, List, [], ◌∷◌, Option, Some, None, refl, sym, ◌∙◌, ap, subst}
use Rattle.std.proofs.lemmas.List.{append_assoc, append-nil}
use Rattle.std.specs.Prelude.{Contains, is_some}
use Rattle.std.specs.Option.{option_map}
use Rattle.macs_headline.proofs.Lists.{contains-first, contains-later}
use Rattle.macs_theorem.specs.Events.{Event}
use Rattle.macs_theorem.specs.Examples.{AreFirst, number_in, numbers_in}
use Rattle.macs_theorem.specs.Shown.{Shown}

-- ---- packet numbers

-- those of one event more
numbers_on : (events : List (Event Shown)) (event : Event Shown)
    → numbers_in (events ++ event ∷ []) ≡ numbers_in events ++ number_in event
numbers_on [] event = append-nil (number_in event)
numbers_on (first ∷ events) event =
    ap (λ (l : List ℕ). number_in first ++ l) (numbers_on events event)
    ∙ sym (append_assoc (number_in first) (numbers_in events) (number_in event))

module _ (first second : Option ℕ) (events : List (Event Shown)) (event : Event Shown) where
  -- one that has no number
  pub first-kept : number_in event ≡ [] → AreFirst first second (numbers_in events)
      → AreFirst first second (numbers_in (events ++ event ∷ []))
  first-kept none are =
      let same : numbers_in (events ++ event ∷ []) ≡ numbers_in events = numbers_on events event
      ∙ ap (λ (l : List ℕ). numbers_in events ++ l) none ∙ append-nil (numbers_in events) in
      subst (AreFirst first second) (sym same) are

  -- one that has
  pub first-noted : (pn : ℕ) → number_in event ≡ pn ∷ [] → AreFirst first second (numbers_in events ++ pn ∷ [])
      → AreFirst first second (numbers_in (events ++ event ∷ []))
  first-noted pn one are =
      let same : numbers_in (events ++ event ∷ []) ≡ numbers_in events ++ pn ∷ [] = numbers_on events event
      ∙ ap (λ (l : List ℕ). numbers_in events ++ l) one in
      subst (AreFirst first second) (sym same) are

-- ---- what was shown

-- the last of all
pub contains-last : (events : List (Event Shown)) (event : Event Shown) → Contains (events ++ event ∷ []) event
contains-last [] event = contains-first event []
contains-last (first ∷ events) event =
    contains-later first (events ++ event ∷ []) event (contains-last events event)

pub some-mapped : {X Y : Type 0} (f : X → Y) (x : Option X) → is_some x ≡ is_some (option_map f x)
some-mapped f None = refl
some-mapped f (Some x) = refl
