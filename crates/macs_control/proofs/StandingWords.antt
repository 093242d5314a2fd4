-- All that is to be drawn of the words on how a client stands with its relay.
use Rattle.std.proofs.Common.{◌≡◌, ◌∙◌, ◌≤◌, ◌<◌, ℕ, Bool, true, false, not, cond, ◌∷◌, ◌++◌, List}
use Rattle.std.proofs.Common.{length}
use Rattle.std.proofs.Common.{arith, refl, ap}
use Rattle.std.proofs.lemmas.Bool.Decides.{nat_tests}
use Rattle.std.specs.List.{list_any, position_or_len, remove}
use Rattle.std.specs.Prelude.{◌||◌, if◌then◌else◌, is_some, nat_lt, position}
use Rattle.macs_control.proofs.Placed.{at-first, at-none, spared}
use Rattle.macs_control.specs.Places.{gives_way, kept}
use Rattle.macs_control.specs.StandingWords.{PlaceWords}

is_few : (n : ℕ) → n < 4 → nat_lt n 4 ≡ true
is_few n few = grind (arith, nat_tests)

is_four : (n : ℕ) → 4 ≤ n → nat_lt n 4 ≡ false
is_four n four = grind (arith, nat_tests)

module _ {X : Type 0} (t : X → Bool) where
  -- of a list that is left, where there are fewer than four, and where there are four
  all_left : (xs : List X) → length xs < 4
      → (if nat_lt (length xs) 4 then xs else remove xs (position_or_len t xs)) ≡ xs
  all_left xs few =
      ap (λ (b : Bool). if b then xs else remove xs (position_or_len t xs)) (is_few (length xs) few)

  one_left : (xs : List X) → 4 ≤ length xs
      → (if nat_lt (length xs) 4 then xs else remove xs (position_or_len t xs)) ≡ remove xs (position_or_len t xs)
  one_left xs four =
      ap (λ (b : Bool). if b then xs else remove xs (position_or_len t xs)) (is_four (length xs) four)

  same_left : (xs : List X) (b : Bool) → list_any t xs ≡ false
      → (if b then xs else remove xs (position_or_len t xs)) ≡ xs
  same_left xs true none = refl
  same_left xs false none = at-none t xs none

pub place-words : {S : Type 0} → PlaceWords S
place-words = record {
  way = λ now place. refl;
  none = λ now. refl;
  keeps = λ now place places is. ap (λ (b : Bool). cond (not b) (place ∷ kept now places) (kept now places)) is;
  goes = λ now place places is. ap (λ (b : Bool). cond (not b) (place ∷ kept now places) (kept now places)) is;
  few = λ now places few. all_left (gives_way now) places few;
  none_goes = λ now places none. same_left (gives_way now) places (nat_lt (length places) 4) none;
  loses = λ now front place rest four none is. one_left (gives_way now) (front ++ place ∷ rest) four
      ∙ at-first (gives_way now) front place rest none is;
  spares = λ now places. spared (gives_way now) places (nat_lt (length places) 4);
  free =
      λ now places few. ap (λ (b : Bool). b || is_some (position (gives_way now) places)) (is_few (length places) few);
  full = λ now places four. ap (λ (b : Bool). b || is_some (position (gives_way now) places))
      (is_four (length places) four);
}
