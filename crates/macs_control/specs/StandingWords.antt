-- What follows from the definitions of a client's state: which client loses its place, and when.
use Rattle.std.specs.Prelude.{◌≡◌, ◌≤◌, ◌<◌, ◌∷◌, ◌++◌, ℕ, true, false, List, [], length}
use Rattle.std.specs.List.{list_any}
use Rattle.std.specs.Prelude.{is_some, position}
use Rattle.macs_control.specs.Places.{gives_way, has_room, kept, left, standing_in}
use Rattle.macs_control.specs.Standings.{is_idle}
use Rattle.macs_control.specs.declared.place.Place.{Place}

-- The same for places. When a newcomer arrives all are left if there are fewer than four, or none is idle. Otherwise
-- the first idle one is not, and all others are, in order: only an idle client loses its place.
pub record PlaceWords (S : Type 0) : Type 0 where
  pub way : (now : ℕ) (place : Place S) → gives_way now place ≡ is_idle now (standing_in place)
  pub none : (now : ℕ) → kept {S = S} now [] ≡ []
  pub keeps : (now : ℕ) (place : Place S) (places : List (Place S)) → gives_way now place ≡ false
      → kept now (place ∷ places) ≡ place ∷ kept now places
  pub goes : (now : ℕ) (place : Place S) (places : List (Place S)) → gives_way now place ≡ true
      → kept now (place ∷ places) ≡ kept now places
  pub few : (now : ℕ) (places : List (Place S)) → length places < 4 → left now places ≡ places
  pub none_goes : (now : ℕ) (places : List (Place S)) → list_any (gives_way now) places ≡ false
      → left now places ≡ places
  pub loses : (now : ℕ) (front : List (Place S)) (place : Place S) (rest : List (Place S))
      → 4 ≤ length (front ++ place ∷ rest) → list_any (gives_way now) front ≡ false → gives_way now place ≡ true
      → left now (front ++ place ∷ rest) ≡ front ++ rest
  pub spares : (now : ℕ) (places : List (Place S)) → kept now (left now places) ≡ kept now places
  pub free : (now : ℕ) (places : List (Place S)) → length places < 4 → has_room now places ≡ true
  pub full : (now : ℕ) (places : List (Place S)) → 4 ≤ length places
      → has_room now places ≡ is_some (position (gives_way now) places)
