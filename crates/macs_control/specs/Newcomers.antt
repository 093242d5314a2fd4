-- Clients that connect.
use Rattle.std.specs.Prelude.{◌≡◌, ◌<◌, ◌++◌, ◌∷◌, ◌+◌, ◌-◌, ◌^◌, ◌&&◌, ⊤, ℕ, Bool, true, false, List, [], length, map}
use Rattle.std.specs.Prelude.{Option, Some, None, nat_lt}
use Rattle.macs_control.specs.Doors.{IsNobody, LetsIn, LetsInEach}
use Rattle.macs_control.specs.Places.{has_room, last_of, left, places_of, seat_in, second_of, standing_in}
use Rattle.macs_control.specs.Seats.{client_of, connection_of, held_by}
use Rattle.macs_control.specs.Standings.{new_standing}
use Rattle.macs_control.specs.declared.place.Place.{Place}
use Rattle.macs_control.specs.declared.seats.Seats.{Seats}

-- a client with this number that connects in this second: no octet is held, and no answer is due
pub record IsNew {S : Type 0} (now number : ℕ) (place : Place S) : Type 0 where
  pub client : client_of (seat_in place) ≡ record { 0 = number }
  pub held : held_by (seat_in place) ≡ []
  pub standing : standing_in place ≡ new_standing now

-- a newcomer finds a place, and a number that no client had
abbrev pub is_open : {S : Type 0} → Seats S → Bool
is_open seats = has_room (second_of seats) (places_of seats) && nat_lt (last_of seats) (2 ^ 64 - 1)

-- a newcomer gets the last place, and the next number
pub record TakesIn {S : Type 0} (connection : S) (old new : Seats S) : Type 0 where
  pub place : Place S
  pub is_new : IsNew (second_of old) (last_of old + 1) place
  pub is_its : connection_of (seat_in place) ≡ connection
  pub places : places_of new ≡ left (second_of old) (places_of old) ++ place ∷ []
  pub last : last_of new ≡ last_of old + 1
  pub second : second_of new ≡ second_of old

-- the same if it finds a place; otherwise nothing changes
abbrev pub TakesInIf : {S : Type 0} → Bool → S → Seats S → Seats S → Type 0
TakesInIf true connection old new = TakesIn connection old new
TakesInIf false connection old new = new ≡ old

-- the next of those that wait is let in, and gets a place if it finds one; or nobody is let in
abbrev pub GreetsOne : {S : Type 0} → Option (List S) → Seats S → Bool → Option (List S) → Seats S → Type 0
GreetsOne before old false after new = LetsIn before None after × (new ≡ old)
GreetsOne before old true after new = (connection : _) × LetsIn before (Some connection) after
    × TakesInIf (is_open old) connection old new

-- the connections of these
abbrev pub connections_of : {S : Type 0} → List (Place S) → List S
connections_of places = map (λ place. connection_of (seat_in place)) places

-- newcomers, with numbers from this one on
abbrev pub AreNew : {S : Type 0} → ℕ → ℕ → List (Place S) → Type 0
AreNew now number [] = ⊤
AreNew now number (place ∷ places) = IsNew now number place × AreNew now (number + 1) places

-- Newcomers get free places, in the order in which they are let in, and nobody loses one. While there are numbers, none
-- that is let in is left without a place
pub record Greets {S : Type 0} (before : Option (List S)) (old : Seats S) (after : Option (List S)) (new : Seats S)
    : Type 0 where
  pub newcomers : List (Place S)
  pub came : List S
  pub let_in : LetsInEach before came after
  pub are_theirs : last_of new < 2 ^ 64 - 1 → connections_of newcomers ≡ came
  pub are_new : AreNew (second_of old) (last_of old + 1) newcomers
  pub places : places_of new ≡ places_of old ++ newcomers
  pub last : last_of new ≡ last_of old + length newcomers
  pub second : second_of new ≡ second_of old

-- while there are places and numbers, nobody is left waiting
abbrev pub LeavesNobody : {S : Type 0} → Option (List S) → Seats S → Type 0
LeavesNobody after new = length (places_of new) < 4 → last_of new < 2 ^ 64 - 1 → IsNobody after
