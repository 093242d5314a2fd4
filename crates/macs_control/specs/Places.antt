-- Clients that have places.
use Rattle.std.specs.List.{position_or_len, remove}
use Rattle.std.specs.Prelude.{◌≡◌, ◌+◌, ◌-◌, ◌^◌, ◌||◌, if◌then◌else◌, ℕ, Bool, List, [], filter, is_some, length, min}
use Rattle.std.specs.Prelude.{not}
use Rattle.std.specs.Prelude.{position, nat_eq, nat_lt}
use Rattle.macs_commands.specs.declared.requests.clients.Client.{Client}
use Rattle.macs_control.specs.Seats.{client_of}
use Rattle.macs_control.specs.Standings.{is_idle}
use Rattle.macs_control.specs.declared.place.Place.{Place}
use Rattle.macs_control.specs.declared.seat.Seat.{Seat}
use Rattle.macs_control.specs.declared.seats.Seats.{Seats}
use Rattle.macs_control.specs.declared.standing.Standing.{Standing}

-- the client and its connection
abbrev pub seat_in : {S : Type 0} → Place S → Seat S
seat_in place = place.seat

-- its state
abbrev pub standing_in : {S : Type 0} → Place S → Standing
standing_in place = place.standing

-- those that have a place
abbrev pub places_of : {S : Type 0} → Seats S → List (Place S)
places_of seats = seats.places.items

-- how many seconds have ended
abbrev pub second_of : {S : Type 0} → Seats S → ℕ
second_of seats = seats.second

-- the last number that was given to a client
abbrev pub last_of : {S : Type 0} → Seats S → ℕ
last_of seats = seats.last

-- there are no clients, and the first one gets the number 1
pub record IsEmpty {S : Type 0} (seats : Seats S) : Type 0 where
  pub places : places_of seats ≡ []
  pub last : last_of seats ≡ 0
  pub second : second_of seats ≡ 0

-- it is this client's
abbrev pub is_of : {S : Type 0} → Client → Place S → Bool
is_of client place = nat_eq (client_of (seat_in place)).0 client.0

-- a newcomer may have its place
abbrev pub gives_way : {S : Type 0} → ℕ → Place S → Bool
gives_way now place = is_idle now (standing_in place)

-- those that keep their places when a newcomer arrives
abbrev pub kept : {S : Type 0} → ℕ → List (Place S) → List (Place S)
kept now places = filter (λ place. not (gives_way now place)) places

-- those that are left when a newcomer arrives: if four have places, the first that is idle loses its own
abbrev pub left : {S : Type 0} → ℕ → List (Place S) → List (Place S)
left now places = if nat_lt (length places) 4 then places else remove places (position_or_len (gives_way now) places)

-- a place is available: fewer than four are taken, or one of the four is idle
abbrev pub has_room : {S : Type 0} → ℕ → List (Place S) → Bool
has_room now places = nat_lt (length places) 4 || is_some (position (gives_way now) places)

-- no second is counted, and no number is given
abbrev pub KeepsCounts : {S : Type 0} → Seats S → Seats S → Type 0
KeepsCounts old new = (second_of new ≡ second_of old) × (last_of new ≡ last_of old)

-- one more second has ended
pub record PassesSecond {S : Type 0} (old new : Seats S) : Type 0 where
  pub second : second_of new ≡ min (second_of old + 1) (2 ^ 64 - 1)
  pub places : places_of new ≡ places_of old
  pub last : last_of new ≡ last_of old
