-- What passes between a relay and the clients of its control socket.
use Rattle.std.specs.Prelude.{◌≡◌, ◌&&◌, ◌⊎◌, if◌then◌else◌, ℕ, ℤ, negsuc, Bool, true, false, IsTrue, List, Option}
use Rattle.std.specs.Prelude.{Some, None, is_none, is_some, length, not, nat_lt, slice_get}
use Rattle.macs_commands.specs.Talks.{Talk, Heard, Said, Slept, Looked}
use Rattle.macs_commands.specs.declared.requests.clients.Heard.{Heard as HeardLine}
use Rattle.macs_control.specs.Hearings.{HearsFirst, Says}
use Rattle.macs_control.specs.Links.{Link}
use Rattle.macs_control.specs.Newcomers.{Greets, GreetsOne, LeavesNobody}
use Rattle.macs_control.specs.Places.{IsEmpty, KeepsCounts, PassesSecond, has_room, places_of, seat_in, second_of}
use Rattle.macs_control.specs.Places.{standing_in}
use Rattle.macs_control.specs.Seats.{connection_of}
use Rattle.macs_control.specs.Seconds.{LooksAtClock}
use Rattle.macs_control.specs.Standings.{has_ended}
use Rattle.macs_control.specs.declared.control_socket.ControlSocket.{ControlSocket}
use Rattle.macs_control.specs.declared.place.Place.{Place}
use Rattle.macs_control.specs.declared.seats.Seats.{Seats}
use Rattle.macs_control.specs.declared.watch.Watch.{Watch}
use Rattle.macs_control.specs.declared.watch.Sockets.{Sockets}

-- before the first call: there are no clients, and a door exactly if a name is given
pub record IsUnused {T L S : Type 0} (named : Bool) (sockets : Sockets) (limit : ℕ) (socket : ControlSocket T L S)
    : Type 0 where
  pub listens : is_some socket.door ≡ named
  pub sleeps : (socket.sockets ≡ sockets) × (socket.limit ≡ limit)
  pub empty : IsEmpty socket.seats
  pub looks : socket.second.last ≡ None
  pub heard : socket.has_heard ≡ false
  pub still : socket.is_still ≡ false

-- ---- hearing

-- no line was heard, four have places, and one of them is idle
abbrev pub gives_place : {S : Type 0} → Option HeardLine → Seats S → Bool
gives_place heard seats = is_none heard && not (nat_lt (length (places_of seats)) 4)
    && has_room (second_of seats) (places_of seats)

-- then the next newcomer gets the place of the first that is idle
abbrev pub DisplacesIf : {S : Type 0} → Bool → Option (List S) → Seats S → Option (List S) → Seats S → Type 0
DisplacesIf true before old after new = (came : Bool) × GreetsOne before old came after new
DisplacesIf false before old after new = (after ≡ before) × (new ≡ old)

-- newcomers are greeted while places are free, clients are heard up to the first line, and one may be displaced
pub record HearsAll {S : Type 0} (link : S → Option Link) (before : Option (List S)) (old : Seats S)
    (heard : Option HeardLine) (after : Option (List S)) (new : Seats S) : Type 0 where
  pub between : Option (List S)
  pub greeted : Seats S
  pub asked : Seats S
  pub greets : Greets before old between greeted
  pub all : LeavesNobody between greeted
  pub hears : HearsFirst link (second_of greeted) (places_of greeted) heard (places_of asked)
  pub counts : KeepsCounts greeted asked
  pub displaces : DisplacesIf (gives_place heard asked) between asked after new

-- clients are looked at if there is a door, unless they are skipped
abbrev pub HearsIf : {L S : Type 0} → (L → Option (List S)) → (L → ℤ) → (S → Option Link) → Bool → Option L → Seats S
    → Option HeardLine → Option L → Seats S → Type 0
HearsIf waiting number link false (Some old) seats heard (Some new) after =
    HearsAll link (waiting old) seats heard (waiting new) after × (number new ≡ number old)
HearsIf waiting number link false (Some old) seats heard None after = ⊥
HearsIf waiting number link false None seats heard new after = (heard ≡ None) × (new ≡ None) × (after ≡ seats)
HearsIf waiting number link true old seats heard new after = (heard ≡ None) × (new ≡ old) × (after ≡ seats)

-- ---- what is watched

-- the socket of the client at a place, or none: nothing more arrives from one that sends no more
abbrev pub socket_of : {S : Type 0} → (S → ℤ) → Option (Place S) → ℤ
socket_of number None = negsuc 0
socket_of number (Some place) =
    if has_ended (standing_in place) then negsuc 0 else number (connection_of (seat_in place))

-- the listening socket, if a newcomer finds a place, or none
abbrev pub greeting_of : {L : Type 0} → (L → ℤ) → Option L → Bool → ℤ
greeting_of number None room = negsuc 0
greeting_of number (Some door) room = if room then number door else negsuc 0

-- the relay's own sockets, the listening socket and the four clients
abbrev pub watch_of : {T L S : Type 0} → (L → ℤ) → (S → ℤ) → ControlSocket T L S → Watch
watch_of door client socket = record {
  sockets = socket.sockets;
  listener = greeting_of door socket.door (has_room (second_of socket.seats) (places_of socket.seats));
  first = socket_of client (slice_get (places_of socket.seats) 0);
  second = socket_of client (slice_get (places_of socket.seats) 1);
  third = socket_of client (slice_get (places_of socket.seats) 2);
  fourth = socket_of client (slice_get (places_of socket.seats) 3);
}

-- ---- a call

-- a sleep: none after a line; otherwise clients are skipped once after it only if a newcomer would find a place
abbrev pub SleepsIf : {T L S : Type 0} → Bool → ControlSocket T L S → ControlSocket T L S → Type 0
SleepsIf true old new = new ≡ old
SleepsIf false old new = (new ≡ record old { is_still = new.is_still })
    × (IsTrue new.is_still → IsTrue (has_room (second_of old.seats) (places_of old.seats)))

-- What a call does. After a sleep that only a wire ended no client is looked at, nor without a door; the process is
-- asked whether it is to end only if a second has ended
abbrev pub Serves : {T L S : Type 0} → (L → Option (List S)) → (L → ℤ) → (S → Option Link) → ControlSocket T L S → Talk
    → ControlSocket T L S → Type 0
Serves waiting number link old (Heard heard) new =
    HearsIf waiting number link old.is_still old.door old.seats heard new.door new.seats
    × (new ≡ record old { door = new.door; seats = new.seats; has_heard = is_some heard; is_still = false })
Serves waiting number link old (Said client text) new =
    Says link (second_of old.seats) client text (places_of old.seats) (places_of new.seats)
    × KeepsCounts old.seats new.seats × (new ≡ record old { seats = new.seats })
Serves waiting number link old Slept new = SleepsIf old.has_heard old new
Serves waiting number link old (Looked ended) new =
    ((ended ≡ false) × LooksAtClock old.second.last false new.second.last × (new ≡ record old { second = new.second }))
    ⊎ (LooksAtClock old.second.last true new.second.last × PassesSecond old.seats new.seats
    × (new ≡ record old { seats = new.seats; second = new.second }))
