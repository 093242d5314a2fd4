-- Clients with their connections.
use Rattle.std.specs.Prelude.{ℕ, List, length}
use Rattle.macs_commands.specs.Inboxes.{octets_in}
use Rattle.macs_commands.specs.declared.requests.clients.Client.{Client}
use Rattle.macs_control.specs.declared.seat.Seat.{Seat}
use Rattle.macs_control.specs.declared.seats.Seats.{Seats}

-- which client has a seat
abbrev pub client_of : {S : Type 0} → Seat S → Client
client_of seat = seat.client

-- its connection
abbrev pub connection_of : {S : Type 0} → Seat S → S
connection_of seat = seat.connection

-- the octets taken from it that do not form a line yet
abbrev pub held_by : {S : Type 0} → Seat S → List ℕ
held_by seat = octets_in seat.inbox

-- how many clients there are
abbrev pub seat_count : {S : Type 0} → Seats S → ℕ
seat_count seats = length seats.places.items
