use Rattle.std.proofs.Common.{◌≡◌, ◌≤◌, ◌<◌, ◌-◌, ◌^◌, length}
use Rattle.macs_control.specs.Newcomers.{Greets}
use Rattle.macs_control.specs.Places.{last_of, places_of}
use Rattle.macs_control.proofs.control_socket.greet.Given as goal

abbrev pub invariant-loop-place : goal.invariant-loop-place
invariant-loop-place g l = record {
  greets : Greets (g.L.Door.waiting l.fn.door) l.fn.seats (g.L.Door.waiting l.door) l.seats;
  same : g.L.Watched.number l.door ≡ g.L.Watched.number l.fn.door;
  few : length (places_of l.seats) ≤ l._place;
  many : last_of l.seats < 2 ^ 64 - 1 → l._place ≤ length (places_of l.seats);
}
