use Rattle.macs_control.proofs.HearingTurns.{SoFar}
use Rattle.macs_control.specs.Places.{KeepsCounts, places_of, second_of}
use Rattle.macs_control.proofs.seats.Seats.hear.Given as goal

abbrev pub invariant-loop-place : goal.invariant-loop-place
invariant-loop-place g l = record {
  so_far : SoFar g.S.Connection.link (second_of l.fn.self) (places_of l.fn.self) (places_of l.self) l._place l.at;
  counts : KeepsCounts l.fn.self l.self;
}
