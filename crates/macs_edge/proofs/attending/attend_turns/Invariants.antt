-- so many turns were taken, with what passed between the relay and its desk
use Rattle.std.proofs.Common.{◌≤◌, List}
use Rattle.macs_edge.specs.Attending.{TakesAllAttended}
use Rattle.macs_commands.specs.InTurn.{InTurn}
use Rattle.macs_edge.specs.declared.attending.DeskEvent.{DeskEvent}
use Rattle.macs_edge.specs.Relaying.{lane_value, relay_of}
use Rattle.macs_edge.proofs.attending.attend_turns.Given as goal

abbrev pub invariant-loop : goal.invariant-loop
invariant-loop g l = (l.counter ≤ l.turns) × ((events : List DeskEvent) × TakesAllAttended g.D.SectorDisk.disk l.counter
    (relay_of l.fn.endpoint (g.P.Wire.state l.fn.controlled) (g.C.Wire.state l.fn.common) (lane_value l.fn.to_common)
    (lane_value l.fn.to_controlled))
    events l.is_quiet
    (relay_of l.endpoint (g.P.Wire.state l.controlled) (g.C.Wire.state l.common) (lane_value l.to_common)
    (lane_value l.to_controlled))
    × InTurn g.K.Desk.hears l.fn.desk events l.desk)
