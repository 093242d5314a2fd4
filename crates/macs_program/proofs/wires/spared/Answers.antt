use Rattle.std.proofs.Common.{◌∙◌, ap}
use Rattle.macs_edge.specs.SparedSockets.{over_socket}
use Rattle.macs_edge.specs.UdpWires.{socket_of}
use Rattle.macs_program.proofs.wires.spared.Goals as goal

pub returns-clause-spared : goal.returns-clause-spared
returns-clause-spared c = (
  c.sparing.ensures.socket ∙ ap (over_socket (socket_of c.args.wire)) c.left_out.ensures,
  c.sparing.ensures.peer,
)
