use Rattle.std.specs.declared.io.Error.{Error}
use Rattle.macs_edge.proofs.ByDatagrams.{send-failed, whole-sent}
use Rattle.macs_edge.proofs.udp_wire.gave.Goals as goal

pub returns-in-Ok : goal.returns-in-Ok
returns-in-Ok g c = whole-sent Error _ _ _ _ _ c.in-Ok.ensures.given

pub returns-in-Err : goal.returns-in-Err
returns-in-Err g c = send-failed _ _ _ _ _ c.in-Err.ensures.given
