use Rattle.std.proofs.Common.{Option, None, ℕ}
use Rattle.macs_edge.specs.Relaying.{empty_lane, relay_of}
use Rattle.macs_edge.proofs.LeftAlone.{unattended-relayed}
use Rattle.macs_edge.proofs.unattended.relay.Goals as goal

pub returns-clause-relayed : goal.returns-clause-relayed
returns-clause-relayed g c =
    let (events, attended, heard) = c.attend.ensures.attended in
    unattended-relayed g.D.SectorDisk.disk (λ nobody. None) _ _ c.args.turns
    (relay_of c.args.endpoint.now (g.P.Wire.state c.args.controlled.now) (g.C.Wire.state c.args.common.now) empty_lane
    empty_lane)
    events c.attend.result c.attend.new.endpoint (g.P.Wire.state c.attend.new.controlled)
    (g.C.Wire.state c.attend.new.common) attended heard
