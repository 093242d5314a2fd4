use Rattle.std.proofs.Common.{None, false}
use Rattle.macs_edge.proofs.LeftAlone.{unattended-relayed}
use Rattle.macs_program.proofs.Relayed.{frames-relayed}
use Rattle.macs_program.specs.Relaying.{course_with}
use Rattle.macs_program.proofs.relay.RelayWires.leave_alone.Goals as goal

pub returns : goal.returns
returns g c =
    let (controlled, common, run) = c.relay.ensures in
    let (answer, events, relayed, ended, attended, heard, ends, reported) = run in
    frames-relayed _ _ _ (course_with g.row.T.Denot false c.args.self.disk.now c.args.self.running) _ _ ended _
    controlled common _ _ (
      answer,
      relayed,
      unattended-relayed g.D.SectorDisk.disk (λ nobody. None) _ _ _ _ events answer relayed controlled common attended
          heard,
      ends,
    ) reported
