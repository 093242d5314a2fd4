use Rattle.std.proofs.Common.{◌++◌, Err, Ok, refl}
use Rattle.std.proofs.lemmas.Result.{err_from_is_err_and}
use Rattle.macs_edge.specs.Attending.{IsAttended, failed_of}
use Rattle.macs_edge.specs.Relaying.{empty_lane, lane_value, relay_of}
use Rattle.macs_commands.proofs.InTurns.{and-then}
use Rattle.macs_edge.proofs.Attended.{attends-begun}
use Rattle.macs_edge.proofs.Lived.{lives-attended}
use Rattle.macs_edge.proofs.attending.attend.Goals as goal

pub returns-in_err-ended : goal.returns-in_err-ended
returns-in_err-ended g c =
    let risen = err_from_is_err_and c.from_residual.result c.from_residual.ensures.1 in
    let start = relay_of c.args.endpoint.now (g.P.Wire.state c.args.controlled.now) (g.C.Wire.state c.args.common.now)
    empty_lane empty_lane in
    let after = c.attend_turns-ended.new in
    let last = relay_of after.endpoint (g.P.Wire.state after.controlled) (g.C.Wire.state after.common)
    (lane_value after.to_common) (lane_value after.to_controlled) in
    let during = c.in_err-ended.ensures.0 in
    let events = during ++ failed_of after.endpoint.waiting in
    let attended : IsAttended g.D.SectorDisk.disk c.args.turns start events c.from_residual.result after.endpoint
    (g.P.Wire.state after.controlled) (g.C.Wire.state after.common) =
    rw (risen.1, risen.2) (
      lane_value after.to_common,
      lane_value after.to_controlled,
      (
        during,
        c.in_err-ended.field-0.0,
        refl,
        attends-begun g.D.SectorDisk.disk c.args.turns c.args.endpoint.now (g.P.Wire.state c.args.controlled.now)
            (g.C.Wire.state c.args.common.now)
            (lane_value c.new-to_common.result) (lane_value c.new-to_controlled.result) during
            (Err c.in_err-ended.field-0.0) last
            c.new-to_common.ensures c.new-to_controlled.ensures c.in_err-ended.ensures.1,
        refl,
      ),
      tt,
    ) in
    record {
      attended = (
        events,
        attended,
        and-then g.K.Desk.hears c.args.desk.now after.desk c.close.new.desk during
            (failed_of after.endpoint.waiting) c.in_err-ended.ensures.2 c.close.ensures,
      );
      lives = lives-attended g.D.SectorDisk.disk c.args.turns start events c.from_residual.result after.endpoint
          (g.P.Wire.state after.controlled) (g.C.Wire.state after.common) attended;
    }

pub returns : goal.returns
returns g c =
    let start = relay_of c.args.endpoint.now (g.P.Wire.state c.args.controlled.now) (g.C.Wire.state c.args.common.now)
    empty_lane empty_lane in
    let after = c.attend_turns-ended.new in
    let last = relay_of after.endpoint (g.P.Wire.state after.controlled) (g.C.Wire.state after.common)
    (lane_value after.to_common) (lane_value after.to_controlled) in
    let during = c.in_ok-ended.ensures.0 in
    let events = during ++ failed_of after.endpoint.waiting in
    let attended : IsAttended g.D.SectorDisk.disk c.args.turns start events (Ok c.summed.result) after.endpoint
    (g.P.Wire.state after.controlled) (g.C.Wire.state after.common) = (
      lane_value after.to_common,
      lane_value after.to_controlled,
      (
        during,
        attends-begun g.D.SectorDisk.disk c.args.turns c.args.endpoint.now (g.P.Wire.state c.args.controlled.now)
            (g.C.Wire.state c.args.common.now)
            (lane_value c.new-to_common.result) (lane_value c.new-to_controlled.result) during (Ok tt) last
            c.new-to_common.ensures c.new-to_controlled.ensures c.in_ok-ended.ensures.1,
        refl,
      ),
      c.summed.ensures,
    ) in
    record {
      attended = (
        events,
        attended,
        and-then g.K.Desk.hears c.args.desk.now after.desk c.close.new.desk during
            (failed_of after.endpoint.waiting) c.in_ok-ended.ensures.2 c.close.ensures,
      );
      lives = lives-attended g.D.SectorDisk.disk c.args.turns start events (Ok c.summed.result) after.endpoint
          (g.P.Wire.state after.controlled) (g.C.Wire.state after.common) attended;
    }
