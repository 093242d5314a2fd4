use Rattle.std.proofs.Common.{refl, true}
use Rattle.std.proofs.lemmas.Result.{err_from_is_err_and}
use Rattle.macs_program.proofs.Relayed.{frames-relayed, lacks-desk, no-desk}
use Rattle.macs_program.specs.Relaying.{course_with}
use Rattle.macs_program.proofs.relay.RelayWires.attend.Goals as goal

pub returns-in_err-desk : goal.returns-in_err-desk
returns-in_err-desk g c =
    let p = err_from_is_err_and c.from_residual.result c.from_residual.ensures.1 in
    no-desk _ _ _ (course_with g.row.T.Denot true c.args.self.disk.now c.args.self.running) _ _ refl
    c.in_err-desk.field-0.0 p.0 c.from_residual.result p.1 p.2 (lacks-desk _ _ c.in_err-desk.ensures.failed)

pub returns : goal.returns
returns g c =
    let (controlled, common, run) = c.serve-result.ensures in
    let (answer, events, relayed, ended, attended, served, ends, reported) = run in
    frames-relayed _ _ _ (course_with g.row.T.Denot true c.args.self.disk.now c.args.self.running) _ _ ended _
    controlled common _ _ (
      answer,
      relayed,
      (
        events,
        attended,
        record {
          sockets = c.sockets.result;
          before = c.in_ok-desk.desk;
          after = c.serve-result.new.desk;
          is_new = c.in_ok-desk.ensures.new;
          serves = served;
        },
      ),
      ends,
    ) reported
