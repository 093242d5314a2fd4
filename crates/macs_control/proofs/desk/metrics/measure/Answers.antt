use Rattle.std.proofs.Common.{true, false, [], ◌∷◌, inl, inr, refl}
use Rattle.macs_commands.specs.Talks.{Asked}
use Rattle.macs_commands.proofs.Written.{all_of_it, its_room}
use Rattle.macs_control.specs.Listening.{measured_of, put, report_room}
use Rattle.macs_control.proofs.Talking.{unwritten, written}
use Rattle.macs_control.proofs.desk.metrics.measure.Goals as goal

pub returns-then-not-is_due-clause-notes : goal.returns-then-not-is_due-clause-notes
returns-then-not-is_due-clause-notes g c =
    (Asked false ∷ [], inl refl, (c.is_due.new.self, c.if-not-is_due.ensures, refl))

pub returns-in-Some-clause-notes : goal.returns-in-Some-clause-notes
returns-in-Some-clause-notes g c =
    let told = c.measured.ensures in
    let text = measured_of c.args.build.now c.args.endpoint.now c.args.controlled.now c.args.common.now told.0 in
    let blank = rw c.requires at c.clear.ensures in
    let room = its_room report_room c.clear.new.self c.measured.new.paper text blank told.2 in (
      Asked true ∷ put text,
      inr (told.0, told.1, refl),
      written g.M.Metrics.does c.args.metrics.now c.is_due.new.self c.put.new.self c.in-Some.text.now text
          (rw room at (c.in-Some.ensures text
          (all_of_it report_room c.clear.new.self c.measured.new.paper text blank told.2)))
          c.if-not-is_due.ensures c.put.ensures,
    )

pub returns-in-None-clause-notes : goal.returns-in-None-clause-notes
returns-in-None-clause-notes g c =
    let told = c.measured.ensures in
    let text = measured_of c.args.build.now c.args.endpoint.now c.args.controlled.now c.args.common.now told.0 in
    let blank = rw c.requires at c.clear.ensures in
    let room = its_room report_room c.clear.new.self c.measured.new.paper text blank told.2 in (
      Asked true ∷ put text,
      inr (told.0, told.1, refl),
      unwritten g.M.Metrics.does c.args.metrics.now c.is_due.new.self text
          (rw room at (c.in-None.ensures text
          (all_of_it report_room c.clear.new.self c.measured.new.paper text blank told.2)))
          c.if-not-is_due.ensures,
    )

pub returns-in-Some-clause-room : goal.returns-in-Some-clause-room
returns-in-Some-clause-room g c = its_room report_room c.clear.new.self c.measured.new.paper _
    (rw c.requires at c.clear.ensures) c.measured.ensures.2

pub returns-in-None-clause-room : goal.returns-in-None-clause-room
returns-in-None-clause-room g c = its_room report_room c.clear.new.self c.measured.new.paper _
    (rw c.requires at c.clear.ensures) c.measured.ensures.2
