use Rattle.std.proofs.Common.{◌≡◌, ◌∙◌, true, false, [], ap, refl, sym}
use Rattle.macs_texts.specs.declared.program.Program.{Program}
use Rattle.macs_control.specs.Listening.{is_time, measured_of, reports_of}
use Rattle.macs_control.specs.Unanswered.{entries_of, is_full}
use Rattle.macs_control.proofs.Looking.{looks-in-time, measures-in-time, same-measured, same-reports}
use Rattle.macs_control.proofs.desk.control_desk.ControlDeskDesk.next.Goals as goal

pub returns-clause-talk : goal.returns-clause-talk
returns-clause-talk g c =
    let time : is_time c.args.was_quiet c.args.self.now.turns_left ≡ true =
    sym c.is_time.ensures ∙ c.if-not-is_time.false in
    looks-in-time g.C.Clients.does _ c.args.was_quiet (is_full (entries_of c.args.self.now.unanswered))
    c.is_full.result _ _ _ _ _
    c.args.self.now.clients c.rest.new.clients c.look-order.new.clients time c.is_full.ensures.full
    (same-reports c.note_good.new.program (g.S.Overruns.known c.args.self.now.system)
    (g.S.KeyNotes.answers c.args.self.now.system) c.args.endpoint.now _ _ _ _ c.counts-controlled.ensures
    c.counts-common.ensures)
    c.rest.ensures c.look-order.ensures.looks

pub returns-clause-notes : goal.returns-clause-notes
returns-clause-notes g c =
    let time : is_time c.args.was_quiet c.args.self.now.turns_left ≡ true =
    sym c.is_time.ensures ∙ c.if-not-is_time.false in
    measures-in-time g.M.Metrics.does _ (g.S.Overruns.known c.args.self.now.system) _ _ c.args.self.now.metrics
    c.measure.new.metrics time
    (ap (λ (p : Program). measured_of p.build c.args.endpoint.now c.counts-controlled.result c.counts-common.result)
    c.note_good.ensures.same
    ∙ same-measured c.args.self.now.program.build c.args.endpoint.now _ _ _ _ c.counts-controlled.ensures
    c.counts-common.ensures) c.measure.ensures.notes

pub returns-clause-hears : goal.returns-clause-hears
returns-clause-hears g c =
    let (talk, looks, passed) = returns-clause-talk g c in
    (talk, (is_time c.args.was_quiet c.args.self.now.turns_left, _, looks, refl), passed)

pub returns-then-not-is_time-clause-hears : goal.returns-then-not-is_time-clause-hears
returns-then-not-is_time-clause-hears g c =
    let desk = c.args.self.now in
    let reports =
    reports_of desk.program (g.S.Overruns.known desk.system) (g.S.KeyNotes.answers desk.system) c.args.endpoint.now
    (g.P.Counted.wire_counts c.args.controlled.now) (g.W.Counted.wire_counts c.args.common.now) in
    ([], (false, reports, (refl, refl, refl), refl), refl)
