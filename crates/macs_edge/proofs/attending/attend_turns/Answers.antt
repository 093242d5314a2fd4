use Rattle.std.proofs.Common.{[], ◌++◌, arith, inr, refl, ap, sym, subst}
use Rattle.std.proofs.lemmas.Result.{err_from_is_err_and}
use Rattle.macs_edge.specs.Attending.{TakesAllAttended, answers_of, rests_after}
use Rattle.macs_edge.specs.Relaying.{lane_value, relay_of}
use Rattle.macs_commands.specs.InTurn.{InTurn}
use Rattle.macs_commands.proofs.InTurns.{and-then}
use Rattle.macs_edge.proofs.Attended.{attended-more, obeys-end}
use Rattle.macs_edge.proofs.attending.attend_turns.Goals as goal

pub loop-init : goal.loop-init
loop-init g c = (omega arith, ([], (refl, refl, refl), refl))

pub returns-then-not-obey : goal.returns-then-not-obey
returns-then-not-obey g c =
    let start = relay_of c.args.endpoint.now (g.P.Wire.state c.args.controlled.now) (g.C.Wire.state c.args.common.now)
    (lane_value c.args.to_common.now) (lane_value c.args.to_controlled.now) in
    let earlier = c.loop.invariant.1.0 in
    let last = c.if-not-obey.ensures.0 in
    let ends = obeys-end g.D.SectorDisk.disk c.loop.is_quiet c.loop.endpoint c.obey.new.endpoint last
    c.if-not-obey.ensures.1 in (
      earlier ++ last,
      (
        c.loop.counter,
        earlier,
        c.loop.is_quiet,
        subst (λ (e : _). TakesAllAttended g.D.SectorDisk.disk c.loop.counter start earlier c.loop.is_quiet
            (relay_of e (g.P.Wire.state c.loop.controlled) (g.C.Wire.state c.loop.common)
            (lane_value c.loop.to_common) (lane_value c.loop.to_controlled)))
            (sym ends.1) c.loop.invariant.1.1,
        inr (c.loop-test.true, ap (λ (l : _). earlier ++ l) ends.0),
      ),
      and-then g.K.Desk.hears c.args.desk.now c.loop.desk c.obey.new.desk earlier last c.loop.invariant.1.2
          c.if-not-obey.ensures.2,
    )

pub returns-in_err-step : goal.returns-in_err-step
returns-in_err-step g c =
    let risen = err_from_is_err_and c.from_residual.result c.from_residual.ensures.1 in
    let between = relay_of c.loop.endpoint (g.P.Wire.state c.loop.controlled) (g.C.Wire.state c.loop.common)
    (lane_value c.loop.to_common) (lane_value c.loop.to_controlled) in
    let earlier = c.loop.invariant.1.0 in
    let last = c.if-not-obey.ensures.0 in
    rw (risen.1, risen.2) (
      earlier ++ last,
      (
        c.loop.counter,
        between,
        earlier,
        c.loop.is_quiet,
        last,
        c.obey.new.endpoint,
        c.loop-test.true,
        c.loop.invariant.1.1,
        c.if-not-obey.ensures.1,
        c.in_err-step.ensures,
        refl,
      ),
      and-then g.K.Desk.hears c.args.desk.now c.loop.desk c.obey.new.desk earlier last c.loop.invariant.1.2
          c.if-not-obey.ensures.2,
    )

pub loop-preserved : goal.loop-preserved
loop-preserved g c =
    let start = relay_of c.args.endpoint.now (g.P.Wire.state c.args.controlled.now) (g.C.Wire.state c.args.common.now)
    (lane_value c.args.to_common.now) (lane_value c.args.to_controlled.now) in
    let between = relay_of c.loop.endpoint (g.P.Wire.state c.loop.controlled) (g.C.Wire.state c.loop.common)
    (lane_value c.loop.to_common) (lane_value c.loop.to_controlled) in
    let earlier = c.loop.invariant.1.0 in
    let before = c.if-not-obey.ensures.0 in
    let told = answers_of c.in_ok-step.step in
    let heard = and-then g.K.Desk.hears in (
      omega (arith, c.loop-test.true),
      (
        earlier ++ (before ++ told) ++ rests_after c.was_quiet-is_quiet.result,
        attended-more g.D.SectorDisk.disk c.loop.counter start between _ earlier (before ++ told) c.loop.is_quiet
            c.was_quiet-is_quiet.result c.in_ok-step.step
            c.loop.invariant.1.1 (before, c.obey.new.endpoint, c.if-not-obey.ensures.1, c.in_ok-step.ensures, refl)
            c.was_quiet-is_quiet.ensures,
        subst (λ (k : _). InTurn g.K.Desk.hears c.args.desk.now
            (earlier ++ (before ++ told) ++ rests_after c.was_quiet-is_quiet.result) k) (sym c.pause.ensures)
            (heard c.args.desk.now c.tell.new.desk c.rest.new.desk (earlier ++ (before ++ told))
            (rests_after c.was_quiet-is_quiet.result)
            (heard c.args.desk.now c.loop.desk c.tell.new.desk earlier (before ++ told) c.loop.invariant.1.2
            (heard c.loop.desk c.obey.new.desk c.tell.new.desk before told c.if-not-obey.ensures.2 c.tell.ensures))
            c.rest.ensures),
      ),
    )
