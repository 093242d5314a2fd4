use Rattle.std.proofs.Common.{◌∙◌, sym, arith}
use Rattle.std.proofs.lemmas.Result.{err_from_is_err_and}
use Rattle.macs_store.proofs.EachStep.{stopped-finishes, way-done, way-failed, way-more, way-start}
use Rattle.macs_store.proofs.store.Store.finish.Goals as goal

pub returns-then-is_stopped : goal.returns-then-is_stopped
returns-then-is_stopped g c =
    stopped-finishes g.D.SectorDisk.disk c.args.self.now (sym c.is_stopped.ensures ∙ c.if-is_stopped.true)

pub loop-self-init : goal.loop-self-init
loop-self-init g c = way-start g.D.SectorDisk.disk c.args.self.now (sym c.is_stopped.ensures ∙ c.if-is_stopped.false)

pub loop-self-preserved : goal.loop-self-preserved
loop-self-preserved g c =
    way-more g.D.SectorDisk.disk c.args.self.now c.loop-self.self c.loop-self.invariant
    (c.has_work.ensures.busy c.loop-self-test.true)
    c.in_ok-step.field-0 c.step.new.self c.in_ok-step.ensures

pub loop-self-smaller : goal.loop-self-smaller
loop-self-smaller g c = let less = c.in_ok-step.ensures.left (c.has_work.ensures.busy c.loop-self-test.true) in
    omega (arith, less)

pub returns-in_err-step : goal.returns-in_err-step
returns-in_err-step g c =
    let risen = err_from_is_err_and c.from_residual.result c.from_residual.ensures.1 in
    rw (risen.1, risen.2)
    (way-failed g.D.SectorDisk.disk c.args.self.now c.loop-self.self c.loop-self.invariant
    (c.has_work.ensures.busy c.loop-self-test.true)
    (c.has_work.ensures.some c.loop-self-test.true) c.in_err-step.field-0.0 c.step.new.self c.in_err-step.ensures)

pub returns : goal.returns
returns g c = way-done g.D.SectorDisk.disk c.args.self.now c.loop-self.self c.loop-self.invariant
    (c.has_work.ensures.idle c.loop-self-test.false)
