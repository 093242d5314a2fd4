use Rattle.std.proofs.Common.{◌<◌, ◌+◌, ◌-◌, ◌^◌, refl, arith}
use Rattle.std.proofs.lemmas.Result.{err_from_is_err_and}
use Rattle.macs_pcap.specs.Faults.{max_records}
use Rattle.macs_edge.specs.CaptureRuns.{run_of}
use Rattle.macs_edge.specs.Telling.{telling_of}
use Rattle.macs_edge.proofs.Behind.{none-taken, taken-all, taken-few, taken-more, taken-room, taken-stops}
use Rattle.macs_edge.proofs.capture_runs.run_records.Goals as goal

pub loop-passes-init : goal.loop-passes-init
loop-passes-init g c =
    none-taken g.D.SectorDisk.disk g.V.Verdicts.tells c.args.side c.args.big
    (run_of c.args.endpoint.now (g.R.Source.state c.args.source.now) (g.W.Sink.state c.args.sink.now))
    (telling_of c.args.told.now c.args.to.now) _ (refl {a = 0}) (refl {a = 0})

pub returns-in_err-passes : goal.returns-in_err-passes
returns-in_err-passes g c =
    let risen = err_from_is_err_and c.from_residual.result c.from_residual.ensures.1 in
    rw (risen.1, risen.2)
    (taken-stops g.D.SectorDisk.disk g.V.Verdicts.tells c.args.side c.args.big
    (run_of c.args.endpoint.now (g.R.Source.state c.args.source.now) (g.W.Sink.state c.args.sink.now))
    (run_of c.loop-passes.endpoint (g.R.Source.state c.loop-passes.source) (g.W.Sink.state c.loop-passes.sink))
    (run_of c.take_next.new.endpoint (g.R.Source.state c.take_next.new.source) (g.W.Sink.state c.take_next.new.sink))
    (telling_of c.args.told.now c.args.to.now) (telling_of c.loop-passes.told c.loop-passes.to)
    c.loop-passes.count c.loop-passes.summary c.in_err-passes.field-0.0 c.loop-passes.invariant c.in_err-passes.ensures)

pub counted-summary-requires : goal.counted-summary-requires
counted-summary-requires g c =
    let few = taken-few g.D.SectorDisk.disk g.V.Verdicts.tells c.args.side c.args.big
    (run_of c.args.endpoint.now (g.R.Source.state c.args.source.now) (g.W.Sink.state c.args.sink.now))
    (run_of c.loop-passes.endpoint (g.R.Source.state c.loop-passes.source) (g.W.Sink.state c.loop-passes.sink))
    (telling_of c.args.told.now c.args.to.now) (telling_of c.loop-passes.told c.loop-passes.to)
    c.loop-passes.count c.loop-passes.summary c.loop-passes.invariant in
    let room : c.loop-passes.count < max_records =
    taken-room g.D.SectorDisk.disk g.V.Verdicts.tells c.args.side c.args.big
    (run_of c.loop-passes.endpoint (g.R.Source.state c.loop-passes.source) (g.W.Sink.state c.loop-passes.sink))
    (run_of c.take_next.new.endpoint (g.R.Source.state c.take_next.new.source) (g.W.Sink.state c.take_next.new.sink))
    c.loop-passes.count c.in_ok-passes.field-0 c.in-Some.passes c.take_next.new.verdict c.in-Some.is
    c.in_ok-passes.ensures in
    omega (arith, few, room)

pub loop-passes-smaller : goal.loop-passes-smaller
loop-passes-smaller g c =
    let room : c.loop-passes.count < max_records =
    taken-room g.D.SectorDisk.disk g.V.Verdicts.tells c.args.side c.args.big
    (run_of c.loop-passes.endpoint (g.R.Source.state c.loop-passes.source) (g.W.Sink.state c.loop-passes.sink))
    (run_of c.take_next.new.endpoint (g.R.Source.state c.take_next.new.source) (g.W.Sink.state c.take_next.new.sink))
    c.loop-passes.count c.in_ok-passes.field-0 c.in-Some.passes c.take_next.new.verdict c.in-Some.is
    c.in_ok-passes.ensures in
    let less : 2 ^ 32 - (c.loop-passes.count + 1) < 2 ^ 32 - c.loop-passes.count = omega (arith, room) in
    less

pub loop-passes-preserved : goal.loop-passes-preserved
loop-passes-preserved g c =
    rw c.counted-summary.ensures
    (taken-more g.D.SectorDisk.disk g.V.Verdicts.tells c.args.side c.args.big
    (run_of c.args.endpoint.now (g.R.Source.state c.args.source.now) (g.W.Sink.state c.args.sink.now))
    (run_of c.loop-passes.endpoint (g.R.Source.state c.loop-passes.source) (g.W.Sink.state c.loop-passes.sink))
    (run_of c.take_next.new.endpoint (g.R.Source.state c.take_next.new.source) (g.W.Sink.state c.take_next.new.sink))
    (telling_of c.args.told.now c.args.to.now) (telling_of c.loop-passes.told c.loop-passes.to)
    (telling_of c.tell.new.told c.tell.new.to)
    c.loop-passes.count c.loop-passes.summary c.in_ok-passes.field-0 c.in-Some.passes c.take_next.new.verdict
    c.loop-passes.invariant c.in-Some.is c.in_ok-passes.ensures c.tell.ensures)

pub returns : goal.returns
returns g c =
    taken-all g.D.SectorDisk.disk g.V.Verdicts.tells c.args.side c.args.big
    (run_of c.args.endpoint.now (g.R.Source.state c.args.source.now) (g.W.Sink.state c.args.sink.now))
    (run_of c.loop-passes.endpoint (g.R.Source.state c.loop-passes.source) (g.W.Sink.state c.loop-passes.sink))
    (run_of c.take_next.new.endpoint (g.R.Source.state c.take_next.new.source) (g.W.Sink.state c.take_next.new.sink))
    (telling_of c.args.told.now c.args.to.now) (telling_of c.loop-passes.told c.loop-passes.to)
    c.loop-passes.count c.loop-passes.summary c.in_ok-passes.field-0 c.take_next.new.verdict c.loop-passes.invariant
    c.in_default.is c.in_ok-passes.ensures
