use Rattle.std.proofs.Common.{ℕ, List, true, false, Ok, Err, inr, refl, subst}
use Rattle.std.proofs.lemmas.Result.{err_from_is_err_and}
use Rattle.macs_pcap.specs.Records.{CaptureRecord, record_text}
use Rattle.macs_pcap.specs.Writing.{WritesText}
use Rattle.macs_edge.specs.Settling.{Halts, call_on}
use Rattle.macs_edge.specs.CaptureRuns.{run_of}
use Rattle.macs_edge.proofs.Behind.{next-dropped, next-passed, read_as, took}
use Rattle.macs_edge.proofs.capture_runs.take_next.Goals as goal

pub returns-in_err-passes : goal.returns-in_err-passes
returns-in_err-passes g c =
    let risen = err_from_is_err_and c.from_residual-in_err-passes.result c.from_residual-in_err-passes.ensures.1 in
    let taken : CaptureRecord = record { stamp = c.in-Some.stamp; frame = c.read_record.new.into.items } in
    let halts = subst (λ (f : List ℕ). Halts g.D.SectorDisk.disk c.args.endpoint.now (call_on c.args.side f)
    c.in_err-passes.field-0.0 c.settle.new.endpoint)
    c.deref.ensures.value c.in_err-passes.ensures.fault in
    let read = read_as c.args.big c.args.count _ (g.R.Source.state c.args.source.now)
    (g.R.Source.state c.read_record.new.source)
    c.read_record.new.into.items c.in_ok-stamp.field-0 c.in-Some.stamp c.in-Some.is c.in_ok-stamp.ensures in
    rw (risen.1, risen.2) (taken, _, read, halts, refl {a = g.W.Sink.state c.args.sink.now})

pub returns-in_err-write_record : goal.returns-in_err-write_record
returns-in_err-write_record g c =
    let risen =
    err_from_is_err_and c.from_residual-in_err-write_record.result c.from_residual-in_err-write_record.ensures.1 in
    let taken : CaptureRecord = record { stamp = c.in-Some.stamp; frame = c.read_record.new.into.items } in
    let writes = subst (λ (f : List ℕ).
    WritesText {T = Unit {0}} (g.W.Sink.state c.args.sink.now) (g.W.Sink.state c.write_record.new.sink)
    (record_text c.args.big c.in-Some.stamp f) (Err c.in_err-write_record.field-0.0)) c.as_slice.ensures.value
    c.in_err-write_record.ensures in
    let takes = took g.D.SectorDisk.disk c.args.side c.args.big c.args.count _
    (run_of c.args.endpoint.now (g.R.Source.state c.args.source.now) (g.W.Sink.state c.args.sink.now))
    (run_of c.settle.new.endpoint (g.R.Source.state c.read_record.new.source) (g.W.Sink.state c.write_record.new.sink))
    c.in_ok-stamp.field-0 c.in-Some.stamp c.read_record.new.into.items c.deref.result.now c.settle.new.out.items
    c.in_ok-passes.passes true c.settle.new.verdict
    c.in-Some.is c.deref.ensures.value c.if-passes.true c.in_ok-stamp.ensures c.in_ok-passes.ensures.settled in
    rw (risen.1, risen.2) (inr (taken, c.settle.new.out.items, takes.0, writes))

pub returns-in_ok-write_record : goal.returns-in_ok-write_record
returns-in_ok-write_record g c =
    let writes = subst (λ (f : List ℕ).
    WritesText {T = Unit {0}} (g.W.Sink.state c.args.sink.now) (g.W.Sink.state c.write_record.new.sink)
    (record_text c.args.big c.in-Some.stamp f) (Ok tt)) c.as_slice.ensures.value c.in_ok-write_record.ensures in
    let takes = took g.D.SectorDisk.disk c.args.side c.args.big c.args.count _
    (run_of c.args.endpoint.now (g.R.Source.state c.args.source.now) (g.W.Sink.state c.args.sink.now))
    (run_of c.settle.new.endpoint (g.R.Source.state c.read_record.new.source) (g.W.Sink.state c.write_record.new.sink))
    c.in_ok-stamp.field-0 c.in-Some.stamp c.read_record.new.into.items c.deref.result.now c.settle.new.out.items
    c.in_ok-passes.passes true c.settle.new.verdict
    c.in-Some.is c.deref.ensures.value c.if-passes.true c.in_ok-stamp.ensures c.in_ok-passes.ensures.settled in
    next-passed g.D.SectorDisk.disk c.args.side c.args.big c.args.count
    (run_of c.args.endpoint.now (g.R.Source.state c.args.source.now) (g.W.Sink.state c.args.sink.now))
    (run_of c.settle.new.endpoint (g.R.Source.state c.read_record.new.source) (g.W.Sink.state c.write_record.new.sink))
    (record { stamp = c.in-Some.stamp; frame = c.read_record.new.into.items }) c.settle.new.out.items
    c.in_ok-passes.passes c.settle.new.verdict
    c.if-passes.true takes
    writes.whole writes.write.done

pub returns-else-passes : goal.returns-else-passes
returns-else-passes g c =
    let takes = took g.D.SectorDisk.disk c.args.side c.args.big c.args.count _
    (run_of c.args.endpoint.now (g.R.Source.state c.args.source.now) (g.W.Sink.state c.args.sink.now))
    (run_of c.settle.new.endpoint (g.R.Source.state c.read_record.new.source) (g.W.Sink.state c.args.sink.now))
    c.in_ok-stamp.field-0 c.in-Some.stamp c.read_record.new.into.items c.deref.result.now c.settle.new.out.items
    c.in_ok-passes.passes false c.settle.new.verdict
    c.in-Some.is c.deref.ensures.value c.if-passes.false c.in_ok-stamp.ensures c.in_ok-passes.ensures.settled in
    next-dropped g.D.SectorDisk.disk c.args.side c.args.big c.args.count
    (run_of c.args.endpoint.now (g.R.Source.state c.args.source.now) (g.W.Sink.state c.args.sink.now))
    (run_of c.settle.new.endpoint (g.R.Source.state c.read_record.new.source) (g.W.Sink.state c.args.sink.now))
    (record { stamp = c.in-Some.stamp; frame = c.read_record.new.into.items }) c.in_ok-passes.passes
    c.settle.new.verdict c.if-passes.false takes
    (refl {a = g.W.Sink.state c.args.sink.now})
