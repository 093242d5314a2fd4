use Rattle.macs_edge.specs.CaptureRuns.{run_of}
use Rattle.macs_program.proofs.Captured.{captured}
use Rattle.macs_offline.proofs.NoneWaits.{run-not-busy}
use Rattle.macs_program.proofs.capturing.run_capture.Goals as goal

pub flush_after-requires : goal.flush_after-requires
flush_after-requires g c =
    run-not-busy g.D.SectorDisk.disk c.args.side
    (run_of c.args.endpoint.now (g.R.Source.state c.args.source.now) (g.W.Sink.state c.args.sink.now))
    (run_of c.run_side-answer.new.endpoint (g.R.Source.state c.run_side-answer.new.source)
    (g.W.Sink.state c.run_side-answer.new.sink))
    c.run_side-answer.result c.requires c.run_side-answer.ensures

pub returns-clause-runs : goal.returns-clause-runs
returns-clause-runs g c =
    captured g.D.SectorDisk.disk
    (run_of c.args.endpoint.now (g.R.Source.state c.args.source.now) (g.W.Sink.state c.args.sink.now))
    c.run_side-answer.new.endpoint (g.R.Source.state c.run_side-answer.new.source)
    (g.W.Sink.state c.run_side-answer.new.sink) (g.W.Sink.state c.flush_after.new.sink)
    c.run_side-answer.result c.args.side c.flush_after.result c.run_side-answer.ensures c.flush_after.ensures.ended
