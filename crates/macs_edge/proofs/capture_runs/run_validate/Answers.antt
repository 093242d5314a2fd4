use Rattle.macs_edge.specs.CaptureRuns.{run_of}
use Rattle.macs_edge.specs.declared.settling.Side.TheVariants as side
use Rattle.macs_edge.proofs.Lived.{lives-run}
use Rattle.macs_edge.proofs.Whole.{whole-written}
use Rattle.macs_edge.proofs.capture_runs.run_validate.Goals as goal

pub returns-clause-writes : goal.returns-clause-writes
returns-clause-writes g c =
    whole-written g.D.SectorDisk.disk side.Common
    (run_of c.args.endpoint.now (g.R.Source.state c.args.source.now) (g.W.Sink.state c.args.sink.now))
    (run_of c.run.new.endpoint (g.R.Source.state c.run.new.source) (g.W.Sink.state c.run.new.sink))
    c.run.result c.run.ensures.runs

pub returns-clause-lives : goal.returns-clause-lives
returns-clause-lives g c =
    lives-run g.D.SectorDisk.disk side.Common
    (run_of c.args.endpoint.now (g.R.Source.state c.args.source.now) (g.W.Sink.state c.args.sink.now))
    (run_of c.run.new.endpoint (g.R.Source.state c.run.new.source) (g.W.Sink.state c.run.new.sink))
    c.run.result c.run.ensures.runs
