use Rattle.macs_edge.specs.CaptureRuns.{run_of}
use Rattle.macs_edge.specs.declared.settling.Side.TheVariants.{Common}
use Rattle.macs_program.proofs.Captured.{judged}
use Rattle.macs_offline.proofs.NoneWaits.{run-not-busy}
use Rattle.macs_program.proofs.judging.run_judging.Goals as goal

pub flush_after-requires : goal.flush_after-requires
flush_after-requires g c =
    run-not-busy g.D.SectorDisk.disk Common
    (run_of c.args.endpoint.now (g.R.Source.state c.args.source.now) (g.S.Sink.state c.args.sink.now))
    (run_of c.run_validate_each-answer.new.endpoint (g.R.Source.state c.run_validate_each-answer.new.source)
    (g.S.Sink.state c.run_validate_each-answer.new.sink))
    c.run_validate_each-answer.result c.requires c.run_validate_each-answer.ensures.runs

pub returns-clause-judged : goal.returns-clause-judged
returns-clause-judged g c =
    let (verdicts, judges, telling) = c.run_validate_each-answer.ensures.tells in (
      verdicts,
      judged g.D.SectorDisk.disk
          (run_of c.args.endpoint.now (g.R.Source.state c.args.source.now) (g.S.Sink.state c.args.sink.now))
          c.run_validate_each-answer.new.endpoint (g.R.Source.state c.run_validate_each-answer.new.source)
          (g.S.Sink.state c.run_validate_each-answer.new.sink) (g.S.Sink.state c.flush_after.new.sink)
          c.run_validate_each-answer.result verdicts c.flush_after.result judges c.flush_after.ensures.ended,
      telling,
    )
