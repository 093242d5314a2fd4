use Rattle.std.proofs.Common.{Bool, List, inl, inr, Result, Ok, Err}
use Rattle.macs_rxsc.specs.declared.verdict.Verdict.{Verdict}
use Rattle.macs_disk.specs.Disk.{Disk}
use Rattle.macs_edge.specs.CaptureRuns.{run_of, Run, RunsOver, RunsRecords}
use Rattle.macs_edge.specs.Telling.{JudgesRecords, JudgesRun}
use Rattle.macs_edge.specs.declared.capture_runs.RunFault.{RunFault}
use Rattle.macs_edge.specs.declared.capture_runs.Summary.{Summary}
use Rattle.macs_edge.specs.declared.settling.Side.{Side}
use Rattle.macs_edge.proofs.capture_runs.run.Goals as goal

-- A run of which the verdicts are known is a run.
module _ {D : Type 0} (disk_of : D → Disk) (side : Side) (old new : Run D) (verdicts : List Verdict) where
  records-run : (big : Bool) (between : Run D) (answer : Result Summary RunFault)
      → JudgesRecords disk_of side big between answer verdicts new → RunsRecords disk_of side big between answer new
  records-run big between (Ok s) (records, passed, has, ended, counts) = (records, passed, has.has, ended, counts)
  records-run big between (Err fault) (records, passed, until, has, stops) = (records, passed, until, has.has, stops)

  judged-run : (answer : Result Summary RunFault) → JudgesRun disk_of side old answer verdicts new
      → RunsOver disk_of side old answer new
  judged-run answer (inl (fault, is, reads, endpoint, sink, none)) = inl (fault, is, reads, endpoint, sink)
  judged-run answer (inr (inl (header, reads, is, writes, endpoint, none))) =
      inr (inl (header, reads, is, writes, endpoint))
  judged-run answer (inr (inr (header, between, reads, writes, endpoint, runs))) =
      inr (inr (header, between, reads, writes, endpoint, records-run header.big between answer runs))

pub returns-clause-runs : goal.returns-clause-runs
returns-clause-runs g c =
    let (verdicts, judges, telling) = c.run_telling.ensures in
    judged-run g.D.SectorDisk.disk c.args.side
    (run_of c.args.endpoint.now (g.R.Source.state c.args.source.now) (g.W.Sink.state c.args.sink.now))
    (run_of c.run_telling.new.endpoint (g.R.Source.state c.run_telling.new.source)
    (g.W.Sink.state c.run_telling.new.sink))
    verdicts c.run_telling.result judges
