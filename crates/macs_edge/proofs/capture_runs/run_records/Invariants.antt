-- so many records were taken, so many of them passed, and the verdict of each was reported
use Rattle.std.proofs.Common.{◌^◌, ◌-◌}
use Rattle.macs_edge.specs.CaptureRuns.{run_of}
use Rattle.macs_edge.specs.Telling.{telling_of}
use Rattle.macs_edge.proofs.Behind.{HasTaken}
use Rattle.macs_edge.proofs.capture_runs.run_records.Given as goal

abbrev pub invariant-loop-passes : goal.invariant-loop-passes
invariant-loop-passes g l = HasTaken g.D.SectorDisk.disk g.V.Verdicts.tells l.fn.side l.fn.big
    (run_of l.fn.endpoint (g.R.Source.state l.fn.source) (g.W.Sink.state l.fn.sink)) (telling_of l.fn.told l.fn.to)
    l.count l.summary
    (run_of l.endpoint (g.R.Source.state l.source) (g.W.Sink.state l.sink)) (telling_of l.told l.to)

abbrev pub decreases-loop-passes : goal.decreases-loop-passes
decreases-loop-passes g l = 2 ^ 32 - l.count
