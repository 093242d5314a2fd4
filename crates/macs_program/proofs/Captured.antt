-- A sink that was flushed, or was not, after a run.
use Rattle.std.proofs.Common.{◌≡◌, ◌⊎◌, true, List, Result, Ok, Err, OnErr, OnOk, inl, inr, subst}
use Rattle.std.specs.Io.KnownBytes.{Keeps}
use Rattle.macs_disk.specs.Disk.{Disk}
use Rattle.macs_edge.specs.CaptureRuns.{Run, RunsOver, run_of}
use Rattle.macs_edge.specs.Telling.{JudgesRun}
use Rattle.macs_edge.specs.declared.capture_runs.RunFault.{RunFault}
use Rattle.macs_edge.specs.declared.capture_runs.Summary.{Summary}
use Rattle.macs_edge.specs.declared.settling.Side.{Side}
use Rattle.macs_edge.specs.declared.settling.Side.TheVariants.{Common}
use Rattle.macs_endpoint.specs.Value.{EndpointValue}
use Rattle.macs_pcap.specs.States.{SinkState, SourceState}
use Rattle.macs_pcap.specs.declared.sink.WriteFailed.{WriteFailed}
use Rattle.macs_rxsc.specs.declared.verdict.Verdict.{Verdict}
use Rattle.macs_program.specs.Capturing.{EndsFlushed, FailsToFlush, IsFlushed, PassesCapture}
use Rattle.macs_program.specs.Judging.{JudgesCapture}
use Rattle.macs_cli.specs.declared.failure.Failure.{Failure}

pub flushed-or-not : (before after : SinkState) (answer : Result (Unit {0}) WriteFailed) → Keeps before.held after.held
    → OnOk answer (after.flushed ≡ true)
    → OnOk answer (after.failed ≡ before.failed) → OnErr answer (after.failed ≡ true)
    → IsFlushed before after ⊎ FailsToFlush before after
flushed-or-not before after (Ok done) held flushed writes failed =
    inl (record { held = held; writes = writes; flushed = flushed })
flushed-or-not before after (Err fault) held flushed writes failed = inr (record { held = held; fails = failed })

module _ {D : Type 0} (disk_of : D → Disk) (old : Run D) (endpoint : EndpointValue D) (source : SourceState)
    (before after : SinkState)
    (answer : Result Summary RunFault) where
  -- a run, and what it wrote handed on
  pub captured : (side : Side) (result : Result Summary Failure)
      → RunsOver disk_of side old answer (run_of endpoint source before)
      → EndsFlushed answer result before after → PassesCapture disk_of side old result (run_of endpoint source after)
  captured side (Ok summary) runs (is, flushed) = (
    before,
    subst (λ (a : Result Summary RunFault). RunsOver disk_of side old a (run_of endpoint source before)) is runs,
    flushed,
  )
  captured side (Err failure) runs ends = (before, answer, runs, ends)

  -- the same with its verdicts
  pub judged : (verdicts : List Verdict) (result : Result Summary Failure)
      → JudgesRun disk_of Common old answer verdicts (run_of endpoint source before)
      → EndsFlushed answer result before after
      → JudgesCapture disk_of old result verdicts (run_of endpoint source after)
  judged verdicts (Ok summary) runs (is, flushed) = (
    before,
    subst (λ (a : Result Summary RunFault).
        JudgesRun disk_of Common old a verdicts (run_of endpoint source before)) is runs,
    flushed,
  )
  judged verdicts (Err failure) runs ends = (before, answer, runs, ends)
