-- A run over a capture that flushes all that was written.
use Rattle.std.specs.Prelude.{◌≡◌, ◌⊎◌, true, Result, Ok, Err}
use Rattle.std.specs.Io.KnownBytes.{Keeps}
use Rattle.macs_disk.specs.Disk.{Disk}
use Rattle.macs_edge.specs.CaptureRuns.{Run, RunsOver, run_of}
use Rattle.macs_edge.specs.declared.capture_runs.RunFault.{RunFault}
use Rattle.macs_edge.specs.declared.capture_runs.Summary.{Summary}
use Rattle.macs_edge.specs.declared.settling.Side.{Side}
use Rattle.macs_pcap.specs.States.{SinkState}
use Rattle.macs_cli.specs.Failing.{failure_of_run}
use Rattle.macs_cli.specs.declared.failure.Failure.{Failure}
use Rattle.macs_cli.specs.declared.failure.Failure.TheVariants as failures

-- all that a sink took is flushed, and nothing else about it changes
pub record IsFlushed (before after : SinkState) : Type 0 where
  pub held : Keeps before.held after.held
  pub writes : after.failed ≡ before.failed
  pub flushed : after.flushed ≡ true

-- a flush of a sink failed
pub record FailsToFlush (before after : SinkState) : Type 0 where
  pub held : Keeps before.held after.held
  pub fails : after.failed ≡ true

-- how a run fails: with the fault of its answer, whether the sink could be flushed then or not; or with a flush that
-- failed
abbrev pub EndsWith : Result Summary RunFault → Failure → SinkState → SinkState → Type 0
EndsWith (Err fault) failure before after = (failure ≡ failure_of_run fault)
    × (IsFlushed before after ⊎ FailsToFlush before after)
EndsWith (Ok summary) failure before after = (failure ≡ failures.Capture) × FailsToFlush before after

-- what was written in a run with this answer is flushed, after a fault too
abbrev pub EndsFlushed : Result Summary RunFault → Result Summary Failure → SinkState → SinkState → Type 0
EndsFlushed answer (Ok summary) before after = (answer ≡ Ok summary) × IsFlushed before after
EndsFlushed answer (Err failure) before after = EndsWith answer failure before after

-- The run goes over the capture, and then all that was written is flushed, after a fault too. The failure is the fault
-- of the run, or if there is none, a failed flush
abbrev pub PassesCapture : {D : Type 0} → (D → Disk) → Side → Run D → Result Summary Failure → Run D → Type 0
PassesCapture disk_of side old (Ok summary) new =
    (sink : SinkState) × RunsOver disk_of side old (Ok summary) (run_of new.endpoint new.source sink)
    × IsFlushed sink new.sink
PassesCapture disk_of side old (Err failure) new =
    (sink : SinkState) × (answer : Result Summary RunFault)
    × RunsOver disk_of side old answer (run_of new.endpoint new.source sink)
    × EndsWith answer failure sink new.sink

-- How a run with its line fails: the run itself fails; or it does not, and its line cannot be written
abbrev pub EndsPass : {D : Type 0} → (D → Disk) → Side → Run D → Failure → Run D → Type 0
EndsPass disk_of side old failure new =
    PassesCapture disk_of side old (Err failure) new
    ⊎ ((failure ≡ failures.Output) × (summary : Summary) × PassesCapture disk_of side old (Ok summary) new)
