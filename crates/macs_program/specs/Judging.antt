-- `validate --each`: the verdict on each frame of a capture, as a line.
use Rattle.std.specs.Prelude.{◌≡◌, ◌≢◌, ◌⊎◌, ◌+◌, ◌++◌, ℕ, Bool, true, false, List, [], ◌∷◌, codes, Option, Result, Ok}
use Rattle.std.specs.Prelude.{Err}
use Rattle.std.specs.Prelude.{IfErr, IfOk}
use Rattle.std.specs.Fmt.{decimal}
use Rattle.std.specs.Io.KnownBytes.{Appends}
use Rattle.macs_disk.specs.Disk.{Disk}
use Rattle.macs_disk.specs.FileDisks.{disk_in_file}
use Rattle.macs_disk.specs.Files.{FileState}
use Rattle.macs_disk.specs.declared.file.FileDisk.{FileDisk}
use Rattle.macs_edge.specs.CaptureRuns.{Run, run_of}
use Rattle.macs_edge.specs.Telling.{JudgesRun, Tells}
use Rattle.macs_edge.specs.Wires.{saturated}
use Rattle.macs_edge.specs.declared.capture_runs.RunFault.{RunFault}
use Rattle.macs_edge.specs.declared.capture_runs.Summary.{Summary}
use Rattle.macs_edge.specs.declared.settling.Side.TheVariants.{Common}
use Rattle.macs_endpoint.specs.Value.{EndpointValue}
use Rattle.macs_pcap.specs.States.{SinkState, SourceState}
use Rattle.macs_rxsc.specs.declared.verdict.Verdict.{Verdict}
use Rattle.macs_texts.specs.Counting.{verdict_words}
use Rattle.macs_texts.specs.Lines.{line}
use Rattle.macs_program.specs.Capturing.{EndsWith, IsFlushed}
use Rattle.macs_offline.specs.Openings.{IsEndpointIn}
use Rattle.macs_cli.specs.Failing.{failure_of_run, failure_status}
use Rattle.macs_program.specs.Summing.{pass_status, summary_line}
use Rattle.macs_cli.specs.declared.failure.Failure.{Failure}
use Rattle.macs_cli.specs.declared.failure.Failure.TheVariants as failures
use Rattle.macs_program.specs.declared.judging.VerdictLines.{VerdictLines}
use Rattle.macs_cli.specs.declared.status.Status.{Status}
use Rattle.macs_cli.specs.declared.status.Status.TheVariants as ends

-- ---- lines

-- the line of a verdict, with its number
abbrev pub verdict_line : ℕ → Verdict → List ℕ
verdict_line at verdict = line (decimal at ++ (codes " " ++ verdict_words verdict))

-- the lines of verdicts, numbered from `at`
abbrev pub verdict_lines : ℕ → List Verdict → List ℕ
verdict_lines at [] = []
verdict_lines at (verdict ∷ more) = verdict_line at verdict ++ verdict_lines (at + 1) more

-- some are printed, numbered from 1
abbrev pub PrintsVerdicts : Option (List ℕ) → Option (List ℕ) → Type 0
PrintsVerdicts before after = (verdicts : List Verdict) × Appends before after (verdict_lines 1 verdicts)

-- The line of a verdict is printed, with the next number; or printing fails. After a line that could not be printed no
-- other is printed
abbrev pub TellsLine : {W : Type 0} → (W → Option (List ℕ)) → (W → Bool) → Tells VerdictLines W
TellsLine contents failed old before verdict new after =
    ((old.has_failed ≡ true) × (new ≡ old) × (after ≡ before))
    ⊎ ((old.has_failed ≡ false) × (new.has_failed ≡ false) × (new.count ≡ saturated (old.count + 1))
    × Appends (contents before) (contents after) (verdict_line new.count verdict))
    ⊎ ((new.has_failed ≡ true) × (failed after ≡ true))

-- ---- a run

-- the failure of a run that prints nothing
abbrev pub IsOfRun : Failure → Type 0
IsOfRun failure = ((fault : RunFault) × (failure ≡ failure_of_run fault)) ⊎ (failure ≡ failures.Capture)

-- The run goes over the capture with these verdicts on its frames, and then all that was written is flushed, after a
-- fault too
abbrev pub JudgesCapture : {D : Type 0} → (D → Disk) → Run D → Result Summary Failure → List Verdict → Run D → Type 0
JudgesCapture disk_of old (Ok summary) verdicts new =
    (sink : SinkState) × JudgesRun disk_of Common old (Ok summary) verdicts (run_of new.endpoint new.source sink)
    × IsFlushed sink new.sink
JudgesCapture disk_of old (Err failure) verdicts new =
    (sink : SinkState) × (answer : Result Summary RunFault)
    × JudgesRun disk_of Common old answer verdicts (run_of new.endpoint new.source sink)
    × EndsWith answer failure sink new.sink

-- How it fails if a line is printed for each verdict: as the run does, after the lines of all its verdicts; or,
-- regardless of the result of the run, because a line cannot be printed
abbrev pub StopsEach : {D W : Type 0} → (D → Disk) → (W → Option (List ℕ)) → (W → Bool) → Run D → W → Failure → Run D
    → W → Type 0
StopsEach disk_of contents failed old before failure new after =
    (IsOfRun failure × (verdicts : List Verdict) × JudgesCapture disk_of old (Err failure) verdicts new
    × Appends (contents before) (contents after) (verdict_lines 1 verdicts))
    ⊎ ((failure ≡ failures.Output) × (failed after ≡ true)
    × (answer : Result Summary Failure) × (verdicts : List Verdict) × JudgesCapture disk_of old answer verdicts new)

-- such a run, after the lines of all its verdicts; or its failure
abbrev pub PrintsEach : {D W : Type 0} → (D → Disk) → (W → Option (List ℕ)) → (W → Bool) → Run D → W
    → Result Summary Failure → Run D → W
    → Type 0
PrintsEach disk_of contents failed old before (Ok summary) new after =
    (verdicts : List Verdict) × JudgesCapture disk_of old (Ok summary) verdicts new
    × Appends (contents before) (contents after) (verdict_lines 1 verdicts)
PrintsEach disk_of contents failed old before (Err failure) new after =
    StopsEach disk_of contents failed old before failure new after

-- its own line is printed after them
pub record ValidatesEach {D W : Type 0} (disk_of : D → Disk) (contents : W → Option (List ℕ)) (failed : W → Bool)
    (is_all : Bool)
    (old : Run D) (before : W) (result : Result Status Failure) (new : Run D) (after : W) : Type 0 where
  pub printed : IfOk result (λ status. (summary : Summary) × (verdicts : List Verdict)
      × JudgesCapture disk_of old (Ok summary) verdicts new
      × Appends (contents before) (contents after) (verdict_lines 1 verdicts ++ summary_line Common summary)
      × (status ≡ pass_status is_all summary))
  pub stopped : IfErr result (λ failure. StopsEach disk_of contents failed old before failure new after)

-- ---- through an endpoint

-- how a run fails, regardless of what is printed
abbrev pub EndsEach : {D : Type 0} → (D → Disk) → Run D → Failure → Run D → Type 0
EndsEach disk_of old failure new =
    ((verdicts : List Verdict) × JudgesCapture disk_of old (Err failure) verdicts new)
    ⊎ ((failure ≡ failures.Output) × (answer : Result Summary Failure) × (verdicts : List Verdict)
    × JudgesCapture disk_of old answer verdicts new)

-- a capture is validated by an endpoint into another capture, with these verdicts
pub record JudgesBetween {D : Type 0} (disk_of : D → Disk) (old : EndpointValue D) (summary : Summary)
    (verdicts : List Verdict)
    (new : EndpointValue D) : Type 0 where
  pub source : SourceState
  pub source_left : SourceState
  pub sink : SinkState
  pub sink_left : SinkState
  pub judges : JudgesCapture disk_of (run_of old source sink) (Ok summary) verdicts (run_of new source_left sink_left)

-- it is not validated, or not whole
pub record StopsJudging {D : Type 0} (disk_of : D → Disk) (old : EndpointValue D) (failure : Failure)
    (new : EndpointValue D) : Type 0 where
  pub source : SourceState
  pub source_left : SourceState
  pub sink : SinkState
  pub sink_left : SinkState
  pub ends : EndsEach disk_of (run_of old source sink) failure (run_of new source_left sink_left)

-- a capture cannot be opened, or memory runs out, and nothing is done with the endpoint; or the run ends
abbrev pub JudgingEnds : {D : Type 0} → (D → Disk) → EndpointValue D → Failure → EndpointValue D → Type 0
JudgingEnds disk_of old failure new =
    (((failure ≡ failures.Memory) ⊎ (failure ≡ failures.Capture)) × (new ≡ old)) ⊎ StopsJudging disk_of old failure new

-- `validate --each` with an endpoint and a stream
pub record DoesJudge {D W : Type 0} (disk_of : D → Disk) (contents : W → Option (List ℕ)) (has_failed : W → Bool)
    (is_all : Bool)
    (old : EndpointValue D) (before : W) (result : Result Status Failure) (new : EndpointValue D)
    (after : W) : Type 0 where
  pub printed : IfOk result (λ status. (summary : Summary) × (verdicts : List Verdict)
      × JudgesBetween disk_of old summary verdicts new
      × Appends (contents before) (contents after) (verdict_lines 1 verdicts ++ summary_line Common summary)
      × (status ≡ pass_status is_all summary))
  pub ended : IfErr result (λ failure. JudgingEnds disk_of old failure new)
  pub failed : IfErr result (λ failure. failure_status failure ≢ ends.Usage)
  pub front : IfErr result (λ failure. failure ≢ failures.Output → PrintsVerdicts (contents before) (contents after))
  pub broken : IfErr result (λ failure. failure ≡ failures.Output → has_failed after ≡ true)

-- the same with an endpoint on a disk in a file
pub record JudgesIn {F : Type 0} (file : F → FileState) (summary : Summary) (verdicts : List Verdict) : Type 0 where
  pub old : EndpointValue (FileDisk F)
  pub new : EndpointValue (FileDisk F)
  pub endpoint : IsEndpointIn file old
  pub judges : JudgesBetween (disk_in_file file) old summary verdicts new

-- its failure with an endpoint on a disk in a file
pub record JudgingEndsIn {F : Type 0} (file : F → FileState) (failure : Failure) : Type 0 where
  pub old : EndpointValue (FileDisk F)
  pub new : EndpointValue (FileDisk F)
  pub endpoint : IsEndpointIn file old
  pub ends : JudgingEnds (disk_in_file file) old failure new
