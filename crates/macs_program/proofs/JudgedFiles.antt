-- What `validate --each` does with an endpoint, and what comes of it on a disk in a file.
use Rattle.std.proofs.Common.{◌≡◌, ◌≢◌, ◌⊎◌, ◌∙◌, ◌++◌, inl, inr, Bool, true, List, [], ℕ, Option, Result, Ok, Err}
use Rattle.std.proofs.Common.{IfErr, IfOk}
use Rattle.std.proofs.Common.{ap, refl, sym, subst}
use Rattle.std.proofs.KnownBytes.{Appends-nil}
use Rattle.std.specs.Io.KnownBytes.{Appends}
use Rattle.macs_disk.specs.Disk.{Disk}
use Rattle.macs_disk.specs.FileDisks.{disk_in_file}
use Rattle.macs_disk.specs.Files.{FileState}
use Rattle.macs_edge.specs.CaptureRuns.{run_of}
use Rattle.macs_edge.specs.declared.capture_runs.Summary.{Summary}
use Rattle.macs_endpoint.specs.Value.{EndpointValue}
use Rattle.macs_pcap.specs.States.{SinkState, SourceState}
use Rattle.macs_rxsc.specs.declared.verdict.Verdict.{Verdict}
use Rattle.macs_program.proofs.Failed.{run-no-output, run-status}
use Rattle.macs_offline.proofs.Failures.{MemoryOr, capture-no-output, capture-no-usage, disk-no-output, disk-no-usage}
use Rattle.macs_offline.proofs.Failures.{of-opening}
use Rattle.macs_offline.specs.Openings.{OpeningFails}
use Rattle.macs_cli.specs.Failing.{failure_status}
use Rattle.macs_program.specs.Judging.{DoesJudge, EndsEach, JudgesIn, JudgingEndsIn, PrintsVerdicts, StopsEach}
use Rattle.macs_program.specs.Judging.{ValidatesEach}
use Rattle.macs_program.specs.Judging.{verdict_lines}
use Rattle.macs_program.specs.Summing.{pass_status, summary_line}
use Rattle.macs_program.specs.Tasks.{IsRunIn}
use Rattle.macs_edge.specs.declared.settling.Side.TheVariants.{Common}
use Rattle.macs_cli.specs.declared.failure.Failure.{Failure}
use Rattle.macs_cli.specs.declared.failure.Failure.TheVariants.{Capture, Memory, Output}
use Rattle.macs_cli.specs.declared.status.Status.{Status}
use Rattle.macs_cli.specs.declared.status.Status.TheVariants as ends

module _ {D W : Type 0} (disk_of : D → Disk) (contents : W → Option (List ℕ)) (has_failed : W → Bool) (is_all : Bool)
    (old : EndpointValue D)
    (before : W) where
  -- without both captures nothing is done
  pub none-judged : (fault failure : Failure) (result : Result Status Failure) → result ≡ Err failure → failure ≡ fault
      → (fault ≡ Memory) ⊎ (fault ≡ Capture) → DoesJudge disk_of contents has_failed is_all old before result old before
  none-judged fault failure result is same names =
      let named = subst (λ (f : Failure). MemoryOr Capture f) (sym same) names in
      subst (λ (r : Result Status Failure). DoesJudge disk_of contents has_failed is_all old before r old before)
      (sym is) (record {
        printed = tt;
        ended = inl (named, refl);
        failed = capture-no-usage failure named;
        front = λ other. ([], Appends-nil (contents before));
        broken = λ output. absurd (capture-no-output failure named output);
      })

  module _ (new : EndpointValue D) (after : W) (source source_left : SourceState) (sink sink_left : SinkState)
      (failure : Failure) where
    stops-ends : StopsEach disk_of contents has_failed (run_of old source sink) before failure
        (run_of new source_left sink_left) after
        → EndsEach disk_of (run_of old source sink) failure (run_of new source_left sink_left)
    stops-ends (inl (ours, verdicts, judges, printed)) = inl (verdicts, judges)
    stops-ends (inr (is, broken, answer, verdicts, judges)) = inr (is, answer, verdicts, judges)

    stops-no-usage : StopsEach disk_of contents has_failed (run_of old source sink) before failure
        (run_of new source_left sink_left) after
        → failure_status failure ≢ ends.Usage
    stops-no-usage (inl (ours, verdicts, judges, printed)) = run-status failure ours
    stops-no-usage (inr (is, broken, answer, verdicts, judges)) = λ usage. let e = ap failure_status (sym is) ∙ usage in
        cc

    stops-front : StopsEach disk_of contents has_failed (run_of old source sink) before failure
        (run_of new source_left sink_left) after
        → failure ≢ Output → PrintsVerdicts (contents before) (contents after)
    stops-front (inl (ours, verdicts, judges, printed)) other = (verdicts, printed)
    stops-front (inr (is, broken, answer, verdicts, judges)) other = absurd (other is)

    stops-broken : StopsEach disk_of contents has_failed (run_of old source sink) before failure
        (run_of new source_left sink_left) after
        → failure ≡ Output → has_failed after ≡ true
    stops-broken (inl (ours, verdicts, judges, printed)) output = absurd (run-no-output failure ours output)
    stops-broken (inr (is, broken, answer, verdicts, judges)) output = broken

  pub frames-judged : (new : EndpointValue D) (after : W) (source source_left : SourceState)
      (sink sink_left : SinkState)
      (result : Result Status Failure)
      → ValidatesEach disk_of contents has_failed is_all (run_of old source sink) before result
      (run_of new source_left sink_left) after
      → DoesJudge disk_of contents has_failed is_all old before result new after
  frames-judged new after source source_left sink sink_left (Ok status) validates =
      let (summary, verdicts, judges, printed, is) = validates.printed in
      record {
        printed = (
          summary,
          verdicts,
          record { source = source; source_left = source_left; sink = sink; sink_left = sink_left; judges = judges },
          printed,
          is,
        );
        ended = tt;
        failed = tt;
        front = tt;
        broken = tt;
      }
  frames-judged new after source source_left sink sink_left (Err failure) validates = record {
    printed = tt;
    ended = inr (record {
      source = source;
      source_left = source_left;
      sink = sink;
      sink_left = sink_left;
      ends = stops-ends new after source source_left sink sink_left failure validates.stopped;
    });
    failed = stops-no-usage new after source source_left sink sink_left failure validates.stopped;
    front = stops-front new after source source_left sink sink_left failure validates.stopped;
    broken = stops-broken new after source source_left sink sink_left failure validates.stopped;
  }

-- what `validate --each` comes to
pub record JudgedIn {F W : Type 0} (file : F → FileState) (contents : W → Option (List ℕ)) (has_failed : W → Bool)
    (is_all : Bool) (before : W)
    (result : Result Status Failure) (after : W) : Type 0 where
  pub printed : IfOk result (λ status. (summary : Summary) × (verdicts : List Verdict) × JudgesIn file summary verdicts
      × Appends (contents before) (contents after) (verdict_lines 1 verdicts ++ summary_line Common summary)
      × (status ≡ pass_status is_all summary))
  pub ended : IfErr result (λ failure. OpeningFails file failure ⊎ JudgingEndsIn file failure)
  pub failed : IfErr result (λ failure. failure_status failure ≢ ends.Usage)
  pub front : IfErr result (λ failure. failure ≢ Output → PrintsVerdicts (contents before) (contents after))
  pub broken : IfErr result (λ failure. failure ≡ Output → has_failed after ≡ true)

module _ {F W : Type 0} (file : F → FileState) (contents : W → Option (List ℕ)) (has_failed : W → Bool) (is_all : Bool)
    (before after : W) where
  none-judged-in : (failure : Failure) → OpeningFails file failure → after ≡ before
      → JudgedIn file contents has_failed is_all before (Err failure) after
  none-judged-in failure fails silent = record {
    printed = tt;
    ended = inl fails;
    failed = disk-no-usage failure (of-opening file failure fails);
    front = λ other.
        ([], subst (λ (w : W). Appends (contents before) (contents w) []) (sym silent) (Appends-nil (contents before)));
    broken = λ output. absurd (disk-no-output failure (of-opening file failure fails) output);
  }

  pub judged-in : (result : Result Status Failure)
      → IsRunIn file (DoesJudge (disk_in_file file) contents has_failed is_all) before result after
      → JudgedIn file contents has_failed is_all before result after
  judged-in result (inl none) =
      subst (λ (r : Result Status Failure). JudgedIn file contents has_failed is_all before r after) (sym none.is)
      (none-judged-in none.failure none.fails none.silent)
  judged-in (Ok status) (inr run) =
      let (summary, verdicts, judges, printed, is) = run.does.printed in
      record {
        printed = (
          summary,
          verdicts,
          record { old = run.old; new = run.new; endpoint = run.endpoint; judges = judges },
          printed,
          is,
        );
        ended = tt;
        failed = tt;
        front = tt;
        broken = tt;
      }
  judged-in (Err failure) (inr run) = record {
    printed = tt;
    ended = inr (record { old = run.old; new = run.new; endpoint = run.endpoint; ends = run.does.ended });
    failed = run.does.failed;
    front = run.does.front;
    broken = run.does.broken;
  }
