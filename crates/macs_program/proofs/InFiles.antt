-- What a subcommand does with an endpoint, from what its parts answer, and what comes of it on a disk in a file.
use Rattle.std.proofs.Common.{◌≡◌, ◌≢◌, ◌⊎◌, ◌∙◌, inl, inr, Bool, true, List, [], ℕ, Option, Result, Ok, Err, IfErr}
use Rattle.std.proofs.Common.{IfOk, ap, refl, sym, subst}
use Rattle.std.proofs.KnownBytes.{Appends-nil}
use Rattle.std.specs.Io.KnownBytes.{Appends}
use Rattle.macs_config.specs.declared.command.Command.{Command}
use Rattle.macs_config.specs.declared.refusal.Refusal.{Refusal}
use Rattle.macs_disk.specs.Disk.{Disk}
use Rattle.macs_disk.specs.FileDisks.{disk_in_file}
use Rattle.macs_disk.specs.Files.{FileState}
use Rattle.macs_disk.specs.declared.file.FileDisk.{FileDisk}
use Rattle.macs_disk.specs.declared.file_fault.FileFault.{FileFault}
use Rattle.macs_edge.specs.CaptureRuns.{run_of}
use Rattle.macs_edge.specs.declared.capture_runs.Summary.{Summary}
use Rattle.macs_edge.specs.declared.settling.Side.{Side}
use Rattle.macs_endpoint.specs.Opening.{IsOpening}
use Rattle.macs_endpoint.specs.Value.{EndpointValue}
use Rattle.macs_journal.specs.declared.recovery.RecoverRefused.{RecoverRefused}
use Rattle.macs_pcap.specs.States.{SinkState, SourceState}
use Rattle.macs_offline.proofs.NoneWaits.{opened-none}
use Rattle.macs_offline.proofs.Failures.{MemoryOr, capture-no-output, capture-no-usage, commands-no-output}
use Rattle.macs_offline.proofs.Failures.{commands-no-usage, disk-no-output, disk-no-usage, of-opening, output-no-usage}
use Rattle.macs_offline.specs.Applying.{AppliesAll, AppliesSome, EndsRun, SaidByFile, SaysCommands}
use Rattle.macs_offline.specs.Applying.{is_for, outcome_lines, own_sci}
use Rattle.macs_program.specs.Capturing.{EndsPass, PassesCapture}
use Rattle.macs_program.specs.Endpoints.{AppliesIn, BreaksOff, BreaksOffIn}
use Rattle.macs_offline.specs.Openings.{IsDiskIn, OpeningFails}
use Rattle.macs_program.specs.Endpoints.{PassEndsIn, PassesIn, ShowsIn, shown_text}
use Rattle.macs_cli.specs.Failing.{failure_of_file, failure_of_journal, failure_status}
use Rattle.macs_program.specs.Summing.{pass_status, summary_line}
use Rattle.macs_program.specs.Tasks.{DoesApply, DoesPass, DoesShow, Doing, IsRunIn, IsRunOn}
use Rattle.macs_cli.specs.declared.failure.Failure.{Failure}
use Rattle.macs_cli.specs.declared.failure.Failure.TheVariants.{Capture, Commands, Memory, Output}
use Rattle.macs_cli.specs.declared.status.Status.{Status}
use Rattle.macs_cli.specs.declared.status.Status.TheVariants as ends

-- ---- on a disk

-- no command of an endpoint that was opened waits
pub none-waits : {D : Type 0} (disk_of : D → Disk) (disk : D) (old : EndpointValue D)
    (opened : Result (EndpointValue D) (RecoverRefused D))
    → opened ≡ Ok old → IsOpening disk_of disk opened → old.waiting ≡ []
none-waits {D} disk_of disk old opened is opening =
    opened-none disk_of disk old
    (subst (λ (r : Result (EndpointValue D) (RecoverRefused D)). IsOpening disk_of disk r) is opening)

module _ {D W : Type 0} (disk_of : D → Disk) (done : Doing D W) (before : W) (disk : D)
    (opened : Result (EndpointValue D) (RecoverRefused D)) (opening : IsOpening disk_of disk opened) where
  pub refused-on : (refused : RecoverRefused D) (failure : Failure) → opened ≡ Err refused
      → failure ≡ failure_of_journal refused.fault → IsRunOn disk_of done disk before (Err failure) before
  refused-on refused failure is same = inl (record {
    left = refused.disk;
    fault = refused.fault;
    refuses = subst (λ (r : Result (EndpointValue D) (RecoverRefused D)). IsOpening disk_of disk r) is opening;
    is = ap (λ (f : Failure). Err f) same;
    silent = refl;
  })

  pub done-on : (after : W) (old new : EndpointValue D) (result : Result Status Failure) → opened ≡ Ok old
      → done old before result new after → IsRunOn disk_of done disk before result after
  done-on after old new result is does = inr (record {
    old = old;
    new = new;
    opens = subst (λ (r : Result (EndpointValue D) (RecoverRefused D)). IsOpening disk_of disk r) is opening;
    does = does;
  })

-- ---- on a disk in a file

module _ {F W : Type 0} (file : F → FileState) (done : Doing (FileDisk F) W) (before : W) where
  -- there is no disk in the file
  pub no-disk : (fault failure : Failure) (result : Result Status Failure) → result ≡ Err failure → failure ≡ fault
      → ((cause : FileFault) × (fault ≡ failure_of_file cause)) → IsRunIn file done before result before
  no-disk fault failure result is same (cause, given) =
      inl (record { failure = failure; is = is; fails = inl (cause, same ∙ given); silent = refl })

  -- there is one
  pub run-in : (disk : FileDisk F) (after : W) (result : Result Status Failure) → IsDiskIn file disk
      → IsRunOn (disk_in_file file) done disk before result after → IsRunIn file done before result after
  run-in disk after result there (inl refused) = inl (record {
    failure = failure_of_journal refused.fault;
    is = refused.is;
    fails = inr (record {
      disk = disk;
      left = refused.left;
      fault = refused.fault;
      is_disk = there;
      refuses = refused.refuses;
      is = refl;
    });
    silent = refused.silent;
  })
  run-in disk after result there (inr ran) = inr (record {
    old = ran.old;
    new = ran.new;
    endpoint = record { disk = disk; is_disk = there; opens = ran.opens };
    does = ran.does;
  })

-- ---- commands

module _ {F D W : Type 0} (left_in : F → Option (List ℕ)) (disk_of : D → Disk) (contents : W → Option (List ℕ))
    (has_failed : W → Bool) (old : EndpointValue D) (before : W) where
  -- without a command file nothing is done
  pub none-applied : (fault failure : Failure) (result : Result Status Failure) → result ≡ Err failure → failure ≡ fault
      → (fault ≡ Memory) ⊎ (fault ≡ Commands)
      → DoesApply left_in disk_of contents has_failed old before result old before
  none-applied fault failure result is same names =
      let named = subst (λ (f : Failure). MemoryOr Commands f) (sym same) names in
      subst (λ (r : Result Status Failure). DoesApply left_in disk_of contents has_failed old before r old before)
      (sym is) (record {
        printed = tt;
        ended = inl (named, refl, refl);
        broken = λ output. absurd (commands-no-output failure named output);
      })

  -- a file for another end is not applied
  pub other-applied : DoesApply left_in disk_of contents has_failed old before (Err Commands) old before
  other-applied = none-applied Commands Commands (Err Commands) refl refl (inr refl)

  pub file-applied : (new : EndpointValue D) (after : W) (end : Option (List ℕ)) (said given : List Command)
      (result : Result Status Failure)
      → ((octets : List ℕ) × SaysCommands octets end said) → SaidByFile left_in end said
      → is_for end (own_sci old) ≡ true → given ≡ said
      → IfOk result (λ status. AppliesAll disk_of old given (contents before) (contents after) status new)
      → IfErr result (λ failure. AppliesSome disk_of old given (contents before) (contents after) failure new)
      → IfErr result (λ failure. failure ≡ Output → has_failed after ≡ true)
      → DoesApply left_in disk_of contents has_failed old before result new after
  file-applied new after end said given (Ok status) (octets, says) by_file own same applied ended broken = record {
    printed = record {
      octets = octets;
      end = end;
      commands = given;
      says = subst (λ (commands : List Command). SaysCommands octets end commands) (sym same) says;
      by_file = subst (λ (commands : List Command). SaidByFile left_in end commands) (sym same) by_file;
      own = own;
      applies = applied;
    };
    ended = tt;
    broken = tt;
  }
  file-applied new after end said given (Err failure) (octets, says) by_file own same applied ended broken = record {
    printed = tt;
    ended = inr (record {
      octets = octets;
      end = end;
      commands = given;
      says = subst (λ (commands : List Command). SaysCommands octets end commands) (sym same) says;
      by_file = subst (λ (commands : List Command). SaidByFile left_in end commands) (sym same) by_file;
      own = own;
      applies = ended;
    });
    broken = broken;
  }

ends-no-usage : {D : Type 0} (disk_of : D → Disk) (old : EndpointValue D) (command : Command) (failure : Failure)
    (new : EndpointValue D)
    → EndsRun disk_of old command failure new → failure_status failure ≢ ends.Usage
ends-no-usage disk_of old command failure new (inl ended) is = let e = ap failure_status (sym ended.3) ∙ is in cc
ends-no-usage disk_of old command failure new (inr ended) is = let e = ap failure_status (sym ended.0) ∙ is in cc

module _ {F D : Type 0} (left_in : F → Option (List ℕ)) (disk_of : D → Disk) (old : EndpointValue D)
    (known told : Option (List ℕ)) (failure : Failure) (new : EndpointValue D) where
  broken-off-no-usage : BreaksOff left_in disk_of old known told failure new → failure_status failure ≢ ends.Usage
  broken-off-no-usage (inl none) is = commands-no-usage failure none.0 is
  broken-off-no-usage (inr front) is =
      ends-no-usage disk_of front.applies.between front.applies.next failure new front.applies.ends is

  broken-off-lines : BreaksOff left_in disk_of old known told failure new → failure ≢ Output
      → (outcomes : List (Option Refusal)) × Appends known told (outcome_lines 1 outcomes)
  broken-off-lines (inl none) other =
      ([], subst (λ (k : Option (List ℕ)). Appends known k []) (sym none.2) (Appends-nil known))
  broken-off-lines (inr front) other = (front.applies.outcomes, front.applies.printed other)

-- what `apply` comes to
pub record AppliedIn {F W : Type 0} (file : F → FileState) (left_in : F → Option (List ℕ))
    (contents : W → Option (List ℕ)) (has_failed : W → Bool) (before : W)
    (result : Result Status Failure) (after : W) : Type 0 where
  pub printed : IfOk result (λ status. AppliesIn file left_in (contents before) (contents after) status)
  pub ended : IfErr result
      (λ failure. OpeningFails file failure ⊎ BreaksOffIn file left_in (contents before) (contents after) failure)
  pub failed : IfErr result (λ failure. failure_status failure ≢ ends.Usage)
  pub lines : IfErr result (λ failure. failure ≢ Output
      → (outcomes : List (Option Refusal)) × Appends (contents before) (contents after) (outcome_lines 1 outcomes))
  pub broken : IfErr result (λ failure. failure ≡ Output → has_failed after ≡ true)

module _ {F W : Type 0} (file : F → FileState) (left_in : F → Option (List ℕ)) (contents : W → Option (List ℕ))
    (has_failed : W → Bool) (before after : W) where
  none-applied-in : (failure : Failure) → OpeningFails file failure → after ≡ before
      → AppliedIn file left_in contents has_failed before (Err failure) after
  none-applied-in failure fails silent = record {
    printed = tt;
    ended = inl fails;
    failed = disk-no-usage failure (of-opening file failure fails);
    lines = λ other.
        ([], subst (λ (w : W). Appends (contents before) (contents w) []) (sym silent) (Appends-nil (contents before)));
    broken = λ output. absurd (disk-no-output failure (of-opening file failure fails) output);
  }

  pub applied-in : (result : Result Status Failure)
      → IsRunIn file (DoesApply left_in (disk_in_file file) contents has_failed) before result after
      → AppliedIn file left_in contents has_failed before result after
  applied-in result (inl none) =
      subst (λ (r : Result Status Failure). AppliedIn file left_in contents has_failed before r after) (sym none.is)
      (none-applied-in none.failure none.fails none.silent)
  applied-in (Ok status) (inr run) = record {
    printed = record { old = run.old; new = run.new; endpoint = run.endpoint; applies = run.does.printed };
    ended = tt;
    failed = tt;
    lines = tt;
    broken = tt;
  }
  applied-in (Err failure) (inr run) = record {
    printed = tt;
    ended = inr (record { old = run.old; new = run.new; endpoint = run.endpoint; ends = run.does.ended });
    failed = broken-off-no-usage left_in (disk_in_file file) run.old (contents before) (contents after) failure run.new
        run.does.ended;
    lines = broken-off-lines left_in (disk_in_file file) run.old (contents before) (contents after) failure run.new
        run.does.ended;
    broken = run.does.broken;
  }

-- ---- what is shown

module _ {D W : Type 0} (contents : W → Option (List ℕ)) (has_failed : W → Bool) (old : EndpointValue D)
    (before : W) where
  pub no-text : (failure : Failure) (result : Result Status Failure) → result ≡ Err failure → failure ≡ Memory
      → DoesShow contents has_failed old before result old before
  no-text failure result is memory =
      subst (λ (r : Result Status Failure). DoesShow contents has_failed old before r old before) (sym is) (record {
        same = refl;
        printed = tt;
        ended = inl memory;
        silent = λ other. refl;
        broken = λ output. absurd (let e = sym memory ∙ output in cc);
      })

  pub not-shown : (after : W) (fault failure : Failure) (result : Result Status Failure) → result ≡ Err failure
      → failure ≡ fault → fault ≡ Output
      → has_failed after ≡ true → DoesShow contents has_failed old before result old after
  not-shown after fault failure result is same output broken =
      subst (λ (r : Result Status Failure). DoesShow contents has_failed old before r old after) (sym is) (record {
        same = refl;
        printed = tt;
        ended = inr (same ∙ output);
        silent = λ other. absurd (other (same ∙ output));
        broken = λ output. broken;
      })

  pub text-shown : (after : W) (text told : List ℕ) → told ≡ text → text ≡ shown_text old
      → Appends (contents before) (contents after) told
      → DoesShow contents has_failed old before (Ok ends.Done) old after
  text-shown after text told same is printed = record {
    same = refl;
    printed = (subst (λ (t : List ℕ). Appends (contents before) (contents after) t) (same ∙ is) printed, refl);
    ended = tt;
    silent = tt;
    broken = tt;
  }

-- what `show` comes to
pub record ShownIn {F W : Type 0} (file : F → FileState) (contents : W → Option (List ℕ)) (has_failed : W → Bool)
    (before : W)
    (result : Result Status Failure) (after : W) : Type 0 where
  pub printed : IfOk result (λ status. ShowsIn file (contents before) (contents after) × (status ≡ ends.Done))
  pub ended : IfErr result (λ failure. OpeningFails file failure ⊎ (failure ≡ Memory) ⊎ (failure ≡ Output))
  pub failed : IfErr result (λ failure. failure_status failure ≢ ends.Usage)
  pub silent : IfErr result (λ failure. failure ≢ Output → after ≡ before)
  pub broken : IfErr result (λ failure. failure ≡ Output → has_failed after ≡ true)

module _ {F W : Type 0} (file : F → FileState) (contents : W → Option (List ℕ)) (has_failed : W → Bool)
    (before after : W) where
  none-shown-in : (failure : Failure) → OpeningFails file failure → after ≡ before
      → ShownIn file contents has_failed before (Err failure) after
  none-shown-in failure fails silent = record {
    printed = tt;
    ended = inl fails;
    failed = disk-no-usage failure (of-opening file failure fails);
    silent = λ other. silent;
    broken = λ output. absurd (disk-no-output failure (of-opening file failure fails) output);
  }

  pub shown-in : (result : Result Status Failure) → IsRunIn file (DoesShow contents has_failed) before result after
      → ShownIn file contents has_failed before result after
  shown-in result (inl none) =
      subst (λ (r : Result Status Failure). ShownIn file contents has_failed before r after) (sym none.is)
      (none-shown-in none.failure none.fails none.silent)
  shown-in (Ok status) (inr run) = record {
    printed = (record { shown = run.old; endpoint = run.endpoint; printed = run.does.printed.0 }, run.does.printed.1);
    ended = tt;
    failed = tt;
    silent = tt;
    broken = tt;
  }
  shown-in (Err failure) (inr run) = record {
    printed = tt;
    ended = inr run.does.ended;
    failed = output-no-usage failure run.does.ended;
    silent = run.does.silent;
    broken = run.does.broken;
  }

-- ---- captures

module _ {D W : Type 0} (disk_of : D → Disk) (contents : W → Option (List ℕ)) (has_failed : W → Bool) (side : Side)
    (is_all : Bool) (old : EndpointValue D)
    (before : W) where
  -- without both captures nothing is done
  pub no-capture : (fault failure : Failure) (result : Result Status Failure) → result ≡ Err failure → failure ≡ fault
      → (fault ≡ Memory) ⊎ (fault ≡ Capture)
      → DoesPass disk_of contents has_failed side is_all old before result old before
  no-capture fault failure result is same names =
      let named = subst (λ (f : Failure). MemoryOr Capture f) (sym same) names in
      subst (λ (r : Result Status Failure). DoesPass disk_of contents has_failed side is_all old before r old before)
      (sym is) (record {
        printed = tt;
        ended = inl (named, refl);
        failed = capture-no-usage failure named;
        silent = λ other. refl;
        broken = λ output. absurd (capture-no-output failure named output);
      })

  pub frames-passed : (new : EndpointValue D) (after : W) (source source_left : SourceState)
      (sink sink_left : SinkState) (result : Result Status Failure)
      → IfOk result (λ status. (summary : Summary)
      × PassesCapture disk_of side (run_of old source sink) (Ok summary) (run_of new source_left sink_left)
      × Appends (contents before) (contents after) (summary_line side summary) × (status ≡ pass_status is_all summary))
      → IfErr result
      (λ failure. EndsPass disk_of side (run_of old source sink) failure (run_of new source_left sink_left))
      → IfErr result (λ failure. failure_status failure ≢ ends.Usage)
      → IfErr result (λ failure. failure ≢ Output → after ≡ before)
      → IfErr result (λ failure. failure ≡ Output → has_failed after ≡ true)
      → DoesPass disk_of contents has_failed side is_all old before result new after
  frames-passed new after source source_left sink sink_left (Ok status) (summary, passes, printed, is) ended failed
      silent broken = record {
        printed = (
          summary,
          record { source = source; source_left = source_left; sink = sink; sink_left = sink_left; passes = passes },
          printed,
          is,
        );
        ended = tt;
        failed = tt;
        silent = tt;
        broken = tt;
      }
  frames-passed new after source source_left sink sink_left (Err failure) passed ended failed silent broken = record {
    printed = tt;
    ended =
        inr (record { source = source; source_left = source_left; sink = sink; sink_left = sink_left; ends = ended });
    failed = failed;
    silent = silent;
    broken = broken;
  }

-- what `protect` and `validate` come to
pub record PassedIn {F W : Type 0} (file : F → FileState) (contents : W → Option (List ℕ)) (has_failed : W → Bool)
    (side : Side) (is_all : Bool) (before : W)
    (result : Result Status Failure) (after : W) : Type 0 where
  pub printed : IfOk result (λ status. (summary : Summary) × PassesIn file side summary
      × Appends (contents before) (contents after) (summary_line side summary) × (status ≡ pass_status is_all summary))
  pub ended : IfErr result (λ failure. OpeningFails file failure ⊎ PassEndsIn file side failure)
  pub failed : IfErr result (λ failure. failure_status failure ≢ ends.Usage)
  pub silent : IfErr result (λ failure. failure ≢ Output → after ≡ before)
  pub broken : IfErr result (λ failure. failure ≡ Output → has_failed after ≡ true)

module _ {F W : Type 0} (file : F → FileState) (contents : W → Option (List ℕ)) (has_failed : W → Bool) (side : Side)
    (is_all : Bool) (before after : W) where
  none-passed-in : (failure : Failure) → OpeningFails file failure → after ≡ before
      → PassedIn file contents has_failed side is_all before (Err failure) after
  none-passed-in failure fails silent = record {
    printed = tt;
    ended = inl fails;
    failed = disk-no-usage failure (of-opening file failure fails);
    silent = λ other. silent;
    broken = λ output. absurd (disk-no-output failure (of-opening file failure fails) output);
  }

  pub passed-in : (result : Result Status Failure)
      → IsRunIn file (DoesPass (disk_in_file file) contents has_failed side is_all) before result after
      → PassedIn file contents has_failed side is_all before result after
  passed-in result (inl none) =
      subst (λ (r : Result Status Failure). PassedIn file contents has_failed side is_all before r after) (sym none.is)
      (none-passed-in none.failure none.fails none.silent)
  passed-in (Ok status) (inr run) =
      let (summary, passes, printed, is) = run.does.printed in
      record {
        printed =
            (summary, record { old = run.old; new = run.new; endpoint = run.endpoint; passes = passes }, printed, is);
        ended = tt;
        failed = tt;
        silent = tt;
        broken = tt;
      }
  passed-in (Err failure) (inr run) = record {
    printed = tt;
    ended = inr (record { old = run.old; new = run.new; endpoint = run.endpoint; ends = run.does.ended });
    failed = run.does.failed;
    silent = run.does.silent;
    broken = run.does.broken;
  }
