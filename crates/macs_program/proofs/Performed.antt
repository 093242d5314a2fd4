-- What each subcommand comes to, as the doing of an action.
use Rattle.std.proofs.Common.{Bor, ◌≡◌, ◌≢◌, ◌⊎◌, inl, inr, ℕ, List, Bool, true, false, if◌then◌else◌, Option, IfSome}
use Rattle.std.proofs.Common.{Result, Ok, Err, IfErr, IfOk, refl, sym, subst, ◌∙◌, ap, Some, None}
use Rattle.std.specs.Io.KnownBytes.{Appends}
use Rattle.std.specs.List.{list_any}
use Rattle.std.specs.Prelude.{◌&&◌, is_some, nat_lt}
use Rattle.std.proofs.lemmas.Result.{IfErr-weaker, IfOk-weaker}
use Rattle.macs_config.specs.declared.refusal.Refusal.{Refusal}
use Rattle.macs_disk.specs.Files.{FileState}
use Rattle.macs_program.specs.About.{about_text}
use Rattle.macs_offline.specs.Applying.{outcome_lines, outcomes_status}
use Rattle.macs_program.specs.Asking.{AskFails, PrintsAnswer, PrintsFront}
use Rattle.macs_offline.specs.Examining.{ExamineFails, PrintsExamined}
use Rattle.macs_cli.specs.Failing.{failure_status}
use Rattle.macs_offline.specs.Checking.{CheckEnds, CheckFails, Checks}
use Rattle.macs_program.specs.Inputs.{InputRead}
use Rattle.macs_offline.specs.Inspecting.{InspectFails, Inspects, IsOfInspecting, PrintsFrames}
use Rattle.macs_program.specs.Judging.{PrintsVerdicts}
use Rattle.macs_program.specs.Keeping.{FailsToKeep, KeepsIn, outcome_of}
use Rattle.macs_program.specs.KeptRelays.{ComesToBy, RelayFailsBy}
use Rattle.macs_program.specs.Relaying.{RelayedAs, course_of}
use Rattle.macs_offline.specs.Keys.{GivesKey, IsOfKey}
use Rattle.macs_offline.specs.Plans.{PlanFails, PrintsPlan}
use Rattle.macs_program.specs.Run.{Does, FailsAs, Performs, Prints, WrongValues}
use Rattle.macs_edge.specs.declared.capture_runs.Summary.{Summary}
use Rattle.macs_commands.specs.declared.links.link.End.{End}
use Rattle.macs_commands.specs.declared.links.planning.Stage.{Stage}
use Rattle.macs_program.specs.Summing.{pass_status}
use Rattle.macs_cli.specs.declared.failure.Failure.{Failure}
use Rattle.macs_cli.specs.declared.failure.Failure.TheVariants as failures
use Rattle.macs_cli.specs.declared.failure.Failure.TheVariants.{Output}
use Rattle.macs_cli.specs.declared.status.Status.{Status}
use Rattle.macs_cli.specs.declared.status.Status.TheVariants as ends
use Rattle.macs_cli.specs.declared.words.action.Action.{Action}
use Rattle.macs_cli.specs.declared.words.action.Action.TheVariants.{Open, OnDisk, OnFrames, Tool}
use Rattle.macs_cli.specs.declared.words.action.DiskAction.TheVariants.{Format, Apply, Show, Keep}
use Rattle.macs_cli.specs.declared.words.action.FrameAction.TheVariants.{Protect, Validate, Relay}
use Rattle.macs_cli.specs.declared.words.action.ToolAction.TheVariants.{Ask, Key, Inspect, Check, Plan, Examine, About}
use Rattle.macs_cli.specs.declared.words.action.WireEnds.{WireEnds}
use Rattle.macs_cli.specs.declared.words.action.Question.{Question}
use Rattle.macs_cli.specs.declared.words.action.Question.TheVariants as question
use Rattle.macs_cli.specs.declared.words.pace.Running.{Running}
use Rattle.macs_offline.proofs.Examined.{examining-no-usage, said-status}
use Rattle.macs_control.specs.declared.keeping.keeper.KeepEnd.{KeepEnd}
use Rattle.macs_control.specs.declared.keeping.keeper.KeepEnd.TheVariants as keeping
use Rattle.macs_offline.proofs.Failures.{disk-no-output, disk-no-usage, of-file, output-no-usage}
use Rattle.macs_offline.proofs.Tried.{of-trial, spent-no-usage, trial-no-usage}

-- a failure of the disk is not one of the output
of-disk : (failure : Failure) → failure_status failure ≡ ends.Disk → failure ≢ Output
of-disk failure disk is = let e = sym disk ∙ ap failure_status is in cc

-- a failure of `ask` is no wrong usage
asking-no-usage : (name : List ℕ) (asked : Question) (failure : Failure) → AskFails name asked failure
    → failure_status failure ≢ ends.Usage
asking-no-usage name asked (failures.Disk fault) is = λ e. cc
asking-no-usage name asked (failures.Said cause) is = λ e. cc
asking-no-usage name asked failures.Memory is = λ e. cc
asking-no-usage name asked failures.Output is = λ e. cc
asking-no-usage name asked failure is = absurd is

-- a failure of `key` is no wrong usage, and none of the disk
key-no-usage : (failure : Failure) → IsOfKey failure
    → (failure_status failure ≢ ends.Usage) × (failure_status failure ≢ ends.Disk)
key-no-usage failures.Random is = ((λ e. cc), (λ e. cc))
key-no-usage failures.Output is = ((λ e. cc), (λ e. cc))
key-no-usage (failures.Usage cause) is = absurd is
key-no-usage (failures.Value fault) is = absurd is
key-no-usage (failures.Address fault) is = absurd is
key-no-usage (failures.Disk fault) is = absurd is
key-no-usage failures.Capture is = absurd is
key-no-usage failures.Commands is = absurd is
key-no-usage failures.Wire is = absurd is
key-no-usage failures.Control is = absurd is
key-no-usage (failures.Said cause) is = absurd is
key-no-usage (failures.DiskFile cause) is = absurd is
key-no-usage failures.OtherEnd is = absurd is
key-no-usage (failures.Link refusal) is = absurd is
key-no-usage failures.Memory is = absurd is
key-no-usage (failures.Input fault) is = absurd is

-- nor is one of `inspect`
inspecting-no-usage : (failure : Failure) → IsOfInspecting failure
    → (failure_status failure ≢ ends.Usage) × (failure_status failure ≢ ends.Disk)
inspecting-no-usage (failures.Said cause) is = ((λ e. cc), (λ e. cc))
inspecting-no-usage failures.Memory is = ((λ e. cc), (λ e. cc))
inspecting-no-usage failures.Output is = ((λ e. cc), (λ e. cc))
inspecting-no-usage failures.Random is = absurd is
inspecting-no-usage (failures.Usage cause) is = absurd is
inspecting-no-usage (failures.Value fault) is = absurd is
inspecting-no-usage (failures.Address fault) is = absurd is
inspecting-no-usage (failures.Disk fault) is = absurd is
inspecting-no-usage failures.Commands is = absurd is
inspecting-no-usage failures.Wire is = absurd is
inspecting-no-usage failures.Control is = absurd is
inspecting-no-usage failures.Capture is = absurd is
inspecting-no-usage (failures.DiskFile cause) is = absurd is
inspecting-no-usage failures.OtherEnd is = absurd is
inspecting-no-usage (failures.Link refusal) is = absurd is
inspecting-no-usage (failures.Input fault) is = absurd is

-- nor is one of `check`
checking-no-usage : {F : Type 0} (left_in : F → Option (List ℕ)) (name : List ℕ) (failure : Failure)
    → CheckFails left_in name failure
    → (failure_status failure ≢ ends.Usage) × (failure_status failure ≢ ends.Disk)
checking-no-usage left_in name failure (inl (inl is)) =
    ((λ e. let f = sym e ∙ ap failure_status is in cc), (λ e. let f = sym e ∙ ap failure_status is in cc))
checking-no-usage left_in name failure (inl (inr (text, is, said))) =
    ((λ e. let f = sym e ∙ ap failure_status is in cc), (λ e. let f = sym e ∙ ap failure_status is in cc))
checking-no-usage left_in name failure (inr (inl is)) =
    ((λ e. let f = sym e ∙ ap failure_status is in cc), (λ e. let f = sym e ∙ ap failure_status is in cc))
checking-no-usage left_in name failure (inr (inr (octets, inl is, by_file))) =
    ((λ e. let f = sym e ∙ ap failure_status is in cc), (λ e. let f = sym e ∙ ap failure_status is in cc))
checking-no-usage left_in name failure (inr (inr (octets, inr (text, is, said), by_file))) =
    ((λ e. let f = sym e ∙ ap failure_status is in cc), (λ e. let f = sym e ∙ ap failure_status is in cc))

-- a failure of `plan` is no wrong usage
planning-no-usage : {F : Type 0} (left_in : F → Option (List ℕ)) (name : List ℕ) (end : End) (stage : Stage)
    (failure : Failure) → PlanFails left_in name end stage failure → failure_status failure ≢ ends.Usage
planning-no-usage left_in name end stage failure (inl (inl is)) = λ e. let f = sym e ∙ ap failure_status is in cc
planning-no-usage left_in name end stage failure (inl (inr (text, is, said))) =
    λ e. let f = sym e ∙ ap failure_status is in cc
planning-no-usage left_in name end stage failure (inr (inl is)) = λ e. let f = sym e ∙ ap failure_status is in cc
planning-no-usage left_in name end stage failure (inr (inr (octets, inl (inl is), by_file))) =
    λ e. let f = sym e ∙ ap failure_status is in cc
planning-no-usage left_in name end stage failure (inr (inr (octets, inl (inr (text, is, said)), by_file))) =
    λ e. let f = sym e ∙ ap failure_status is in cc
planning-no-usage left_in name end stage failure (inr (inr (octets, inr (refusal, is, refuses), by_file))) =
    λ e. let f = sym e ∙ ap failure_status is in cc

-- the work of a keeper is done, or its failure is that of the socket
kept-done : (end : KeepEnd) (status : Status) → outcome_of end ≡ Ok status → status ≡ ends.Done
kept-done keeping.Ungreeted status is = let e : Ok ends.Done ≡ Ok status = is in cc
kept-done keeping.Ended status is = let e : Ok ends.Done ≡ Ok status = is in cc
kept-done keeping.Unanswered status is = let e : Ok ends.Done ≡ Ok status = is in cc
kept-done keeping.Gone status is = absurd (let e : Err failures.Control ≡ Ok status = is in cc)
kept-done keeping.Malformed status is = absurd (let e : Err failures.Control ≡ Ok status = is in cc)
kept-done keeping.Outside status is = absurd (let e : Err failures.Control ≡ Ok status = is in cc)

kept-control : (end : KeepEnd) (failure : Failure) → outcome_of end ≡ Err failure → failure ≡ failures.Control
kept-control keeping.Ungreeted failure is = absurd (let e : Ok ends.Done ≡ Err failure = is in cc)
kept-control keeping.Ended failure is = absurd (let e : Ok ends.Done ≡ Err failure = is in cc)
kept-control keeping.Unanswered failure is = absurd (let e : Ok ends.Done ≡ Err failure = is in cc)
kept-control keeping.Gone failure is = let e : Err failures.Control ≡ Err failure = is in cc
kept-control keeping.Malformed failure is = let e : Err failures.Control ≡ Err failure = is in cc
kept-control keeping.Outside failure is = let e : Err failures.Control ≡ Err failure = is in cc

control-no-usage : (failure : Failure) → failure ≡ failures.Control
    → (failure_status failure ≢ ends.Usage) × (failure ≢ Output)
control-no-usage failure is = (
  (λ usage. let e = ap failure_status (sym is) ∙ usage in cc),
  (λ output. let e = sym is ∙ output in cc),
)

-- nor is one of `keep` a wrong usage, or one of the output
keeping-no-usage : {F : Type 0} (state_of : F → FileState) (failure : Failure) → FailsToKeep state_of failure
    → (failure_status failure ≢ ends.Usage) × (failure ≢ Output)
keeping-no-usage state_of failure (inl (fault, is)) =
    (disk-no-usage failure (of-file fault failure is), disk-no-output failure (of-file fault failure is))
keeping-no-usage state_of failure (inr (inl nobody)) = control-no-usage failure nobody.is
keeping-no-usage state_of failure (inr (inr (end, is, kept))) = control-no-usage failure (kept-control end failure is)

done-or-refused : (refused : Bool) → ((if refused then ends.Refused else ends.Done) ≡ ends.Done)
    ⊎ ((if refused then ends.Refused else ends.Done) ≡ ends.Refused)
done-or-refused true = inr refl
done-or-refused false = inl refl

pass-ends : (is_all : Bool) (summary : Summary) (status : Status) → status ≡ pass_status is_all summary
    → (status ≡ ends.Done) ⊎ (status ≡ ends.Refused)
pass-ends is_all summary status is = elim (done-or-refused (is_all && nat_lt 0 summary.dropped)) [
  | inl done ↦ inl (is ∙ done)
  | inr refused ↦ inr (is ∙ refused)
]

applied-status : (outcomes : List (Option Refusal)) (status : Status) → status ≡ outcomes_status outcomes
    → (status ≡ ends.Done) ⊎ (status ≡ ends.Refused)
applied-status outcomes status is = elim (done-or-refused (list_any is_some outcomes)) [
  | inl done ↦ inl (is ∙ done)
  | inr refused ↦ inr (is ∙ refused)
]

module _ {F W : Type 0} (T : Type 0) (state_of : F → FileState) (left_in : F → Option (List ℕ))
    (contents : W → Option (List ℕ)) (failed : W → Bool) (input : InputRead) (old : W)
    (result : Result Status Failure) (new : W) where
  -- it is no wrong usage
  abbrev NoUsage : Type 0
  NoUsage = IfErr result (λ failure. failure_status failure ≢ ends.Usage)

  -- nothing is printed by a failure, unless it is one of the output
  abbrev Silent : Type 0
  Silent = IfErr result (λ failure. failure ≢ Output → new ≡ old)

  -- one of the output is that of a print that failed
  abbrev Broken : Type 0
  Broken = IfErr result (λ failure. failure ≡ Output → failed new ≡ true)

  no-usage : (action : Action) → NoUsage
      → IfErr result (λ failure. failure_status failure ≡ ends.Usage → WrongValues action × (new ≡ old))
  no-usage action other = IfErr-weaker result _ _ (λ failure never usage. absurd (never usage)) other

  before : Silent → IfErr result (λ failure. failure ≢ Output → contents new ≡ contents old)
  before silent = IfErr-weaker result _ _ (λ failure still other. ap contents (still other)) silent

  kept : Silent → IfErr result (λ failure. failure_status failure ≡ ends.Disk → contents new ≡ contents old)
  kept silent = IfErr-weaker result _ _ (λ failure still disk. ap contents (still (of-disk failure disk))) silent

  pub opens : IfOk result (λ status. IfSome input.octets (λ octets. Prints octets (contents old) (contents new) status))
      → IfOk result (λ status. (status ≡ ends.Done) ⊎ (status ≡ ends.Refused))
      → IfErr result (λ failure. failure_status failure ≡ ends.Fault) → Silent
      → IfErr result (FailsAs T state_of left_in Open input (contents old) (contents new)) → Broken
      → Performs T state_of left_in contents failed Open input old result new
  opens printed status is_fault silent fails broken = record {
    does = printed;
    status = status;
    usage = IfErr-weaker result _ _ (λ failure fault usage. absurd (let e = sym fault ∙ usage in cc)) is_fault;
    disk = IfErr-weaker result _ _ (λ failure fault disk. absurd (let e = sym fault ∙ disk in cc)) is_fault;
    before = before silent;
    fails = fails;
    broken = broken;
  }

  pub formats : (disk sci : Bor (List ℕ)) (tx_block rx_block : ℕ) (block : Option (Bor (List ℕ))) (is_over : Bool)
      → IfOk result
      (Does T state_of left_in (OnDisk (Format disk sci tx_block rx_block block is_over)) input (contents old)
      (contents new))
      → IfErr result (λ failure. failure_status failure ≡ ends.Usage
      → WrongValues (OnDisk (Format disk sci tx_block rx_block block is_over)) × (new ≡ old)) → Silent
      → IfErr result
      (FailsAs T state_of left_in (OnDisk (Format disk sci tx_block rx_block block is_over)) input (contents old)
      (contents new)) → Broken
      → Performs T state_of left_in contents failed (OnDisk (Format disk sci tx_block rx_block block is_over)) input
      old result new
  formats disk sci tx_block rx_block block is_over done usage silent fails broken = record {
    does = done;
    status = IfOk-weaker result _ _
        (λ status all. let (identity, sci_is, layout, layout_is, formatted, printed, is) = all in inl is) done;
    usage = usage;
    disk = IfErr-weaker result _ _ (λ failure same disk. ((λ is. absurd cc), same disk)) (kept silent);
    before = before silent;
    fails = fails;
    broken = broken;
  }

  pub applies : (disk file : Bor (List ℕ))
      → IfOk result (Does T state_of left_in (OnDisk (Apply disk file)) input (contents old) (contents new)) → NoUsage
      → IfErr result (λ failure. failure ≢ Output
      → (outcomes : List (Option Refusal)) × Appends (contents old) (contents new) (outcome_lines 1 outcomes))
      → IfErr result (FailsAs T state_of left_in (OnDisk (Apply disk file)) input (contents old) (contents new))
      → Broken
      → Performs T state_of left_in contents failed (OnDisk (Apply disk file)) input old result new
  applies disk file done other lines fails broken = record {
    does = done;
    status = IfOk-weaker result _ _
        (λ status all. applied-status all.applies.applies.outcomes status all.applies.applies.status_is) done;
    usage = no-usage (OnDisk (Apply disk file)) other;
    disk = IfErr-weaker result _ _ (λ failure printed disk. ((λ is. absurd cc), printed (of-disk failure disk))) lines;
    before = lines;
    fails = fails;
    broken = broken;
  }

  pub shows : (disk : Bor (List ℕ))
      → IfOk result (Does T state_of left_in (OnDisk (Show disk)) input (contents old) (contents new))
      → NoUsage → Silent
      → IfErr result (FailsAs T state_of left_in (OnDisk (Show disk)) input (contents old) (contents new)) → Broken
      → Performs T state_of left_in contents failed (OnDisk (Show disk)) input old result new
  shows disk done other silent fails broken = record {
    does = done;
    status = IfOk-weaker result _ _ (λ status all. inl all.1) done;
    usage = no-usage (OnDisk (Show disk)) other;
    disk = IfErr-weaker result _ _ (λ failure same disk. ((λ is. absurd cc), same disk)) (kept silent);
    before = before silent;
    fails = fails;
    broken = broken;
  }

  -- nothing is printed by a keeper
  pub keeps : (disk socket : Bor (List ℕ)) → new ≡ old → IfOk result (KeepsIn state_of)
      → IfErr result (FailsToKeep state_of)
      → Performs T state_of left_in contents failed (OnDisk (Keep disk socket)) input old result new
  keeps disk socket same done fails = record {
    does = IfOk-weaker result _ _ (λ status all. (all, ap contents same)) done;
    status = IfOk-weaker result _ _ (λ status all. let (end, is, kept) = all in inl (kept-done end status is)) done;
    usage = IfErr-weaker result _ _ (λ failure is usage. absurd ((keeping-no-usage state_of failure is).0 usage)) fails;
    disk = IfErr-weaker result _ _ (λ failure is disk. ((λ is. absurd cc), ap contents same)) fails;
    before = IfErr-weaker result _ _ (λ failure is other. ap contents same) fails;
    fails = fails;
    broken = IfErr-weaker result _ _ (λ failure is output. absurd ((keeping-no-usage state_of failure is).1 output))
        fails;
  }

  pub protects : (disk from to : Bor (List ℕ)) (is_all : Bool)
      → IfOk result
      (Does T state_of left_in (OnFrames (Protect disk from to is_all)) input (contents old) (contents new)) → NoUsage
      → Silent
      → IfErr result
      (FailsAs T state_of left_in (OnFrames (Protect disk from to is_all)) input (contents old) (contents new))
      → Broken
      → Performs T state_of left_in contents failed (OnFrames (Protect disk from to is_all)) input old result new
  protects disk from to is_all done other silent fails broken = record {
    does = done;
    status = IfOk-weaker result _ _ (λ status all. let (summary, passes, printed, is) = all in
        pass-ends is_all summary status is) done;
    usage = no-usage (OnFrames (Protect disk from to is_all)) other;
    disk = IfErr-weaker result _ _ (λ failure same disk. ((λ is. absurd cc), same disk)) (kept silent);
    before = before silent;
    fails = fails;
    broken = broken;
  }

  pub validates : (disk from to : Bor (List ℕ)) (is_all : Bool) → IfOk result
      (Does T state_of left_in (OnFrames (Validate disk from to is_all false)) input (contents old) (contents new))
      → NoUsage
      → Silent
      → IfErr result
      (FailsAs T state_of left_in (OnFrames (Validate disk from to is_all false)) input (contents old) (contents new))
      → Broken
      → Performs T state_of left_in contents failed (OnFrames (Validate disk from to is_all false)) input old result new
  validates disk from to is_all done other silent fails broken = record {
    does = done;
    status = IfOk-weaker result _ _ (λ status all. let (summary, passes, printed, is) = all in
        pass-ends is_all summary status is) done;
    usage = no-usage (OnFrames (Validate disk from to is_all false)) other;
    disk = IfErr-weaker result _ _ (λ failure same disk. ((λ is. absurd cc), same disk)) (kept silent);
    before = before silent;
    fails = fails;
    broken = broken;
  }

  pub judges : (disk from to : Bor (List ℕ)) (is_all : Bool)
      → IfOk result
      (Does T state_of left_in (OnFrames (Validate disk from to is_all true)) input (contents old) (contents new))
      → NoUsage → IfErr result (λ failure. failure ≢ Output → PrintsVerdicts (contents old) (contents new))
      → IfErr result
      (FailsAs T state_of left_in (OnFrames (Validate disk from to is_all true)) input (contents old) (contents new))
      → Broken
      → Performs T state_of left_in contents failed (OnFrames (Validate disk from to is_all true)) input old result new
  judges disk from to is_all done other front fails broken = record {
    does = done;
    status = IfOk-weaker result _ _ (λ status all. let (summary, verdicts, passes, printed, is) = all in
        pass-ends is_all summary status is) done;
    usage = no-usage (OnFrames (Validate disk from to is_all true)) other;
    disk = IfErr-weaker result _ _ (λ failure printed disk. ((λ is. absurd cc), printed (of-disk failure disk))) front;
    before = front;
    fails = fails;
    broken = broken;
  }

  -- which of the two, as its flag says
  pub validates-so : (disk from to : Bor (List ℕ)) (is_all is_each b : Bool) → is_each ≡ b
      → Performs T state_of left_in contents failed (OnFrames (Validate disk from to is_all b)) input old result new
      → Performs T state_of left_in contents failed (OnFrames (Validate disk from to is_all is_each)) input
      old result new
  validates-so disk from to is_all is_each b is performs =
      subst (λ (x : Bool).
      Performs T state_of left_in contents failed (OnFrames (Validate disk from to is_all x)) input old result new)
      (sym is) performs

  pub relays : (disk : Bor (List ℕ)) (controlled common : WireEnds) (running : Running)
      → RelayedAs (ComesToBy state_of running.keeper (course_of T disk.now running))
      (RelayFailsBy state_of running.keeper (course_of T disk.now running)) contents failed controlled common
      old result new
      → Performs T state_of left_in contents failed (OnFrames (Relay disk controlled common running)) input
      old result new
  relays disk controlled common running relayed = record {
    does = relayed.printed;
    status = IfOk-weaker result _ _ (λ status all. let (summary, comes, spelled, printed, is) = all in inl is)
        relayed.printed;
    usage = relayed.usage;
    disk = IfErr-weaker result _ _ (λ failure same disk. ((λ is. absurd cc), same disk)) (kept relayed.silent);
    before = before relayed.silent;
    fails = relayed.ended;
    broken = relayed.broken;
  }

  -- how an answer ends that was printed
  answer-status : (asked : Question) (is_json : Bool) (status : Status)
      → PrintsAnswer asked is_json (contents old) (contents new) status
      → (status ≡ ends.Done) ⊎ (status ≡ ends.Refused)
  answer-status question.Show is_json status printed = inl printed.2
  answer-status question.Counters is_json status printed = inl printed.2
  answer-status question.Keys is_json status printed = inl printed.2
  answer-status question.Traffic is_json status printed = inl printed.2
  answer-status question.About is_json status printed = inl printed.2
  answer-status question.Stop is_json status printed = inl printed.2
  answer-status (question.Apply file) is_json status printed = applied-status printed.0 status printed.2

  pub asks : (path : Bor (List ℕ)) (asked : Question) (is_json : Bool)
      → IfOk result (PrintsAnswer asked is_json (contents old) (contents new))
      → IfErr result (AskFails path.now asked)
      → IfErr result (λ failure. failure ≢ Output → PrintsFront asked (contents old) (contents new)) → Broken
      → Performs T state_of left_in contents failed (Tool (Ask path asked is_json)) input old result new
  asks path asked is_json done fails front broken = record {
    does = done;
    status = IfOk-weaker result _ _ (answer-status asked is_json) done;
    usage =
        IfErr-weaker result _ _ (λ failure is usage. absurd (asking-no-usage path.now asked failure is usage)) fails;
    disk = IfErr-weaker result _ _ (λ failure printed disk. ((λ is. absurd cc), printed (of-disk failure disk))) front;
    before = front;
    fails = fails;
    broken = broken;
  }

  pub keys : (is_long : Bool) → IfOk result
      (λ status. GivesKey is_long (contents old) (contents new) × (status ≡ ends.Done)) → IfErr result IsOfKey
      → Silent → Broken → Performs T state_of left_in contents failed (Tool (Key is_long)) input old result new
  keys is_long done fails silent broken = record {
    does = done;
    status = IfOk-weaker result _ _ (λ status all. inl all.1) done;
    usage = IfErr-weaker result _ _ (λ failure is usage. absurd ((key-no-usage failure is).0 usage)) fails;
    disk = IfErr-weaker result _ _ (λ failure is disk. absurd ((key-no-usage failure is).1 disk)) fails;
    before = before silent;
    fails = fails;
    broken = broken;
  }

  pub inspects : (from : Bor (List ℕ)) → IfOk result
      (λ status. Inspects (contents old) (contents new) × (status ≡ ends.Done)) → IfErr result IsOfInspecting
      → IfErr result (InspectFails from.now (contents old) (contents new))
      → IfErr result (λ failure. failure ≢ Output → PrintsFrames (contents old) (contents new))
      → Broken → Performs T state_of left_in contents failed (Tool (Inspect from)) input old result new
  inspects from done ours fails front broken = record {
    does = done;
    status = IfOk-weaker result _ _ (λ status all. inl all.1) done;
    usage = IfErr-weaker result _ _ (λ failure is usage. absurd ((inspecting-no-usage failure is).0 usage)) ours;
    disk = IfErr-weaker result _ _ (λ failure is disk. absurd ((inspecting-no-usage failure is).1 disk)) ours;
    before = front;
    fails = fails;
    broken = broken;
  }

  -- how a check ends that printed what it was to print
  check-status : (disk : Option (Bor (List ℕ))) (status : Status)
      → Checks state_of left_in disk (contents old) (contents new) status
      → (status ≡ ends.Done) ⊎ (status ≡ ends.Refused)
  check-status None status printed = inl printed.1
  check-status (Some disk) status printed = applied-status printed.outcomes status printed.status_is

  -- a failure of a check is no wrong usage
  check-no-usage : (name : List ℕ) (disk : Option (Bor (List ℕ))) (failure : Failure)
      → CheckEnds state_of left_in name disk failure
      → failure_status failure ≢ ends.Usage
  check-no-usage name None failure is = (checking-no-usage left_in name failure is).0
  check-no-usage name (Some disk) failure (inl is) = (checking-no-usage left_in name failure is).0
  check-no-usage name (Some disk) failure (inr (octets, end, commands, says, by_file, inl fails)) =
      trial-no-usage failure (of-trial state_of disk.now end commands failure fails)
  check-no-usage name (Some disk) failure (inr (octets, end, commands, says, by_file, inr spent)) =
      spent-no-usage commands failure spent

  pub checks : (file : Bor (List ℕ)) (disk : Option (Bor (List ℕ)))
      → IfOk result (Checks state_of left_in disk (contents old) (contents new))
      → IfErr result (CheckEnds state_of left_in file.now disk) → Silent → Broken
      → Performs T state_of left_in contents failed (Tool (Check file disk)) input old result new
  checks file disk done fails silent broken = record {
    does = done;
    status = IfOk-weaker result _ _ (check-status disk) done;
    usage = IfErr-weaker result _ _ (λ failure is usage. absurd (check-no-usage file.now disk failure is usage)) fails;
    disk = IfErr-weaker result _ _ (λ failure same disk. ((λ is. absurd cc), same disk)) (kept silent);
    before = before silent;
    fails = fails;
    broken = broken;
  }

  pub plans : (file : Bor (List ℕ)) (end : End) (stage : Stage) → IfOk result
      (λ status. PrintsPlan left_in end stage (contents old) (contents new)
      × (status ≡ ends.Done))
      → IfErr result (PlanFails left_in file.now end stage) → Silent → Broken
      → Performs T state_of left_in contents failed (Tool (Plan file end stage)) input old result new
  plans file end stage done fails silent broken = record {
    does = done;
    status = IfOk-weaker result _ _ (λ status all. inl all.1) done;
    usage = IfErr-weaker result _ _
        (λ failure is usage.
        absurd (planning-no-usage left_in file.now end stage failure is usage)) fails;
    disk = IfErr-weaker result _ _ (λ failure same disk. ((λ is. absurd cc), same disk)) (kept silent);
    before = before silent;
    fails = fails;
    broken = broken;
  }

  pub examines : (disk : Bor (List ℕ)) (is_json : Bool)
      → IfOk result (PrintsExamined state_of is_json (contents old) (contents new))
      → IfErr result (ExamineFails state_of disk.now) → Silent → Broken
      → Performs T state_of left_in contents failed (Tool (Examine disk is_json)) input old result new
  examines disk is_json done fails silent broken = record {
    does = done;
    status = IfOk-weaker result _ _ (λ status (text, is, printed). said-status _ _ _ _ is.says) done;
    usage = IfErr-weaker result _ _
        (λ failure is usage. absurd (examining-no-usage state_of disk.now failure is usage)) fails;
    disk = IfErr-weaker result _ _ (λ failure same disk. ((λ is. absurd cc), same disk)) (kept silent);
    before = before silent;
    fails = fails;
    broken = broken;
  }

  pub tells : IfOk result (λ status. Appends (contents old) (contents new) about_text × (status ≡ ends.Done))
      → IfErr result (λ failure. (failure ≡ failures.Memory) ⊎ (failure ≡ Output)) → Silent → Broken
      → Performs T state_of left_in contents failed (Tool About) input old result new
  tells done fails silent broken = record {
    does = done;
    status = IfOk-weaker result _ _ (λ status all. inl all.1) done;
    usage = IfErr-weaker result _ _ (λ failure is usage. absurd (output-no-usage failure is usage)) fails;
    disk = IfErr-weaker result _ _ (λ failure same disk. ((λ is. absurd cc), same disk)) (kept silent);
    before = before silent;
    fails = fails;
    broken = broken;
  }
