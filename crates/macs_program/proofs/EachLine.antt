-- The lines of verdicts, one after another.
use Rattle.std.proofs.Common.{◌≡◌, ◌≤◌, ◌<◌, ◌⊎◌, ◌∙◌, ◌+◌, ◌^◌, ℕ, Bool, true, false, List, [], ◌∷◌, length}
use Rattle.std.proofs.Common.{codes}
use Rattle.std.proofs.Common.{Option, Result, Ok, Err, IfErr, inl, inr, ap, arith, refl, subst, sym}
use Rattle.std.proofs.KnownBytes.{Appends-nil, Appends-trans}
use Rattle.std.specs.Io.KnownBytes.{Appends}
use Rattle.macs_disk.specs.Disk.{Disk}
use Rattle.macs_edge.specs.CaptureRuns.{Run, run_of}
use Rattle.macs_edge.specs.Telling.{Telling, TellsAll, telling_of}
use Rattle.macs_edge.specs.Wires.{saturated}
use Rattle.macs_edge.specs.declared.capture_runs.Summary.{Summary}
use Rattle.macs_edge.proofs.Judged.{verdicts-few}
use Rattle.macs_pcap.specs.Faults.{max_records}
use Rattle.macs_rxsc.specs.declared.verdict.Kind.TheVariants as kind
use Rattle.macs_rxsc.specs.declared.verdict.Reason.TheVariants as reason
use Rattle.macs_rxsc.specs.declared.verdict.Verdict.{Verdict}
use Rattle.macs_rxsc.specs.declared.verdict.Verdict.TheVariants.{Delivered, Discarded, HeldBack}
use Rattle.macs_texts.specs.Counting.{verdict_words}
use Rattle.macs_program.specs.Judging.{IsOfRun, JudgesCapture, PrintsEach, StopsEach, TellsLine, ValidatesEach}
use Rattle.macs_program.specs.Judging.{verdict_line}
use Rattle.macs_program.specs.Judging.{verdict_lines}
use Rattle.macs_program.specs.Summing.{pass_status, summary_line}
use Rattle.macs_edge.specs.declared.settling.Side.TheVariants.{Common}
use Rattle.macs_cli.specs.declared.failure.Failure.{Failure}
use Rattle.macs_cli.specs.declared.failure.Failure.TheVariants.{Output}
use Rattle.macs_program.specs.declared.judging.VerdictLines.{VerdictLines}
use Rattle.macs_cli.specs.declared.status.Status.{Status}

-- ---- words

literal : (text : List ℕ) (n : ℕ) → length text ≡ n → n ≤ 12 → length text ≤ 12
literal text n is within = omega (arith, is, within)

pub word-short : (v : Verdict) → length (verdict_words v) ≤ 12
word-short (Delivered kind.Ok) = literal (codes "ok") 2 refl (omega arith)
word-short (Delivered kind.Delayed) = literal (codes "delayed") 7 refl (omega arith)
word-short (Delivered kind.Invalid) = literal (codes "invalid") 7 refl (omega arith)
word-short (Delivered kind.Untagged) = literal (codes "untagged") 8 refl (omega arith)
word-short (Delivered kind.UnknownSci) = literal (codes "unknown-sci") 11 refl (omega arith)
word-short (Delivered kind.UnusedSa) = literal (codes "unused-sa") 9 refl (omega arith)
word-short (Discarded reason.Runt) = literal (codes "runt") 4 refl (omega arith)
word-short (Discarded reason.Oversize) = literal (codes "oversize") 8 refl (omega arith)
word-short (Discarded reason.NoTag) = literal (codes "no-tag") 6 refl (omega arith)
word-short (Discarded reason.BadTag) = literal (codes "bad-tag") 7 refl (omega arith)
word-short (Discarded reason.ForKay) = literal (codes "for-kay") 7 refl (omega arith)
word-short (Discarded reason.NoSci) = literal (codes "no-sci") 6 refl (omega arith)
word-short (Discarded reason.NotUsingSa) = literal (codes "not-using-sa") 12 refl (omega arith)
word-short (Discarded reason.Late) = literal (codes "late") 4 refl (omega arith)
word-short (Discarded reason.NotValid) = literal (codes "not-valid") 9 refl (omega arith)
word-short HeldBack = literal (codes "held-back") 9 refl (omega arith)

-- ---- lines

-- one that comes next, below the greatest number
next : (count at new : ℕ) → count ≡ at → at + 1 < 2 ^ 64 → new ≡ saturated (count + 1) → new ≡ at + 1
next count at new is few counts = omega (arith, is, few, counts)

module _ {W : Type 0} (contents : W → Option (List ℕ)) (failed : W → Bool) where
  -- once a line could not be printed none is
  stays-failed : (verdicts : List Verdict) (old new : Telling VerdictLines W)
      → TellsAll (TellsLine contents failed) old verdicts new
      → old.teller.has_failed ≡ true → failed old.to ≡ true → (new.teller.has_failed ≡ true) × (failed new.to ≡ true)
  stays-failed [] old new same is broken =
      subst (λ (t : Telling VerdictLines W). (t.teller.has_failed ≡ true) × (failed t.to ≡ true)) (sym same)
      (is, broken)
  stays-failed (verdict ∷ more) old new (between, inl (was, same, kept), later) is broken =
      stays-failed more between new later (ap (λ (l : VerdictLines). l.has_failed) same ∙ is) (ap failed kept ∙ broken)
  stays-failed (verdict ∷ more) old new (between, inr (inl (was, still, count, printed)), later) is broken =
      absurd (let wrong : true ≡ false = sym is ∙ was in cc)
  stays-failed (verdict ∷ more) old new (between, inr (inr (fails, broke)), later) is broken =
      stays-failed more between new later fails broke

  -- the lines are printed, or the stream failed
  lines-told : (verdicts : List Verdict) (at : ℕ) (old new : Telling VerdictLines W)
      → TellsAll (TellsLine contents failed) old verdicts new → old.teller.has_failed ≡ false → old.teller.count ≡ at
      → at + length verdicts < 2 ^ 64
      → ((new.teller.has_failed ≡ false)
      × Appends (contents old.to) (contents new.to) (verdict_lines (at + 1) verdicts))
      ⊎ ((new.teller.has_failed ≡ true) × (failed new.to ≡ true))
  lines-told [] at old new same none is few = inl (
    subst (λ (t : Telling VerdictLines W). t.teller.has_failed ≡ false) (sym same) none,
    subst (λ (t : Telling VerdictLines W). Appends (contents old.to) (contents t.to) []) (sym same)
        (Appends-nil (contents old.to)),
  )
  lines-told (verdict ∷ more) at old new (between, inl (was, same, kept), later) none is few =
      absurd (let wrong : true ≡ false = sym was ∙ none in cc)
  lines-told (verdict ∷ more) at old new (between, inr (inr (fails, broken)), later) none is few =
      inr (stays-failed more between new later fails broken)
  lines-told (verdict ∷ more) at old new (between, inr (inl (was, still, count, printed)), later) none is few =
      let number : between.teller.count ≡ at + 1 =
      next old.teller.count at between.teller.count is (omega (arith, few)) count in
      let here : Appends (contents old.to) (contents between.to) (verdict_line (at + 1) verdict) =
      subst (λ (n : ℕ). Appends (contents old.to) (contents between.to) (verdict_line n verdict)) number printed in
      elim (lines-told more (at + 1) between new later still number (omega (arith, few))) [
        | inl (fine, lines) ↦ inl (
          fine,
          Appends-trans (contents old.to) (contents between.to) (contents new.to) (verdict_line (at + 1) verdict)
              (verdict_lines (at + 1 + 1) more) here lines,
        )
        | inr broken ↦ inr broken
      ]

  -- ---- a run

  -- before its first line
  abbrev pub fresh : VerdictLines
  fresh = record { count = 0; has_failed = false }

  module _ {D : Type 0} (disk_of : D → Disk) (old new : Run D) (before after : W) (lines : VerdictLines) where
    -- what a run with lines comes to
    abbrev pub IsJudged : Result Summary Failure → Type 0
    IsJudged result = (verdicts : List Verdict) × JudgesCapture disk_of old result verdicts new
        × TellsAll (TellsLine contents failed) (telling_of fresh before) verdicts (telling_of lines after)

    few : (result : Result Summary Failure) (verdicts : List Verdict) → JudgesCapture disk_of old result verdicts new
        → length verdicts ≤ max_records
    few (Ok summary) verdicts (sink, judges, flushed) =
        verdicts-few disk_of old (run_of new.endpoint new.source sink) verdicts (Ok summary) judges
    few (Err failure) verdicts (sink, answer, judges, ends) =
        verdicts-few disk_of old (run_of new.endpoint new.source sink) verdicts answer judges

    told : (result : Result Summary Failure) (verdicts : List Verdict) → JudgesCapture disk_of old result verdicts new
        → TellsAll (TellsLine contents failed) (telling_of fresh before) verdicts (telling_of lines after)
        → ((lines.has_failed ≡ false) × Appends (contents before) (contents after) (verdict_lines 1 verdicts))
        ⊎ ((lines.has_failed ≡ true) × (failed after ≡ true))
    told result verdicts judges telling =
        let most = few result verdicts judges in
        lines-told verdicts 0 (telling_of fresh before) (telling_of lines after) telling refl refl (omega (arith, most))

    -- a line could not be printed
    pub each-broken : (result : Result Summary Failure) → IsJudged result → lines.has_failed ≡ true
        → StopsEach disk_of contents failed old before Output new after
    each-broken result (verdicts, judges, telling) is = elim (told result verdicts judges telling) [
      | inl (fine, printed) ↦ absurd (let wrong : true ≡ false = sym is ∙ fine in cc)
      | inr (fails, broken) ↦ inr (refl, broken, result, verdicts, judges)
    ]

    -- each was
    pub each-printed : (result : Result Summary Failure) → IsJudged result → IfErr result IsOfRun
        → lines.has_failed ≡ false
        → PrintsEach disk_of contents failed old before result new after
    each-printed (Ok summary) (verdicts, judges, telling) run is = elim (told (Ok summary) verdicts judges telling) [
      | inl (fine, printed) ↦ (verdicts, judges, printed)
      | inr (fails, broken) ↦ absurd (let wrong : true ≡ false = sym fails ∙ is in cc)
    ]
    each-printed (Err failure) (verdicts, judges, telling) run is = elim (told (Err failure) verdicts judges telling) [
      | inl (fine, printed) ↦ inl (run, verdicts, judges, printed)
      | inr (fails, broken) ↦ absurd (let wrong : true ≡ false = sym fails ∙ is in cc)
    ]

  module _ {D : Type 0} (disk_of : D → Disk) (is_all : Bool) (old new : Run D) (before : W) where
    -- a run that fails, with its line
    pub each-stopped : (after : W) (fault failure : Failure) (result : Result Status Failure) → result ≡ Err failure
        → failure ≡ fault
        → StopsEach disk_of contents failed old before fault new after
        → ValidatesEach disk_of contents failed is_all old before result new after
    each-stopped after fault failure result is same stops =
        subst (λ (r : Result Status Failure). ValidatesEach disk_of contents failed is_all old before r new after)
        (sym (subst (λ (f : Failure). result ≡ Err f) same is)) (record { printed = tt; stopped = stops })

    -- its line cannot be printed
    pub each-unsummed : (between after : W) (summary : Summary) (fault : Failure) → fault ≡ Output → failed after ≡ true
        → PrintsEach disk_of contents failed old before (Ok summary) new between
        → StopsEach disk_of contents failed old before fault new after
    each-unsummed between after summary fault is broken (verdicts, judges, printed) =
        inr (is, broken, Ok summary, verdicts, judges)

    -- it is
    pub each-summed : (between after : W) (summary : Summary) (status : Status) (told said : List ℕ) → told ≡ said
        → said ≡ summary_line Common summary
        → PrintsEach disk_of contents failed old before (Ok summary) new between
        → Appends (contents between) (contents after) told → status ≡ pass_status is_all summary
        → ValidatesEach disk_of contents failed is_all old before (Ok status) new after
    each-summed between after summary status told said same is (verdicts, judges, printed) more ends = record {
      printed = (
        summary,
        verdicts,
        judges,
        Appends-trans (contents before) (contents between) (contents after) (verdict_lines 1 verdicts)
            (summary_line Common summary) printed
            (subst (λ (t : List ℕ). Appends (contents between) (contents after) t) (same ∙ is) more),
        ends,
      );
      stopped = tt;
    }
