-- The frames of a capture that are inspected, one after another.
use Rattle.std.proofs.Common.{◌≡◌, ◌≢◌, ◌+◌, ◌<◌, ◌≤◌, ◌++◌, if◌then◌else◌, ℕ, Bool, true, false, List, [], ◌∷◌}
use Rattle.std.proofs.Common.{length, Option, Result, Ok, Err, inl, inr, refl, sym, ap, ◌∙◌, subst}
use Rattle.std.proofs.Common.{arith, append_assoc, append-nil}
use Rattle.std.specs.Io.KnownBytes.{Appends}
use Rattle.std.proofs.KnownBytes.{Appends-nil, Appends-trans}
use Rattle.macs_frame.specs.Tag.{IsForKay, Tag, control, has_sci, short_length, tag_of}
use Rattle.macs_frame.specs.declared.tag.Parts.{Parts}
use Rattle.macs_frame.specs.declared.tag.SecTag.{SecTag}
use Rattle.std.proofs.lemmas.Result.{IfErr-weaker, IfOk-weaker}
use Rattle.macs_pcap.specs.Reading.{ReadsHeader}
use Rattle.macs_pcap.specs.Records.{CaptureRecord}
use Rattle.macs_pcap.specs.States.{SourceState}
use Rattle.macs_pcap.specs.declared.fault.PcapFault.{PcapFault}
use Rattle.macs_pcap.specs.declared.header.Header.{Header}
use Rattle.macs_edge.proofs.Behind.{left-more, longer}
use Rattle.macs_offline.specs.Inspecting.{AreLinesOf, FailsSo, HasInspected, InspectsNext}
use Rattle.macs_offline.specs.Inspecting.{IsLineOf, IsOfInspecting, IsSaidOf, PrintsFrames}
use Rattle.macs_offline.specs.Inspecting.{PrintsLines, RunsCapture, RunsRecords, StopsCapture, StopsNext}
use Rattle.macs_offline.specs.Inspecting.{tag_text}
use Rattle.macs_cli.specs.declared.failure.Failure.{Failure}
use Rattle.macs_cli.specs.declared.failure.Failure.TheVariants as failures
use Rattle.macs_cli.specs.declared.status.Status.{Status}
use Rattle.macs_offline.specs.declared.stop.Stop.{Stop}
use Rattle.macs_offline.specs.declared.stop.Stop.TheVariants as stops
use Rattle.macs_cli.specs.Reasons.{Complains, Tells}
use Rattle.macs_offline.specs.CaptureReasons.{header_text, record_text}
use Rattle.std.proofs.Common.{codes}

-- ---- lines

-- one line more
lines-more : (at : ℕ) (records : List CaptureRecord) (taken : CaptureRecord) (text more : List ℕ)
    → AreLinesOf at records text
    → IsLineOf (at + length records) taken.frame more → AreLinesOf at (records ++ taken ∷ []) (text ++ more)
lines-more at [] taken text more lines one =
    let place : at + 0 ≡ at = omega arith in (
      more,
      [],
      subst (λ (k : ℕ). IsLineOf k taken.frame more) place one,
      ap (λ (t : List ℕ). t ++ more) lines
          ∙ sym (append-nil more),
      refl,
    )
lines-more at (first ∷ others) taken text more (own, rest, own_line, is, lines) one =
    let place : at + length (first ∷ others) ≡ (at + 1) + length others = omega arith in (
      own,
      rest ++ more,
      own_line,
      ap (λ (t : List ℕ). t ++ more) is ∙ append_assoc own rest more,
      lines-more (at + 1) others taken rest more lines (subst (λ (k : ℕ). IsLineOf k taken.frame more) place one),
    )

-- ---- what was inspected so far

-- so many frames were
abbrev pub HasRead : Bool → SourceState → Option (List ℕ) → ℕ → SourceState → Option (List ℕ) → Type 0
HasRead big old before count new after = (records : List CaptureRecord) × HasInspected big old before records new after
    × (length records ≡ count)

pub one-read : (big : Bool) (old between new : SourceState) (before known after : Option (List ℕ)) (count : ℕ)
    (more : Bool) → more ≡ true
    → HasRead big old before count between known → InspectsNext big count between known (Ok more) new after
    → HasRead big old before (count + 1) new after
one-read big old between new before known after count more is (records, has, size) next =
    let (taken, room, reads, text, line, printed) =
    subst (λ (b : Bool). InspectsNext big count between known (Ok b) new after) is next in
    let (front, lines, shown) = has.printed in
    let place : count + 1 ≡ 1 + length records = omega (arith, size) in (
      records ++ taken ∷ [],
      record {
        taken = left-more old.left between.left new.left big records taken has.taken reads.taken;
        printed = (
          front ++ text,
          lines-more 1 records taken front text lines (subst (λ (k : ℕ). IsLineOf k taken.frame text) place line),
          Appends-trans before known after front text shown printed,
        );
      },
      longer records taken ∙ ap (λ (n : ℕ). n + 1) size,
    )

-- a frame with a good SecTAG has an SL
pub has_short_length : (frame : List ℕ) (parts : Parts) → Tag frame parts → 15 < length frame
has_short_length frame parts tag = go (has_sci (control frame)) tag.reading.good.whole
  where
    go : (explicit : Bool) → (if explicit then 28 else 20) ≤ length frame → 15 < length frame
    go true whole = omega (arith, whole)
    go false whole = omega (arith, whole)

-- what is said of it
pub says_tag : (frame : List ℕ) (parts : Parts) (short octets : ℕ) (text : List ℕ)
    → Tag frame parts × (¬ IsForKay frame) → short ≡ short_length frame
    → octets ≡ length frame → text ≡ tag_text parts.tag short octets → IsSaidOf frame text
says_tag frame parts short octets text (tag, other) is_short is_octets said =
    inr (
      parts,
      tag,
      other,
      said ∙ ap (λ (t : SecTag). tag_text t short octets) tag.reading.tag
          ∙ ap (λ (n : ℕ). tag_text (tag_of frame) n octets) is_short
          ∙ ap (λ (n : ℕ). tag_text (tag_of frame) (short_length frame) n) is_octets,
    )

-- ---- a whole capture

pub capture-run : (old behind new : SourceState) (header : Header) (before after : Option (List ℕ))
    (result : Result Status Stop)
    → ReadsHeader old behind (Ok header) → RunsRecords header.big behind before result new after
    → RunsCapture old before result new after
capture-run old behind new header before after result begins runs = record {
  done = IfOk-weaker result _ _
      (λ status all. (record { header = header; behind = behind; begins = begins; records = all.0 }, all.1)) runs.done;
  stopped = IfErr-weaker result _ _ (λ stop is. inr (header, behind, begins, is)) runs.stopped;
}

-- its failures
of-complaint : (Holds : List ℕ → Type 0) (failure : Failure) → Complains Holds failure → IsOfInspecting failure
of-complaint Holds failure (inl memory) = subst IsOfInspecting (sym memory) tt
of-complaint Holds failure (inr (text, is, holds)) = subst IsOfInspecting (sym is) tt

abbrev Told : List ℕ → List ℕ → List ℕ → Type 0
Told name why = Tells (codes "capture") name why

pub of-stop : (name : List ℕ) (stop : Stop) (failure : Failure) → FailsSo name stop failure → IsOfInspecting failure
of-stop name (stops.Header fault) failure (is_pcapng, complains) =
    of-complaint (Told name (header_text is_pcapng fault)) failure complains
of-stop name (stops.Record fault) failure (memory, complains) =
    of-complaint (Told name (record_text fault)) failure complains
of-stop name stops.Memory failure is = subst IsOfInspecting (sym is) tt
of-stop name stops.Output failure is = subst IsOfInspecting (sym is) tt

-- a failure is that of the output where the stop is
no-output : (Holds : List ℕ → Type 0) (failure : Failure) → Complains Holds failure → failure ≢ failures.Output
no-output Holds failure (inl memory) is = let e = sym memory ∙ is in cc
no-output Holds failure (inr (text, said, holds)) is = let e = sym said ∙ is in cc

pub stop-output : (name : List ℕ) (stop : Stop) (failure : Failure) → FailsSo name stop failure
    → failure ≡ failures.Output → stop ≡ stops.Output
stop-output name (stops.Header fault) failure (is_pcapng, complains) is =
    absurd (no-output (Told name (header_text is_pcapng fault)) failure complains is)
stop-output name (stops.Record fault) failure (memory, complains) is =
    absurd (no-output (Told name (record_text fault)) failure complains is)
stop-output name stops.Memory failure memory is = absurd (let e = sym memory ∙ is in cc)
stop-output name stops.Output failure output is = refl

-- what was printed before them
next-front : (big : Bool) (count : ℕ) (old new : SourceState) (between after : Option (List ℕ)) (stop : Stop)
    → StopsNext big count old between stop new after → stop ≢ stops.Output → after ≡ between
next-front big count old new between after stop (inl (fault, room, frame, reads, is, same)) other = same
next-front big count old new between after stop (inr (inl (is, same))) other = same
next-front big count old new between after stop (inr (inr is)) other = absurd (other is)

pub front-printed : (old new : SourceState) (before after : Option (List ℕ)) (stop : Stop)
    → StopsCapture old before stop new after
    → stop ≢ stops.Output → PrintsFrames before after
front-printed old new before after stop (inl (fault, reads, is, same)) other =
    ([], ([], refl, subst (λ (a : Option (List ℕ)). Appends before a []) (sym same) (Appends-nil before)))
front-printed old new before after stop (inr (header, behind, begins, stopped)) other =
    let same =
    next-front header.big (length stopped.records) stopped.until new stopped.between after stop stopped.stops other in (
      stopped.records,
      subst (λ (a : Option (List ℕ)). PrintsLines stopped.records before a) (sym same) stopped.inspected.printed,
    )

pub stop-front : (name : List ℕ) (old new : SourceState) (before after : Option (List ℕ)) (stop : Stop)
    (failure : Failure)
    → StopsCapture old before stop new after → FailsSo name stop failure → failure ≢ failures.Output
    → PrintsFrames before after
stop-front name old new before after (stops.Header fault) failure stopped fails other =
    front-printed old new before after (stops.Header fault) stopped (λ e. cc)
stop-front name old new before after (stops.Record fault) failure stopped fails other =
    front-printed old new before after (stops.Record fault) stopped (λ e. cc)
stop-front name old new before after stops.Memory failure stopped fails other =
    front-printed old new before after stops.Memory stopped (λ e. cc)
stop-front name old new before after stops.Output failure stopped fails other = absurd (other fails)

-- its header has a fault
pub header-stops : (old new : SourceState) (fault : PcapFault) (before : Option (List ℕ))
    → ReadsHeader old new (Err fault) → RunsCapture old before (Err (stops.Header fault)) new before
header-stops old new fault before reads = record { done = tt; stopped = inl (fault, reads, refl, refl) }
