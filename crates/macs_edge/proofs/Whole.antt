-- A run writes the capture that its input becomes, or a front of it.
use Rattle.std.proofs.Common.{◌≡◌, ◌≤◌, inl, inr, ℕ, List, [], ◌∷◌, ◌++◌, length, Option, Some, None, IfSome, Result}
use Rattle.std.proofs.Common.{Ok, Err, refl, sym, ap, ◌∙◌, subst, arith, append-nil, append_assoc}
use Rattle.std.specs.Io.KnownBytes.{Appends}
use Rattle.std.proofs.KnownBytes.{Appends-nil, Appends-trans}
use Rattle.macs_disk.specs.Disk.{Disk}
use Rattle.macs_pcap.specs.Captures.{BeginsWithRecords, records_text}
use Rattle.macs_pcap.specs.Faults.{max_records}
use Rattle.macs_pcap.specs.Header.{BeginsWithHeader, header_text}
use Rattle.macs_pcap.specs.Reading.{HoldsOfLeft, ReadsHeader}
use Rattle.macs_pcap.specs.Records.{CaptureRecord, record_text}
use Rattle.macs_pcap.specs.States.{SinkState}
use Rattle.macs_pcap.specs.Writing.{AppendsFront, WritesText}
use Rattle.macs_pcap.specs.declared.fault.PcapFault.{PcapFault}
use Rattle.macs_pcap.specs.declared.header.Header.{Header}
use Rattle.macs_endpoint.specs.State.{Logs, State}
use Rattle.macs_endpoint.specs.Value.{EndpointValue, state_of}
use Rattle.macs_edge.specs.CaptureRuns.{AreAllRecords, BecomesCapture, HasPassed, Passes, Run, RunsOver, RunsRecords}
use Rattle.macs_edge.specs.CaptureRuns.{Stops, TakesRecord, WritesCapture, passed_record}
use Rattle.macs_edge.specs.declared.capture_runs.RunFault.{RunFault}
use Rattle.macs_edge.specs.declared.capture_runs.RunFault.TheVariants.{Pcap, Device}
use Rattle.macs_edge.specs.declared.capture_runs.Summary.{Summary}
use Rattle.macs_edge.specs.declared.settling.Side.{Side}
use Rattle.macs_edge.proofs.AllRecords.{all-once, front-of-all, header-once}
use Rattle.macs_edge.proofs.Behind.{left-more, longer, passes-more, texts-append}
use Rattle.macs_edge.proofs.Once.{passes-front, passes-once}

-- ---- the capture that an input becomes

-- after a header that was read
abbrev BecomesBehind : Side → State → Header → List ℕ → List ℕ → Type 0
BecomesBehind side old header behind text =
    (records : List CaptureRecord) × (passed : List CaptureRecord) × (after : State)
    × AreAllRecords header.big behind records
    × Passes side old records passed after × (text ≡ header_text header ++ records_text header.big passed)

become_behind : (side : Side) (old : State) (input behind text : List ℕ) (header : Header)
    → BeginsWithHeader input header behind
    → BecomesCapture side old input text → BecomesBehind side old header behind text
become_behind side old input behind text header begins becomes =
    let (same, on) = header-once input becomes.behind behind becomes.header header becomes.begins begins in
    subst (λ (h : Header). BecomesBehind side old h behind text) same
    (subst (λ (l : List ℕ). BecomesBehind side old becomes.header l text) on
    (becomes.records, becomes.passed, becomes.after, becomes.all, becomes.passes, becomes.text_is))

-- there is one only
pub becomes-once : (side : Side) (old : State) (input p q : List ℕ) → BecomesCapture side old input p
    → BecomesCapture side old input q → p ≡ q
becomes-once side old input p q x y =
    let (records, passed, after, all, passes, is) = become_behind side old input x.behind q x.header x.begins y in
    let same = all-once x.header.big x.behind records x.records all x.all in
    let met = passes-once side old records x.passed passed x.after after
    (subst (λ (l : List CaptureRecord). Passes side old l x.passed x.after) same x.passes) passes in
    x.text_is ∙ ap (λ (l : List CaptureRecord). header_text x.header ++ records_text x.header.big l) met.0 ∙ sym is

-- what passed of the first records is a front of it
begun : (side : Side) (old new : State) (input behind rest text : List ℕ) (header : Header)
    (records passed : List CaptureRecord) → BeginsWithHeader input header behind
    → length records ≤ max_records → BeginsWithRecords header.big behind records rest
    → Passes side old records passed new → BecomesCapture side old input text
    → (more : List ℕ) × (text ≡ (header_text header ++ records_text header.big passed) ++ more)
begun side old new input behind rest text header records passed begins few stand passes becomes =
    let (every, went, after, all, pass, is) = become_behind side old input behind text header begins becomes in
    let (more, split, follow) =
    front-of-all header.big behind rest all.rest records every few stand all.stand all.last in
    let (later, joins, ends) = passes-front side old records more passed went new after passes
    (subst (λ (l : List CaptureRecord). Passes side old l went after) split pass) in (
      records_text header.big later,
      is ∙ ap (λ (l : List CaptureRecord). header_text header ++ records_text header.big l) joins
          ∙ ap (λ (l : List ℕ). header_text header ++ l) (texts-append header.big passed later)
          ∙ sym (append_assoc (header_text header) (records_text header.big passed) (records_text header.big later)),
    )

-- what passed of all records is the whole of it
done : (side : Side) (old new : State) (input behind rest text : List ℕ) (header : Header)
    (records passed : List CaptureRecord) → BeginsWithHeader input header behind
    → length records ≤ max_records → BeginsWithRecords header.big behind records rest → rest ≡ []
    → Passes side old records passed new
    → BecomesCapture side old input text → text ≡ header_text header ++ records_text header.big passed
done side old new input behind rest text header records passed begins few stand ended passes becomes =
    let (every, went, after, all, pass, is) = become_behind side old input behind text header begins becomes in
    let taken : AreAllRecords header.big behind records =
    record { few = few; rest = rest; stand = stand; last = inl ended } in
    let same = all-once header.big behind records every taken all in
    let met = passes-once side old records passed went new after passes
    (subst (λ (l : List CaptureRecord). Passes side old l went after) same pass) in
    is ∙ ap (λ (l : List CaptureRecord). header_text header ++ records_text header.big l) (sym met.0)

-- ---- what is known of a source

known : (a b : Option (List ℕ)) (Holds : List ℕ → List ℕ → Type 0) (left : List ℕ) → a ≡ Some left
    → HoldsOfLeft a b Holds
    → (rest : List ℕ) × (b ≡ Some rest) × Holds left rest
known None b Holds left is holds = absurd cc
known (Some one) None Holds left is holds = absurd holds
known (Some one) (Some rest) Holds left is holds =
    let same : one ≡ left = cc in (rest, refl, subst (λ (l : List ℕ). Holds l rest) same holds)

if_known : (a : Option (List ℕ)) (P : List ℕ → Type 0) → ((left : List ℕ) → a ≡ Some left → P left) → IfSome a P
if_known None P says = tt
if_known (Some left) P says = says left refl

-- ---- what was sent

-- a front of a text was appended, or all of it
abbrev Sends : Option (List ℕ) → Option (List ℕ) → List ℕ → Type 0
Sends before after text = (front : List ℕ) × (rest : List ℕ) × (text ≡ front ++ rest) × Appends before after front

sends_front : (before after : Option (List ℕ)) (text front rest : List ℕ) → text ≡ front ++ rest
    → AppendsFront before after front → Sends before after text
sends_front before after text front rest is (first, behind, split, some, sent) =
    (first, behind ++ rest, is ∙ ap (λ (l : List ℕ). l ++ rest) split ∙ append_assoc first behind rest, sent)

sends_behind : (before between after : Option (List ℕ)) (text front part rest : List ℕ) → text ≡ (front ++ part) ++ rest
    → Appends before between front
    → AppendsFront between after part → Sends before after text
sends_behind before between after text front part rest is sent (first, behind, split, some, added) = (
  front ++ first,
  behind ++ rest,
  is ∙ ap (λ (l : List ℕ). (front ++ l) ++ rest) split ∙ ap (λ (l : List ℕ). l ++ rest)
      (sym (append_assoc front first behind)) ∙ append_assoc (front ++ first) behind rest,
  Appends-trans before between after front first sent added,
)

module _ {D : Type 0} (disk_of : D → Disk) (side : Side) where
  -- a run ends with a fault before its records
  unread : (old new : Run D) → new.sink ≡ old.sink → (text : List ℕ) → Sends old.sink.held new.sink.held text
  unread old new sink text = (
    [],
    text,
    refl,
    subst (λ (s : SinkState). Appends old.sink.held s.held []) (sym sink) (Appends-nil old.sink.held),
  )

  unwritten : (old new : Run D) (header : Header) (fault : PcapFault) → ReadsHeader old.source new.source (Ok header)
      → WritesText {T = Unit {0}} old.sink new.sink (header_text header) (Err fault)
      → (logs : Logs) (text : List ℕ) → IfSome old.source.left (λ input.
      BecomesCapture side (state_of old.endpoint logs) input text → Sends old.sink.held new.sink.held text)
  unwritten old new header fault reads writes logs text = if_known old.source.left _ (λ input is becomes.
      let (behind, is_behind, begins) = known old.source.left new.source.left
      (λ left rest. BeginsWithHeader left header rest) input is reads.header in
      let (records, passed, after, all, passes, is_text) =
      become_behind side (state_of old.endpoint logs) input behind text header begins becomes in
      sends_front old.sink.held new.sink.held text (header_text header) (records_text header.big passed) is_text
      writes.front)

  -- header and records were written
  module _ (old between : Run D) (header : Header) (reads : ReadsHeader old.source between.source (Ok header))
      (writes : WritesText {T = Unit {0}} old.sink between.sink (header_text header) (Ok tt))
      (endpoint : between.endpoint ≡ old.endpoint) where
    sent : (records passed : List CaptureRecord) (new : Run D)
        → HasPassed disk_of side header.big between records passed new
        → Appends old.sink.held new.sink.held (header_text header ++ records_text header.big passed)
    sent records passed new has = Appends-trans old.sink.held between.sink.held new.sink.held (header_text header)
        (records_text header.big passed) writes.whole has.sent

    passes_from : (logs : Logs) (records passed : List CaptureRecord) (new : State)
        → Passes side (state_of between.endpoint logs) records passed new
        → Passes side (state_of old.endpoint logs) records passed new
    passes_from logs records passed new passes =
        subst (λ (e : EndpointValue D). Passes side (state_of e logs) records passed new) endpoint passes

    -- all of them
    all_written : (s : Summary) (new : Run D) → RunsRecords disk_of side header.big between (Ok s) new
        → (logs : Logs) (text : List ℕ)
        → IfSome old.source.left (λ input. BecomesCapture side (state_of old.endpoint logs) input text
        → Appends old.sink.held new.sink.held text)
    all_written s new (records, passed, has, ended, counts) logs text = if_known old.source.left _ (λ input is becomes.
        let (behind, is_behind, begins) = known old.source.left between.source.left
        (λ left rest. BeginsWithHeader left header rest) input is reads.header in
        let (rest, is_rest, stand) = known between.source.left new.source.left
        (λ left rest. BeginsWithRecords header.big left records rest) behind is_behind has.taken in
        let (end, is_end, none) =
        known between.source.left new.source.left (λ left rest. rest ≡ []) behind is_behind ended in
        let same : rest ≡ end = some_once rest end (sym is_rest ∙ is_end) in
        let (after, passes) = has.steps logs in
        let is_text = done side (state_of old.endpoint logs) (state_of new.endpoint after) input behind rest text header
        records passed begins has.few stand (same ∙ none)
        (passes_from logs records passed (state_of new.endpoint after) passes) becomes in
        subst (λ (l : List ℕ). Appends old.sink.held new.sink.held l) (sym is_text) (sent records passed new has)) where
          some_once : (a b : List ℕ) → Some a ≡ Some b → a ≡ b
          some_once a b is = cc

    -- the first of them, and nothing after
    front_written : (records passed : List CaptureRecord) (until new : Run D)
        → HasPassed disk_of side header.big between records passed until → new.sink ≡ until.sink
        → (logs : Logs) (text : List ℕ) → IfSome old.source.left (λ input.
        BecomesCapture side (state_of old.endpoint logs) input text → Sends old.sink.held new.sink.held text)
    front_written records passed until new has sink logs text = if_known old.source.left _ (λ input is becomes.
        let (behind, is_behind, begins) = known old.source.left between.source.left
        (λ left rest. BeginsWithHeader left header rest) input is reads.header in
        let (rest, is_rest, stand) = known between.source.left until.source.left
        (λ left rest. BeginsWithRecords header.big left records rest) behind is_behind has.taken in
        let (after, passes) = has.steps logs in
        let (more, is_text) = begun side (state_of old.endpoint logs) (state_of until.endpoint after) input behind rest
        text header records passed begins has.few stand
        (passes_from logs records passed (state_of until.endpoint after) passes) becomes in (
          header_text header ++ records_text header.big passed,
          more,
          is_text,
          subst (λ (s : SinkState). Appends old.sink.held s.held (header_text header ++ records_text header.big passed))
              (sym sink) (sent records passed until has),
        ))

    -- the first of them, and a front of the next
    cut_written : (records passed : List CaptureRecord) (until new : Run D) (taken : CaptureRecord) (frame : List ℕ)
        (fault : PcapFault)
        → HasPassed disk_of side header.big between records passed until
        → TakesRecord disk_of side header.big (length records) until taken (Some frame) new
        → WritesText {T = Unit {0}} until.sink new.sink (record_text header.big taken.stamp frame) (Err fault)
        → (logs : Logs) (text : List ℕ) → IfSome old.source.left (λ input.
        BecomesCapture side (state_of old.endpoint logs) input text → Sends old.sink.held new.sink.held text)
    cut_written records passed until new taken frame fault has takes cut logs text =
        if_known old.source.left _ (λ input is becomes.
        let more_taken = left-more between.source.left until.source.left new.source.left header.big records taken
        has.taken takes.reads.taken in
        let (behind, is_behind, begins) = known old.source.left between.source.left
        (λ left rest. BeginsWithHeader left header rest) input is reads.header in
        let (rest, is_rest, stand) = known between.source.left new.source.left
        (λ left rest. BeginsWithRecords header.big left (records ++ taken ∷ []) rest) behind is_behind more_taken in
        let (mid, passes) = has.steps logs in
        let (after, step) = takes.settled.step mid in
        let more_passes = passes-more side (state_of old.endpoint logs) (state_of until.endpoint mid)
        (state_of new.endpoint after) records taken passed takes.settled.reply (Some frame)
        (passes_from logs records passed (state_of until.endpoint mid) passes) step takes.settled.settles in
        let few : length (records ++ taken ∷ []) ≤ max_records = (let size = longer records taken in
        let room = takes.reads.few in omega (arith, size, room)) in
        let (more, is_text) = begun side (state_of old.endpoint logs) (state_of new.endpoint after) input behind rest
        text header (records ++ taken ∷ [])
        (passed ++ passed_record taken.stamp (Some frame)) begins few stand more_passes becomes in
        let last : records_text header.big (passed ++ passed_record taken.stamp (Some frame))
        ≡ records_text header.big passed ++ record_text header.big taken.stamp frame =
        texts-append header.big passed (passed_record taken.stamp (Some frame))
        ∙ ap (λ (l : List ℕ). records_text header.big passed ++ l)
        (append-nil (record_text header.big taken.stamp frame)) in
        sends_behind old.sink.held until.sink.held new.sink.held text
        (header_text header ++ records_text header.big passed) (record_text header.big taken.stamp frame) more
        (is_text ∙ ap (λ (l : List ℕ). (header_text header ++ l) ++ more) last
        ∙ ap (λ (l : List ℕ). l ++ more) (sym (append_assoc (header_text header) (records_text header.big passed)
        (record_text header.big taken.stamp frame))))
        (sent records passed until has) cut.front)

    stopped_written : (records passed : List CaptureRecord) (until new : Run D) (fault : RunFault)
        → HasPassed disk_of side header.big between records passed until
        → Stops disk_of side header.big (length records) until fault new
        → (logs : Logs) (text : List ℕ) → IfSome old.source.left (λ input.
        BecomesCapture side (state_of old.endpoint logs) input text → Sends old.sink.held new.sink.held text)
    stopped_written records passed until new (Device fault) has (taken, room, next, halts, sink) =
        front_written records passed until new has sink
    stopped_written records passed until new (Pcap fault) has (inl (room, next, same, sink)) =
        front_written records passed until new has sink
    stopped_written records passed until new (Pcap fault) has (inr (taken, frame, takes, cut)) =
        cut_written records passed until new taken frame fault has takes cut

    records_written : (answer : Result Summary RunFault) (new : Run D)
        → RunsRecords disk_of side header.big between answer new → WritesCapture side old answer new
    records_written (Ok s) new runs = record { whole = all_written s new runs; front = tt }
    records_written (Err fault) new (records, passed, until, has, stops) =
        record { whole = tt; front = stopped_written records passed until new fault has stops }

  faulted : (old new : Run D) (answer : Result Summary RunFault) (fault : RunFault) → answer ≡ Err fault
      → ((logs : Logs) (text : List ℕ) → IfSome old.source.left (λ input.
      BecomesCapture side (state_of old.endpoint logs) input text → Sends old.sink.held new.sink.held text))
      → WritesCapture side old answer new
  faulted old new answer fault is front = subst (λ (a : Result Summary RunFault). WritesCapture side old a new) (sym is)
      (record { whole = tt; front = front })

  -- a run over a whole capture writes it, or a front of it
  pub whole-written : (old new : Run D) (answer : Result Summary RunFault) → RunsOver disk_of side old answer new
      → WritesCapture side old answer new
  whole-written old new answer (inl (fault, is, reads, endpoint, sink)) =
      faulted old new answer (Pcap fault) is
      (λ logs text. if_known old.source.left _ (λ input known becomes. unread old new sink text))
  whole-written old new answer (inr (inl (header, reads, is, writes, endpoint))) =
      faulted old new answer _ is (unwritten old new header _ reads writes)
  whole-written old new answer (inr (inr (header, between, reads, writes, endpoint, runs))) =
      records_written old between header reads writes endpoint answer new runs
