-- One record after others.
use Rattle.std.proofs.Common.{◌≡◌, ◌+◌, ◌<◌, ◌++◌, ◌∷◌, ◌∙◌, ℕ, Bool, true, false, cond, List, [], length, Option, Some}
use Rattle.std.proofs.Common.{None, Ok, Err, refl, sym, ap, subst, arith, append_assoc, append-nil, length-append}
use Rattle.std.specs.Io.KnownBytes.{Appends}
use Rattle.std.proofs.KnownBytes.{Appends-nil, Appends-trans}
use Rattle.macs_disk.specs.Disk.{Disk}
use Rattle.macs_rxsc.specs.declared.verdict.Verdict.{Verdict}
use Rattle.macs_pcap.specs.Captures.{BeginsWithRecords, records_text}
use Rattle.macs_pcap.specs.Faults.{max_records}
use Rattle.macs_pcap.specs.Reading.{HoldsOfLeft, ReadsRecord, Takes}
use Rattle.macs_pcap.specs.Records.{BeginsWithRecord, CaptureRecord, record_text}
use Rattle.macs_pcap.specs.States.{SinkState, SourceState}
use Rattle.macs_pcap.specs.declared.header.Stamp.{Stamp}
use Rattle.macs_endpoint.specs.Lives.{Lives, Transition}
use Rattle.macs_endpoint.specs.State.{Reply, State}
use Rattle.macs_endpoint.specs.Step.{Step}
use Rattle.macs_endpoint.specs.Value.{EndpointValue, state_of}
use Rattle.macs_edge.specs.Settling.{HandsIn, IsJudged, Settles, call_on, verdict_of}
use Rattle.macs_edge.specs.CaptureRuns.{Counts, HandsAllIn, HasPassed, Passes, Run, Stops, TakesNext, TakesRecord}
use Rattle.macs_edge.specs.CaptureRuns.{one_more, passed_record}
use Rattle.macs_edge.specs.Telling.{HasJudged, Judges, Telling, Tells, TellsAll, TellsRecords, listed}
use Rattle.macs_edge.specs.declared.capture_runs.RunFault.{RunFault}
use Rattle.macs_edge.specs.declared.capture_runs.Summary.{Summary}
use Rattle.macs_edge.specs.declared.settling.Side.{Side}
use Rattle.macs_edge.proofs.LastCalls.{lives-append}

-- ---- lists of records, one longer

pub passes-more : (side : Side) (old between new : State) (records : List CaptureRecord) (taken : CaptureRecord)
    (passed : List CaptureRecord) (reply : Reply)
    (frame : Option (List ℕ)) → Passes side old records passed between
    → Step between (call_on side taken.frame) reply new → Settles reply frame
    → Passes side old (records ++ taken ∷ []) (passed ++ passed_record taken.stamp frame) new
passes-more side old between new [] taken passed reply frame passes step settles = (
  reply,
  frame,
  new,
  [],
  subst (λ (s : State). Step s (call_on side taken.frame) reply new) passes.1 step,
  settles,
  ap (λ (l : List CaptureRecord). l ++ passed_record taken.stamp frame) passes.0
      ∙ sym (append-nil (passed_record taken.stamp frame)),
  (refl, refl),
)
passes-more side old between new (one ∷ more) taken passed reply frame passes step settles =
    let (answer, out, next, rest, one_step, one_settles, is, later) = passes in (
      answer,
      out,
      next,
      rest ++ passed_record taken.stamp frame,
      one_step,
      one_settles,
      ap (λ (l : List CaptureRecord). l ++ passed_record taken.stamp frame) is
          ∙ append_assoc (passed_record one.stamp out) rest (passed_record taken.stamp frame),
      passes-more side next between new more taken rest reply frame later step settles,
    )

judges-more : (side : Side) (old between new : State) (records : List CaptureRecord) (taken : CaptureRecord)
    (verdicts : List Verdict) (reply : Reply) (frame : Option (List ℕ)) → Judges side old records verdicts between
    → Step between (call_on side taken.frame) reply new → Settles reply frame
    → Judges side old (records ++ taken ∷ []) (verdicts ++ listed (verdict_of reply)) new
judges-more side old between new [] taken verdicts reply frame judges step settles = (
  reply,
  frame,
  new,
  [],
  subst (λ (s : State). Step s (call_on side taken.frame) reply new) judges.1 step,
  settles,
  ap (λ (l : List Verdict). l ++ listed (verdict_of reply)) judges.0 ∙ sym (append-nil (listed (verdict_of reply))),
  (refl, refl),
)
judges-more side old between new (one ∷ more) taken verdicts reply frame judges step settles =
    let (answer, out, next, rest, one_step, one_settles, is, later) = judges in (
      answer,
      out,
      next,
      rest ++ listed (verdict_of reply),
      one_step,
      one_settles,
      ap (λ (l : List Verdict). l ++ listed (verdict_of reply)) is
          ∙ append_assoc (listed (verdict_of answer)) rest (listed (verdict_of reply)),
      judges-more side next between new more taken rest reply frame later step settles,
    )

-- what is reported in two parts is reported
pub tells-more : {V T : Type 0} (tells : Tells V T) (a b d : Telling V T) (verdicts more : List Verdict)
    → TellsAll tells a verdicts b → TellsAll tells b more d → TellsAll tells a (verdicts ++ more) d
tells-more tells a b d [] more first second = subst (λ (t : Telling _ _). TellsAll tells t more d) first second
tells-more tells a b d (one ∷ others) more first second =
    (first.0, first.1, tells-more tells first.0 b d others more first.2 second)

hands-more : {D : Type 0} (side : Side) (records : List CaptureRecord) (taken : CaptureRecord)
    (turns more : List (Transition D)) (reply : Reply)
    → HandsAllIn side records turns → HandsIn (call_on side taken.frame) more reply
    → HandsAllIn side (records ++ taken ∷ []) (turns ++ more)
hands-more side [] taken turns more reply all one =
    (more, [], reply, ap (λ (l : _). l ++ more) all ∙ sym (append-nil more), one, refl)
hands-more side (first ∷ others) taken turns more reply all one =
    let (calls, rest, answer, is, hands, later) = all in (
      calls,
      rest ++ more,
      answer,
      ap (λ (l : _). l ++ more) is ∙ append_assoc calls rest more,
      hands,
      hands-more side others taken rest more reply later one,
    )

begins-more : (big : Bool) (left between rest : List ℕ) (records : List CaptureRecord) (taken : CaptureRecord)
    → BeginsWithRecords big left records between
    → BeginsWithRecord big between taken rest → BeginsWithRecords big left (records ++ taken ∷ []) rest
begins-more big left between rest [] taken all one =
    (rest, subst (λ (l : List ℕ). BeginsWithRecord big l taken rest) all one, refl)
begins-more big left between rest (first ∷ others) taken all one =
    (all.0, all.1, begins-more big all.0 between rest others taken all.2 one)

pub left-more : (a b c : Option (List ℕ)) (big : Bool) (records : List CaptureRecord) (taken : CaptureRecord)
    → HoldsOfLeft a b (λ left rest. BeginsWithRecords big left records rest)
    → HoldsOfLeft b c (Takes big taken.frame (Some taken.stamp))
    → HoldsOfLeft a c (λ left rest. BeginsWithRecords big left (records ++ taken ∷ []) rest)
left-more None b c big records taken all one = tt
left-more (Some left) None c big records taken all one = absurd all
left-more (Some left) (Some between) None big records taken all one = absurd one
left-more (Some left) (Some between) (Some rest) big records taken all one =
    begins-more big left between rest records taken all one

-- at the end nothing is taken
left-ended : (a b c : Option (List ℕ)) (big : Bool) (records : List CaptureRecord)
    → HoldsOfLeft a b (λ left rest. BeginsWithRecords big left records rest)
    → HoldsOfLeft b c (Takes big [] None) → HoldsOfLeft a c (λ left rest. BeginsWithRecords big left records rest)
left-ended None b c big records all end = tt
left-ended (Some left) None c big records all end = absurd all
left-ended (Some left) (Some between) None big records all end = absurd end
left-ended (Some left) (Some between) (Some rest) big records all end =
    subst (λ (l : List ℕ). BeginsWithRecords big left records l) (end.0 ∙ sym end.1) all

left-none : (a b c : Option (List ℕ)) (big : Bool) (records : List CaptureRecord)
    → HoldsOfLeft a b (λ left rest. BeginsWithRecords big left records rest)
    → HoldsOfLeft b c (Takes big [] None) → HoldsOfLeft a c (λ left rest. rest ≡ [])
left-none None b c big records all end = tt
left-none (Some left) None c big records all end = absurd all
left-none (Some left) (Some between) None big records all end = absurd end
left-none (Some left) (Some between) (Some rest) big records all end = end.1

pub texts-append : (big : Bool) (records more : List CaptureRecord)
    → records_text big (records ++ more) ≡ records_text big records ++ records_text big more
texts-append big [] more = refl
texts-append big (one ∷ others) more =
    ap (λ (l : List ℕ). record_text big one.stamp one.frame ++ l) (texts-append big others more)
    ∙ sym (append_assoc (record_text big one.stamp one.frame) (records_text big others) (records_text big more))

pub longer : (records : List CaptureRecord) (taken : CaptureRecord)
    → length (records ++ taken ∷ []) ≡ length records + 1
longer records taken = length-append records (taken ∷ [])

-- a record was read where its stamp is answered
pub read_as : (big : Bool) (count room : ℕ) (before after : SourceState) (frame : List ℕ) (o : Option Stamp)
    (stamp : Stamp) → o ≡ Some stamp
    → ReadsRecord big count room before after frame (Ok o)
    → ReadsRecord big count room before after frame (Ok (Some stamp))
read_as big count room before after frame o stamp is reads =
    subst (λ (x : Option Stamp). ReadsRecord big count room before after frame (Ok x)) is reads

-- ---- a run

module _ {D : Type 0} (disk_of : D → Disk) (side : Side) (big : Bool) where
  pub none-passed : (run : Run D) → HasPassed disk_of side big run [] [] run
  none-passed run = record {
    few = omega arith;
    turns = [];
    lives = refl;
    handed = refl;
    steps = λ logs. (logs, (refl, refl));
    taken = none run.source.left;
    reads = refl;
    sent = Appends-nil run.sink.held;
    writes = refl;
  } where
    none : (left : Option (List ℕ)) → HoldsOfLeft left left (λ left rest. BeginsWithRecords big left [] rest)
    none None = tt
    none (Some left) = refl

  one-passed : (count : ℕ) (old between new : Run D) (records passed : List CaptureRecord) (taken : CaptureRecord)
      (frame : Option (List ℕ))
      → length records ≡ count → HasPassed disk_of side big old records passed between
      → TakesRecord disk_of side big count between taken frame new
      → Appends between.sink.held new.sink.held (records_text big (passed_record taken.stamp frame))
      → new.sink.failed ≡ between.sink.failed
      → HasPassed disk_of side big old (records ++ taken ∷ []) (passed ++ passed_record taken.stamp frame) new
  one-passed count old between new records passed taken frame size has takes sent writes = record {
    few = (let more = longer records taken in let room : count < max_records = takes.reads.few in
        omega (arith, more, size, room));
    turns = has.turns ++ takes.settled.turns;
    lives = lives-append disk_of old.endpoint between.endpoint new.endpoint has.turns takes.settled.turns has.lives
        takes.settled.lives;
    handed =
        hands-more side records taken has.turns takes.settled.turns takes.settled.reply has.handed takes.settled.handed;
    steps = λ logs.
        let first = has.steps logs in
        let second = takes.settled.step first.0 in (
          second.0,
          passes-more side (state_of old.endpoint logs) (state_of between.endpoint first.0)
              (state_of new.endpoint second.0) records taken passed
              takes.settled.reply frame first.1 second.1 takes.settled.settles,
        );
    taken = left-more old.source.left between.source.left new.source.left big records taken has.taken takes.reads.taken;
    reads = takes.reads.read ∙ has.reads;
    sent = subst (λ (l : List ℕ). Appends old.sink.held new.sink.held l)
        (sym (texts-append big passed (passed_record taken.stamp frame)))
        (Appends-trans old.sink.held between.sink.held new.sink.held (records_text big passed)
        (records_text big (passed_record taken.stamp frame)) has.sent sent);
    writes = writes ∙ has.writes;
  }

  -- nothing is taken at the end
  ended : (count room : ℕ) (old between new : Run D) (records passed : List CaptureRecord)
      → HasPassed disk_of side big old records passed between
      → ReadsRecord big count room between.source new.source [] (Ok None) → new.endpoint ≡ between.endpoint
      → new.sink ≡ between.sink
      → HasPassed disk_of side big old records passed new
  ended count room old between new records passed has reads endpoint sink = record {
    few = has.few;
    turns = has.turns;
    lives = subst (λ (e : EndpointValue D). Lives disk_of old.endpoint has.turns e) (sym endpoint) has.lives;
    handed = has.handed;
    steps = λ logs.
        let first = has.steps logs in (
          first.0,
          subst (λ (e : EndpointValue D).
              Passes side (state_of old.endpoint logs) records passed (state_of e first.0)) (sym endpoint) first.1,
        );
    taken = left-ended old.source.left between.source.left new.source.left big records has.taken reads.taken;
    reads = reads.read ∙ has.reads;
    sent = subst (λ (s : SinkState). Appends old.sink.held s.held (records_text big passed)) (sym sink) has.sent;
    writes = ap (λ (s : SinkState). s.failed) sink ∙ has.writes;
  }

  -- ---- what is taken next

  -- a record is read and its frame settled, with this verdict
  pub took : (count room : ℕ) (old new : Run D) (o : Option Stamp) (stamp : Stamp) (frame lent out : List ℕ)
      (passes b : Bool)
      (verdict : Option Verdict) → o ≡ Some stamp → lent ≡ frame → passes ≡ b
      → ReadsRecord big count room old.source new.source frame (Ok o)
      → IsJudged disk_of old.endpoint (call_on side lent) (cond passes (Some out) None) verdict new.endpoint
      → (takes : TakesRecord disk_of side big count old (record { stamp = stamp; frame = frame })
      (cond b (Some out) None) new)
      × (verdict ≡ verdict_of takes.settled.reply)
  took count room old new o stamp frame lent out passes b verdict read lends is reads judged =
      let (settled, noted) = subst
      (λ (f : List ℕ). IsJudged disk_of old.endpoint (call_on side f) (cond b (Some out) None) verdict new.endpoint)
      lends (subst (λ (x : Bool). IsJudged disk_of old.endpoint (call_on side lent) (cond x (Some out) None) verdict
      new.endpoint) is judged) in (
        record {
          room = room;
          reads = read_as big count room old.source new.source frame o stamp read reads;
          settled = settled;
        },
        noted,
      )

  pub next-passed : (count : ℕ) (old new : Run D) (taken : CaptureRecord) (frame : List ℕ) (passes : Bool)
      (verdict : Option Verdict)
      → passes ≡ true
      → (takes : TakesRecord disk_of side big count old taken (Some frame) new)
      × (verdict ≡ verdict_of takes.settled.reply)
      → Appends old.sink.held new.sink.held (record_text big taken.stamp frame)
      → new.sink.failed ≡ old.sink.failed → TakesNext disk_of side big count old (Ok (Some passes)) verdict new
  next-passed count old new taken frame passes verdict is (takes, noted) sent writes =
      subst (λ (b : Bool). TakesNext disk_of side big count old (Ok (Some b)) verdict new) (sym is) (
        taken,
        frame,
        takes,
        subst (λ (l : List ℕ). Appends old.sink.held new.sink.held l)
            (sym (append-nil (record_text big taken.stamp frame))) sent,
        writes,
        noted,
      )

  pub next-dropped : (count : ℕ) (old new : Run D) (taken : CaptureRecord) (passes : Bool) (verdict : Option Verdict)
      → passes ≡ false
      → (takes : TakesRecord disk_of side big count old taken None new) × (verdict ≡ verdict_of takes.settled.reply)
      → new.sink ≡ old.sink → TakesNext disk_of side big count old (Ok (Some passes)) verdict new
  next-dropped count old new taken passes verdict is (takes, noted) sink =
      subst (λ (b : Bool). TakesNext disk_of side big count old (Ok (Some b)) verdict new) (sym is) (
        taken,
        [],
        takes,
        subst (λ (s : SinkState). Appends old.sink.held s.held []) (sym sink) (Appends-nil old.sink.held),
        ap (λ (s : SinkState). s.failed) sink,
        noted,
      )

-- ---- what was taken so far, and reported

count_more : (records passed : List CaptureRecord) (taken : CaptureRecord) (frame : List ℕ) (s : Summary)
    (passes : Bool) → Counts records passed s
    → Counts (records ++ taken ∷ []) (passed ++ passed_record taken.stamp (cond passes (Some frame) None))
    (one_more passes s)
count_more records passed taken frame s true counts = (
  omega (arith, counts.0, longer passed (record { stamp = taken.stamp; frame = frame })),
  omega (arith, counts.1, longer records taken),
)
count_more records passed taken frame s false counts =
    (counts.0 ∙ ap length (sym (append-nil passed)), omega (arith, counts.1, longer records taken))

module _ {D V T : Type 0} (disk_of : D → Disk) (tells : Tells V T) (side : Side) (big : Bool) where
  one-judged : (count : ℕ) (old between new : Run D) (records passed : List CaptureRecord) (verdicts : List Verdict)
      (taken : CaptureRecord) (frame : Option (List ℕ)) (verdict : Option Verdict) → length records ≡ count
      → HasJudged disk_of side big old records passed verdicts between
      → (takes : TakesRecord disk_of side big count between taken frame new) → verdict ≡ verdict_of takes.settled.reply
      → Appends between.sink.held new.sink.held (records_text big (passed_record taken.stamp frame))
      → new.sink.failed ≡ between.sink.failed
      → HasJudged disk_of side big old (records ++ taken ∷ []) (passed ++ passed_record taken.stamp frame)
      (verdicts ++ listed verdict) new
  one-judged count old between new records passed verdicts taken frame verdict size has takes noted sent
      writes = record {
        has =
            one-passed disk_of side big count old between new records passed taken frame size has.has takes sent writes;
        judged = λ logs.
            let first = has.judged logs in
            let second = takes.settled.step first.0 in (
              second.0,
              subst (λ (v : Option Verdict). Judges side (state_of old.endpoint logs) (records ++ taken ∷ [])
                  (verdicts ++ listed v) (state_of new.endpoint second.0)) (sym noted)
                  (judges-more side (state_of old.endpoint logs) (state_of between.endpoint first.0)
                  (state_of new.endpoint second.0) records taken verdicts takes.settled.reply frame first.1 second.1
                  takes.settled.settles),
            );
      }

  -- so many records were taken, and the verdict on each was reported
  abbrev pub HasTaken : Run D → Telling V T → ℕ → Summary → Run D → Telling V T → Type 0
  HasTaken old before count s between told =
      (records : List CaptureRecord) × (passed : List CaptureRecord) × (verdicts : List Verdict)
      × HasJudged disk_of side big old records passed verdicts between × TellsAll tells before verdicts told
      × (length records ≡ count) × Counts records passed s

  pub none-taken : (run : Run D) (telling : Telling V T) (s : Summary) → s.passed ≡ 0 → s.dropped ≡ 0
      → HasTaken run telling 0 s run telling
  none-taken run telling s none no_other = (
    [],
    [],
    [],
    record { has = none-passed disk_of side big run; judged = λ logs. (logs, (refl, refl)) },
    refl,
    refl,
    (none, omega (arith, none, no_other)),
  )

  pub taken-more : (old between new : Run D) (before told after : Telling V T) (count : ℕ) (s : Summary)
      (o : Option Bool)
      (passes : Bool) (verdict : Option Verdict) → HasTaken old before count s between told → o ≡ Some passes
      → TakesNext disk_of side big count between (Ok o) verdict new → TellsAll tells told (listed verdict) after
      → HasTaken old before (count + 1) (one_more passes s) new after
  taken-more old between new before told after count s o passes verdict
      (records, passed, verdicts, has, telling, size, counts) is next more =
      let (taken, frame, takes, sent, writes, noted) =
      subst (λ (x : Option Bool). TakesNext disk_of side big count between (Ok x) verdict new) is next in (
        records ++ taken ∷ [],
        passed ++ passed_record taken.stamp (cond passes (Some frame) None),
        verdicts ++ listed verdict,
        one-judged count old between new records passed verdicts taken (cond passes (Some frame) None) verdict size has
            takes noted sent writes,
        tells-more tells before told after verdicts (listed verdict) telling more,
        longer records taken ∙ ap (λ (n : ℕ). n + 1) size,
        count_more records passed taken frame s passes counts,
      )

  pub taken-room : (between new : Run D) (count : ℕ) (o : Option Bool) (passes : Bool) (verdict : Option Verdict)
      → o ≡ Some passes → TakesNext disk_of side big count between (Ok o) verdict new → count < max_records
  taken-room between new count o passes verdict is next =
      (subst (λ (x : Option Bool). TakesNext disk_of side big count between (Ok x) verdict new) is next).2.reads.few

  pub taken-few : (old between : Run D) (before told : Telling V T) (count : ℕ) (s : Summary)
      → HasTaken old before count s between told → s.passed + s.dropped ≡ count
  taken-few old between before told count s (records, passed, verdicts, has, telling, size, counts) = counts.1 ∙ size

  pub taken-stops : (old between new : Run D) (before told : Telling V T) (count : ℕ) (s : Summary) (fault : RunFault)
      → HasTaken old before count s between told → Stops disk_of side big count between fault new
      → TellsRecords disk_of tells side big old before (Err fault) new told
  taken-stops old between new before told count s fault
      (records, passed, verdicts, has, telling, size, counts) stops = (
        verdicts,
        (records, passed, between, has, subst (λ (n : ℕ). Stops disk_of side big n between fault new) (sym size) stops),
        telling,
      )

  ended-judged : (count room : ℕ) (old between new : Run D) (records passed : List CaptureRecord)
      (verdicts : List Verdict)
      → HasJudged disk_of side big old records passed verdicts between
      → ReadsRecord big count room between.source new.source [] (Ok None) → new.endpoint ≡ between.endpoint
      → new.sink ≡ between.sink → HasJudged disk_of side big old records passed verdicts new
  ended-judged count room old between new records passed verdicts has reads endpoint sink = record {
    has = ended disk_of side big count room old between new records passed has.has reads endpoint sink;
    judged = λ logs.
        let first = has.judged logs in (
          first.0,
          subst
              (λ (e : EndpointValue D). Judges side (state_of old.endpoint logs) records verdicts (state_of e first.0))
              (sym endpoint) first.1,
        );
  }

  pub taken-all : (old between new : Run D) (before told : Telling V T) (count : ℕ) (s : Summary) (o : Option Bool)
      (verdict : Option Verdict) → HasTaken old before count s between told → o ≡ None
      → TakesNext disk_of side big count between (Ok o) verdict new
      → TellsRecords disk_of tells side big old before (Ok s) new told
  taken-all old between new before told count s o verdict
      (records, passed, verdicts, has, telling, size, counts) is next =
      let (room, reads, endpoint, sink) =
      subst (λ (x : Option Bool). TakesNext disk_of side big count between (Ok x) verdict new) is next in (
        verdicts,
        (
          records,
          passed,
          ended-judged count room old between new records passed verdicts has reads endpoint sink,
          left-none old.source.left between.source.left new.source.left big records has.has.taken reads.taken,
          counts,
        ),
        telling,
      )
