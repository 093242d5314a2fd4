-- All that is to be drawn of the words on verdicts that are reported.
use Rattle.std.proofs.Common.{◌≡◌, ◌≢◌, ◌≤◌, ◌⊎◌, ◌∙◌, ◌+◌, ◌++◌, inl, inr, ℕ, Bool, List, [], ◌∷◌, length, Option}
use Rattle.std.proofs.Common.{Result}
use Rattle.std.proofs.Common.{Ok, Err, ap, arith, refl, subst, sym}
use Rattle.macs_disk.specs.Disk.{Disk}
use Rattle.macs_rxsc.specs.declared.verdict.Verdict.{Verdict}
use Rattle.macs_rxsc.specs.declared.verdict.Verdict.TheVariants.{Delivered, Discarded, HeldBack}
use Rattle.macs_endpoint.specs.State.{Advanced, AdvancedLong, Logs, Protected, Ran, Received, Receives, Refilled}
use Rattle.macs_endpoint.specs.State.{RefusedLong, Reply, State, Submitted, no_logs}
use Rattle.macs_endpoint.specs.State.{Rested}
use Rattle.macs_endpoint.specs.Step.{Step}
use Rattle.macs_endpoint.specs.Value.{state_of}
use Rattle.macs_pcap.specs.Faults.{max_records}
use Rattle.macs_pcap.specs.Reading.{HoldsOfLeft}
use Rattle.macs_pcap.specs.Records.{CaptureRecord}
use Rattle.macs_pcap.specs.declared.fault.PcapFault.TheVariants.{Write}
use Rattle.macs_edge.specs.CaptureRuns.{HasPassed, Run, Stops}
use Rattle.macs_edge.specs.Settling.{Settles, verdict_of}
use Rattle.macs_edge.specs.Telling.{HasJudged, Judges, JudgesRecords, JudgesRun, listed}
use Rattle.macs_edge.specs.declared.capture_runs.RunFault.{RunFault}
use Rattle.macs_edge.specs.declared.capture_runs.RunFault.TheVariants.{Pcap}
use Rattle.macs_edge.specs.declared.capture_runs.Summary.{Summary}
use Rattle.macs_edge.specs.declared.settling.Side.TheVariants.{Common}

-- what settles a frame from the network is a verdict
judged_by : (s t : State) (frame : List ℕ) (reply : Reply) (passed : Option (List ℕ)) → Step s (Receives frame) reply t
    → Settles reply passed
    → (verdict : Verdict) × (out : List ℕ) × (reply ≡ Received (Ok verdict) out) × (verdict ≢ HeldBack)
judged_by s t frame (Received (Ok (Delivered kind)) out) passed step settles =
    (Delivered kind, out, refl, λ is. absurd cc)
judged_by s t frame (Received (Ok (Discarded reason)) out) passed step settles =
    (Discarded reason, out, refl, λ is. absurd cc)
judged_by s t frame (Received (Ok HeldBack) out) passed step settles = absurd settles
judged_by s t frame (Received (Err stopped) out) passed step settles = absurd settles
judged_by s t frame (Protected result out) passed (inl stopped) settles = absurd stopped.1
judged_by s t frame (Protected result out) passed (inr ran) settles = absurd ran.1
judged_by s t frame (Ran result) passed step settles = absurd settles
judged_by s t frame (Refilled result) passed step settles = absurd settles
judged_by s t frame (Rested result) passed step settles = absurd settles
judged_by s t frame (Submitted result) passed step settles = absurd settles
judged_by s t frame (Advanced result) passed step settles = absurd settles
judged_by s t frame RefusedLong passed step settles = absurd settles
judged_by s t frame (AdvancedLong ticket) passed step settles = absurd settles

one : (old new : State) (taken : CaptureRecord) (more : List CaptureRecord) (verdicts : List Verdict)
    → Judges Common old (taken ∷ more) verdicts new
    → (verdict : Verdict) × (out : List ℕ) × (between : State) × (rest : List Verdict)
    × Step old (Receives taken.frame) (Received (Ok verdict) out) between × (verdict ≢ HeldBack)
    × (verdicts ≡ verdict ∷ rest) × Judges Common between more rest new
one old new taken more verdicts (reply, frame, between, rest, step, settles, are, later) =
    let (verdict, out, is, moves) = judged_by old between taken.frame reply frame step settles in (
      verdict,
      out,
      between,
      rest,
      subst (λ (r : Reply). Step old (Receives taken.frame) r between) is step,
      moves,
      are ∙ ap (λ (r : Reply). listed (verdict_of r) ++ rest) is,
      later,
    )

each : (old new : State) (records : List CaptureRecord) (verdicts : List Verdict)
    → Judges Common old records verdicts new → length verdicts ≡ length records
each old new [] verdicts is = ap length is.0
each old new (taken ∷ more) verdicts is =
    let (verdict, out, between, rest, step, moves, are, later) = one old new taken more verdicts is in
    let front : length verdicts ≡ length (verdict ∷ rest) = ap length are in
    let behind = each between new more rest later in
    omega (arith, front, behind)

module _ {D : Type 0} (disk_of : D → Disk) (old new : Run D) where
  over : (s : Summary) (verdicts : List Verdict) → JudgesRun disk_of Common old (Ok s) verdicts new
      → (big : Bool) × (between : Run D) × (records : List CaptureRecord) × (passed : List CaptureRecord)
      × (between.endpoint ≡ old.endpoint) × HasPassed disk_of Common big between records passed new
      × HoldsOfLeft between.source.left new.source.left (λ left rest. rest ≡ [])
      × ((logs : Logs) → (after : Logs)
      × Judges Common (state_of between.endpoint logs) records verdicts (state_of new.endpoint after))
      × (length verdicts ≡ s.passed + s.dropped)
  over s verdicts (inl (at, ends, read, same, sink, none)) = absurd (let wrong : Ok s ≡ Err (Pcap at) = ends in cc)
  over s verdicts (inr (inl (header, read, ends, writes, same, none))) =
      absurd (let wrong : Ok s ≡ Err (Pcap Write) = ends in cc)
  over s verdicts (inr (inr (header, between, reads, writes, same, runs))) =
      let (records, passed, has, all, counts) = runs in
      let judged = has.judged no_logs in
      let many = each (state_of between.endpoint no_logs) (state_of new.endpoint judged.0) records verdicts judged.1 in
      (header.big, between, records, passed, same, has.has, all, has.judged, many ∙ sym counts.1)

-- a run that ends in a fault, by the part of it that ends it
module _ {D : Type 0} (disk_of : D → Disk) where
  cut-in : (big : Bool) (old new : Run D) (at : RunFault) (verdicts : List Verdict)
      → JudgesRecords disk_of Common big old (Err at) verdicts new
      → (records : List CaptureRecord) × (passed : List CaptureRecord) × (until : Run D)
      × HasPassed disk_of Common big old records passed until
      × ((logs : Logs) → (after : Logs)
      × Judges Common (state_of old.endpoint logs) records verdicts (state_of until.endpoint after))
      × Stops disk_of Common big (length records) until at new
  cut-in big old new at verdicts (records, passed, until, has, stops) =
      (records, passed, until, has.has, has.judged, stops)

-- there are no more of them than there may be records
module _ {D : Type 0} (disk_of : D → Disk) (old new : Run D) (verdicts : List Verdict) where
  few-among : (big : Bool) (between until : Run D) (records passed : List CaptureRecord)
      → HasJudged disk_of Common big between records passed verdicts until → length verdicts ≤ max_records
  few-among big between until records passed has =
      let judged = has.judged no_logs in
      let many =
      each (state_of between.endpoint no_logs) (state_of until.endpoint judged.0) records verdicts judged.1 in
      let most = has.has.few in
      omega (arith, many, most)

  few-records : (big : Bool) (between : Run D) (answer : Result Summary RunFault)
      → JudgesRecords disk_of Common big between answer verdicts new → length verdicts ≤ max_records
  few-records big between (Ok s) (records, passed, has, ended, counts) = few-among big between new records passed has
  few-records big between (Err fault) (records, passed, until, has, stops) =
      few-among big between until records passed has

  pub verdicts-few : (answer : Result Summary RunFault) → JudgesRun disk_of Common old answer verdicts new
      → length verdicts ≤ max_records
  verdicts-few answer (inl (at, ends, read, same, sink, none)) = let size : length verdicts ≡ 0 = ap length none in
      omega (arith, size)
  verdicts-few answer (inr (inl (header, read, ends, writes, same, none))) =
      let size : length verdicts ≡ 0 = ap length none in omega (arith, size)
  verdicts-few answer (inr (inr (header, between, reads, writes, same, runs))) =
      few-records header.big between answer runs
