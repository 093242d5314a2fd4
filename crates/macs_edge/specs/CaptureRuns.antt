-- What passes of a capture, and what a run over a capture does.
use Rattle.std.specs.Prelude.{◌≡◌, ◌≤◌, ◌⊎◌, ◌+◌, ◌++◌, ℕ, Bool, if◌then◌else◌, List, [], ◌∷◌, length, Option, Some}
use Rattle.std.specs.Prelude.{None, IfSome, Result, Ok, Err, OnErr, OnOk}
use Rattle.std.specs.Io.KnownBytes.{Appends}
use Rattle.macs_disk.specs.Disk.{Disk}
use Rattle.macs_endpoint.specs.Lives.{Lives, Transition}
use Rattle.macs_endpoint.specs.State.{Logs, Reply, State}
use Rattle.macs_endpoint.specs.Step.{Step}
use Rattle.macs_endpoint.specs.Value.{EndpointValue, state_of}
use Rattle.macs_pcap.specs.Captures.{BeginsWithRecords, records_text}
use Rattle.macs_pcap.specs.Faults.{max_records, record_fault}
use Rattle.macs_pcap.specs.Header.{BeginsWithHeader, header_text}
use Rattle.macs_pcap.specs.Reading.{HoldsOfLeft, ReadsHeader, ReadsRecord}
use Rattle.macs_pcap.specs.Records.{CaptureRecord, record_text}
use Rattle.macs_pcap.specs.States.{SinkState, SourceState}
use Rattle.macs_pcap.specs.Writing.{WritesText}
use Rattle.macs_pcap.specs.declared.fault.PcapFault.{PcapFault}
use Rattle.macs_pcap.specs.declared.fault.PcapFault.TheVariants.{Write}
use Rattle.macs_pcap.specs.declared.header.Header.{Header}
use Rattle.macs_pcap.specs.declared.header.Stamp.{Stamp}
use Rattle.macs_rxsc.specs.declared.verdict.Verdict.{Verdict}
use Rattle.macs_edge.specs.Settling.{Halts, HandsIn, IsSettled, Settles, call_on, verdict_of}
use Rattle.macs_edge.specs.declared.capture_runs.RunFault.{RunFault}
use Rattle.macs_edge.specs.declared.capture_runs.RunFault.TheVariants.{Pcap, Device}
use Rattle.macs_edge.specs.declared.capture_runs.Summary.{Summary}
use Rattle.macs_edge.specs.declared.settling.Side.{Side}

-- ---- what passes

-- a frame that passes keeps its record's timestamp
abbrev pub passed_record : Stamp → Option (List ℕ) → List CaptureRecord
passed_record stamp None = []
passed_record stamp (Some frame) = record { stamp = stamp; frame = frame } ∷ []

-- The frames of these records, each of them one step of the machine, lead from old to new, and this passes: as if no
-- frame had ever waited for a packet number or been held back
abbrev pub Passes : Side → State → List CaptureRecord → List CaptureRecord → State → Type 0
Passes side old [] passed new = (passed ≡ []) × (new ≡ old)
Passes side old (taken ∷ more) passed new =
    (reply : Reply) × (frame : Option (List ℕ)) × (between : State) × (rest : List CaptureRecord)
    × Step old (call_on side taken.frame) reply between × Settles reply frame
    × (passed ≡ passed_record taken.stamp frame ++ rest) × Passes side between more rest new

-- these are all the capture records of an input: after the last one is its end, or a fault
pub record AreAllRecords (big : Bool) (left : List ℕ) (records : List CaptureRecord) : Type 0 where
  pub few : length records ≤ max_records
  pub rest : List ℕ
  pub stand : BeginsWithRecords big left records rest
  pub last : (rest ≡ []) ⊎ ((fault : PcapFault) × (record_fault big (length records) rest ≡ Some fault))

-- The capture that an input becomes: its header, and then what passes of all its capture records
pub record BecomesCapture (side : Side) (old : State) (input : List ℕ) (text : List ℕ) : Type 0 where
  pub header : Header
  pub behind : List ℕ
  pub begins : BeginsWithHeader input header behind
  pub records : List CaptureRecord
  pub all : AreAllRecords header.big behind records
  pub passed : List CaptureRecord
  pub after : State
  pub passes : Passes side old records passed after
  pub text_is : text ≡ header_text header ++ records_text header.big passed

-- ---- what a run does

-- an endpoint between the source that frames are taken from and the sink that they go to
pub record Run (D : Type 0) : Type 0 where
  pub endpoint : EndpointValue D
  pub source : SourceState
  pub sink : SinkState

-- a run from its parts
abbrev pub run_of : {D : Type 0} → EndpointValue D → SourceState → SinkState → Run D
run_of endpoint source sink = record { endpoint = endpoint; source = source; sink = sink }

-- the frames of these records were submitted by these calls, one after another
abbrev pub HandsAllIn : {D : Type 0} → Side → List CaptureRecord → List (Transition D) → Type 0
HandsAllIn side [] turns = turns ≡ []
HandsAllIn {D} side (taken ∷ more) turns =
    (first : List (Transition D)) × (rest : List (Transition D)) × (reply : Reply)
    × (turns ≡ first ++ rest) × HandsIn (call_on side taken.frame) first reply × HandsAllIn side more rest

-- these records were taken, and these were written
pub record HasPassed {D : Type 0} (disk_of : D → Disk) (side : Side) (big : Bool) (old : Run D)
    (records passed : List CaptureRecord) (new : Run D) : Type 0 where
  pub few : length records ≤ max_records
  pub turns : List (Transition D)
  pub lives : Lives disk_of old.endpoint turns new.endpoint
  pub handed : HandsAllIn side records turns
  pub steps : (logs : Logs)
      → (after : Logs) × Passes side (state_of old.endpoint logs) records passed (state_of new.endpoint after)
  pub taken : HoldsOfLeft old.source.left new.source.left (λ left rest. BeginsWithRecords big left records rest)
  pub reads : new.source.failed ≡ old.source.failed
  pub sent : Appends old.sink.held new.sink.held (records_text big passed)
  pub writes : new.sink.failed ≡ old.sink.failed

-- a record is read, after `count` others, and its frame is settled
pub record TakesRecord {D : Type 0} (disk_of : D → Disk) (side : Side) (big : Bool) (count : ℕ) (old : Run D)
    (taken : CaptureRecord) (passed : Option (List ℕ)) (new : Run D) : Type 0 where
  pub room : ℕ
  pub reads : ReadsRecord big count room old.source new.source taken.frame (Ok (Some taken.stamp))
  pub settled : IsSettled disk_of old.endpoint (call_on side taken.frame) passed new.endpoint

-- The run ends after `count` records with a fault. A fault of the device: the next frame finds the endpoint stopped, or
-- waits for a refill that is answered with it. A fault of the captures: the next record is not read, with this fault;
-- or its frame passes and is not written whole
abbrev pub Stops : {D : Type 0} → (D → Disk) → Side → Bool → ℕ → Run D → RunFault → Run D → Type 0
Stops disk_of side big count old (Device fault) new =
    (taken : CaptureRecord) × (room : ℕ)
    × ReadsRecord big count room old.source new.source taken.frame (Ok (Some taken.stamp))
    × Halts disk_of old.endpoint (call_on side taken.frame) fault new.endpoint
    × (new.sink ≡ old.sink)
Stops disk_of side big count old (Pcap fault) new =
    ((room : ℕ) × ReadsRecord big count room old.source new.source [] (Err fault)
    × (new.endpoint ≡ old.endpoint) × (new.sink ≡ old.sink))
    ⊎ ((taken : CaptureRecord) × (frame : List ℕ) × TakesRecord disk_of side big count old taken (Some frame) new
    × WritesText {T = Unit {0}} old.sink new.sink (record_text big taken.stamp frame) (Err fault))

-- The result for the next record, after `count` others: there is none, at the end; it passes, or is left out, with this
-- verdict, if there is one; or the run ends
abbrev pub TakesNext : {D : Type 0} → (D → Disk) → Side → Bool → ℕ → Run D → Result (Option Bool) RunFault
    → Option Verdict → Run D → Type 0
TakesNext disk_of side big count old (Ok None) verdict new =
    (room : ℕ) × ReadsRecord big count room old.source new.source [] (Ok None)
    × (new.endpoint ≡ old.endpoint) × (new.sink ≡ old.sink)
TakesNext disk_of side big count old (Ok (Some passes)) verdict new =
    (taken : CaptureRecord) × (frame : List ℕ)
    × (takes : TakesRecord disk_of side big count old taken (if passes then Some frame else None) new)
    × Appends old.sink.held new.sink.held
    (records_text big (passed_record taken.stamp (if passes then Some frame else None)))
    × (new.sink.failed ≡ old.sink.failed) × (verdict ≡ verdict_of takes.settled.reply)
TakesNext disk_of side big count old (Err fault) verdict new = Stops disk_of side big count old fault new

-- how many of the taken records had a frame that passed, and how many were left out
abbrev pub Counts : List CaptureRecord → List CaptureRecord → Summary → Type 0
Counts records passed s = (s.passed ≡ length passed) × (s.passed + s.dropped ≡ length records)

-- one more record is counted
abbrev pub one_more : Bool → Summary → Summary
one_more passes s = if passes then record s { passed = s.passed + 1 } else record s { dropped = s.dropped + 1 }

-- the records are taken up to the end, or up to a fault
abbrev pub RunsRecords : {D : Type 0} → (D → Disk) → Side → Bool → Run D → Result Summary RunFault → Run D → Type 0
RunsRecords disk_of side big old (Ok s) new =
    (records : List CaptureRecord) × (passed : List CaptureRecord) × HasPassed disk_of side big old records passed new
    × HoldsOfLeft old.source.left new.source.left (λ left rest. rest ≡ []) × Counts records passed s
RunsRecords {D} disk_of side big old (Err fault) new =
    (records : List CaptureRecord) × (passed : List CaptureRecord) × (between : Run D)
    × HasPassed disk_of side big old records passed between
    × Stops disk_of side big (length records) between fault new

-- A run over a whole capture: its header is not read; or it is not written; or both are done, and the run goes over its
-- records
abbrev pub RunsOver : {D : Type 0} → (D → Disk) → Side → Run D → Result Summary RunFault → Run D → Type 0
RunsOver {D} disk_of side old answer new =
    ((fault : PcapFault) × (answer ≡ Err (Pcap fault)) × ReadsHeader old.source new.source (Err fault)
    × (new.endpoint ≡ old.endpoint) × (new.sink ≡ old.sink))
    ⊎ ((header : Header) × ReadsHeader old.source new.source (Ok header)
    × (answer ≡ Err (Pcap Write)) × WritesText {T = Unit {0}} old.sink new.sink (header_text header) (Err Write)
    × (new.endpoint ≡ old.endpoint))
    ⊎ ((header : Header) × (between : Run D) × ReadsHeader old.source between.source (Ok header)
    × WritesText {T = Unit {0}} old.sink between.sink (header_text header) (Ok tt)
    × (between.endpoint ≡ old.endpoint) × RunsRecords disk_of side header.big between answer new)

-- ---- what a run writes

-- The capture for the input is written, or a prefix of it if the run ends with a fault
pub record WritesCapture {D : Type 0} (side : Side) (old : Run D) (answer : Result Summary RunFault)
    (new : Run D) : Type 0 where
  pub whole : OnOk answer ((logs : Logs) (text : List ℕ) → IfSome old.source.left (λ input.
      BecomesCapture side (state_of old.endpoint logs) input text → Appends old.sink.held new.sink.held text))
  pub front : OnErr answer ((logs : Logs) (text : List ℕ) → IfSome old.source.left (λ input.
      BecomesCapture side (state_of old.endpoint logs) input text
      → (front : List ℕ) × (rest : List ℕ) × (text ≡ front ++ rest) × Appends old.sink.held new.sink.held front))
