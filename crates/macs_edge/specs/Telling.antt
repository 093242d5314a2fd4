-- What is reported about the frames of a run over a capture: the verdict of each, in order.
use Rattle.std.specs.Prelude.{◌≡◌, ◌⊎◌, ◌++◌, ℕ, Bool, List, [], ◌∷◌, length, Option, Some, None, Result, Ok, Err}
use Rattle.macs_disk.specs.Disk.{Disk}
use Rattle.macs_rxsc.specs.declared.verdict.Verdict.{Verdict}
use Rattle.macs_endpoint.specs.State.{Logs, Reply, State}
use Rattle.macs_endpoint.specs.Step.{Step}
use Rattle.macs_endpoint.specs.Value.{state_of}
use Rattle.macs_pcap.specs.Header.{header_text}
use Rattle.macs_pcap.specs.Reading.{HoldsOfLeft, ReadsHeader}
use Rattle.macs_pcap.specs.Records.{CaptureRecord}
use Rattle.macs_pcap.specs.Writing.{WritesText}
use Rattle.macs_pcap.specs.declared.fault.PcapFault.{PcapFault}
use Rattle.macs_pcap.specs.declared.fault.PcapFault.TheVariants.{Write}
use Rattle.macs_pcap.specs.declared.header.Header.{Header}
use Rattle.macs_edge.specs.CaptureRuns.{Counts, HasPassed, Run, Stops}
use Rattle.macs_edge.specs.Settling.{Settles, call_on, verdict_of}
use Rattle.macs_edge.specs.declared.capture_runs.RunFault.{RunFault}
use Rattle.macs_edge.specs.declared.capture_runs.RunFault.TheVariants.{Pcap}
use Rattle.macs_edge.specs.declared.capture_runs.Summary.{Summary}
use Rattle.macs_edge.specs.declared.settling.Side.{Side}

-- what is done with a verdict: its recipient, the value that the recipient passes it on to, and what becomes of both
abbrev pub Tells : Type 0 → Type 0 → Type 1
Tells V T = V → T → Verdict → V → T → Type 0

-- the recipient of verdicts, and the value that it passes them on to
pub record Telling (V T : Type 0) : Type 0 where
  pub teller : V
  pub to : T

-- both from their parts
abbrev pub telling_of : {V T : Type 0} → V → T → Telling V T
telling_of teller to = record { teller = teller; to = to }

-- these verdicts are reported, one after another
abbrev pub TellsAll : {V T : Type 0} → Tells V T → Telling V T → List Verdict → Telling V T → Type 0
TellsAll tells old [] new = new ≡ old
TellsAll {V} {T} tells old (verdict ∷ more) new =
    (between : Telling V T) × tells old.teller old.to verdict between.teller between.to
    × TellsAll tells between more new

-- a verdict that may be absent, as a list
abbrev pub listed : Option Verdict → List Verdict
listed None = []
listed (Some verdict) = verdict ∷ []

-- The frames of these records, each of them one step of the machine, lead from old to new, and these are the verdicts,
-- of each that has one: as if no frame had ever been held back
abbrev pub Judges : Side → State → List CaptureRecord → List Verdict → State → Type 0
Judges side old [] verdicts new = (verdicts ≡ []) × (new ≡ old)
Judges side old (taken ∷ more) verdicts new =
    (reply : Reply) × (frame : Option (List ℕ)) × (between : State) × (rest : List Verdict)
    × Step old (call_on side taken.frame) reply between × Settles reply frame
    × (verdicts ≡ listed (verdict_of reply) ++ rest) × Judges side between more rest new

-- these records were taken, these were written, and these are the verdicts on their frames
pub record HasJudged {D : Type 0} (disk_of : D → Disk) (side : Side) (big : Bool) (old : Run D)
    (records passed : List CaptureRecord)
    (verdicts : List Verdict) (new : Run D) : Type 0 where
  pub has : HasPassed disk_of side big old records passed new
  pub judged : (logs : Logs)
      → (after : Logs) × Judges side (state_of old.endpoint logs) records verdicts (state_of new.endpoint after)

-- the records are taken up to the end, or up to a fault, and these are the verdicts on the frames of those that were
-- taken
abbrev pub JudgesRecords : {D : Type 0} → (D → Disk) → Side → Bool → Run D → Result Summary RunFault → List Verdict
    → Run D → Type 0
JudgesRecords disk_of side big old (Ok s) verdicts new =
    (records : List CaptureRecord) × (passed : List CaptureRecord)
    × HasJudged disk_of side big old records passed verdicts new
    × HoldsOfLeft old.source.left new.source.left (λ left rest. rest ≡ []) × Counts records passed s
JudgesRecords {D} disk_of side big old (Err fault) verdicts new =
    (records : List CaptureRecord) × (passed : List CaptureRecord) × (between : Run D)
    × HasJudged disk_of side big old records passed verdicts between
    × Stops disk_of side big (length records) between fault new

-- A run over a whole capture, and the verdicts on its frames: its header is not read, or it is not written, and there
-- is none; or both are done, and the run goes over its records
abbrev pub JudgesRun : {D : Type 0} → (D → Disk) → Side → Run D → Result Summary RunFault → List Verdict
    → Run D → Type 0
JudgesRun {D} disk_of side old answer verdicts new =
    ((fault : PcapFault) × (answer ≡ Err (Pcap fault)) × ReadsHeader old.source new.source (Err fault)
    × (new.endpoint ≡ old.endpoint) × (new.sink ≡ old.sink) × (verdicts ≡ []))
    ⊎ ((header : Header) × ReadsHeader old.source new.source (Ok header)
    × (answer ≡ Err (Pcap Write)) × WritesText {T = Unit {0}} old.sink new.sink (header_text header) (Err Write)
    × (new.endpoint ≡ old.endpoint) × (verdicts ≡ []))
    ⊎ ((header : Header) × (between : Run D) × ReadsHeader old.source between.source (Ok header)
    × WritesText {T = Unit {0}} old.sink between.sink (header_text header) (Ok tt)
    × (between.endpoint ≡ old.endpoint) × JudgesRecords disk_of side header.big between answer verdicts new)

-- such a run over records, in which each of the verdicts is reported
abbrev pub TellsRecords : {D V T : Type 0} → (D → Disk) → Tells V T → Side → Bool → Run D → Telling V T
    → Result Summary RunFault
    → Run D → Telling V T → Type 0
TellsRecords disk_of tells side big old before answer new after =
    (verdicts : List Verdict) × JudgesRecords disk_of side big old answer verdicts new
    × TellsAll tells before verdicts after

-- such a run over a whole capture
abbrev pub TellsRun : {D V T : Type 0} → (D → Disk) → Tells V T → Side → Run D → Telling V T
    → Result Summary RunFault → Run D
    → Telling V T → Type 0
TellsRun disk_of tells side old before answer new after =
    (verdicts : List Verdict) × JudgesRun disk_of side old answer verdicts new × TellsAll tells before verdicts after
