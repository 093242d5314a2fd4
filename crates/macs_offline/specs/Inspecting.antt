-- What `inspect` prints of the frames of a capture, and how it ends.
use Rattle.std.specs.Prelude.{◌≡◌, ◌⊎◌, ◌+◌, ◌++◌, if◌then◌else◌, ⊤, ℕ, Bool, true, false, List, [], ◌∷◌, length, codes}
use Rattle.std.specs.Prelude.{Option, Some, None, Result, Ok, Err, IfErr, IfOk}
use Rattle.std.specs.Fmt.{decimal}
use Rattle.std.specs.Io.KnownBytes.{Appends}
use Rattle.hex.specs.Hex.{encode_lower}
use Rattle.macs_fields.specs.First.{IsFirst}
use Rattle.macs_frame.specs.Tag.{IsForKay, Tag, TagFaultHolds, short_length, tag_faults, tag_of}
use Rattle.macs_frame.specs.declared.opening.OpenFault.TheVariants as opening
use Rattle.macs_frame.specs.declared.tag.Parts.{Parts}
use Rattle.macs_frame.specs.declared.tag.ScName.{ScName}
use Rattle.macs_frame.specs.declared.tag.ScName.TheVariants.{Explicit, EndStation, Implicit}
use Rattle.macs_frame.specs.declared.tag.SecTag.{SecTag}
use Rattle.macs_frame.specs.declared.tag.TagFault.{TagFault}
use Rattle.macs_pcap.specs.Captures.{BeginsWithRecords}
use Rattle.macs_pcap.specs.Reading.{HoldsOfLeft, ReadsHeader, ReadsRecord}
use Rattle.macs_pcap.specs.Records.{CaptureRecord}
use Rattle.macs_pcap.specs.States.{SourceState}
use Rattle.macs_pcap.specs.declared.fault.PcapFault.{PcapFault}
use Rattle.macs_pcap.specs.declared.fault.PcapFault.TheVariants as pcap
use Rattle.macs_pcap.specs.declared.header.Header.{Header}
use Rattle.macs_texts.specs.Lines.{line}
use Rattle.macs_offline.specs.Opened.{refusal_text}
use Rattle.macs_offline.specs.CaptureReasons.{header_text, record_text}
use Rattle.macs_cli.specs.Reasons.{Complains, Tells, TellsOfFile}
use Rattle.macs_cli.specs.declared.failure.Failure.{Failure}
use Rattle.macs_cli.specs.declared.failure.Failure.TheVariants as failures
use Rattle.macs_offline.specs.declared.stop.Stop.{Stop}
use Rattle.macs_offline.specs.declared.stop.Stop.TheVariants as stops
use Rattle.macs_cli.specs.declared.status.Status.{Status}
use Rattle.macs_cli.specs.declared.status.Status.TheVariants as ends

-- ---- the line of a frame

-- a bit as a digit
abbrev pub bit_text : Bool → List ℕ
bit_text bit = if bit then codes "1" else codes "0"

-- how a SecTAG names its channel: by an explicit SCI, as an end station, or not at all
abbrev pub name_text : ScName → List ℕ
name_text (Explicit sci) = codes " sci=" ++ encode_lower sci
name_text EndStation = codes " es"
name_text Implicit = []

-- the numbers in a SecTAG, and its SL
abbrev pub numbers_text : SecTag → ℕ → List ℕ
numbers_text tag short =
    codes "an=" ++ (decimal tag.an ++ (codes " pn=" ++ (decimal tag.pn ++ (codes " sl=" ++ decimal short))))

-- its bits E and C, and its channel
abbrev pub bits_text : SecTag → List ℕ
bits_text tag = codes "e=" ++ (bit_text tag.encrypted ++ (codes " c=" ++ (bit_text tag.changed ++ name_text tag.name)))

-- everything in a SecTAG, its SL, and the length of its frame in octets
abbrev pub tag_text : SecTag → ℕ → ℕ → List ℕ
tag_text tag short octets =
    numbers_text tag short ++ (codes " " ++ (bits_text tag ++ (codes " octets=" ++ decimal octets)))

-- the text for a frame: its first fault, worded as by `open`, or the contents of its SecTAG
abbrev pub IsSaidOf : List ℕ → List ℕ → Type 0
IsSaidOf frame text =
    ((fault : TagFault) × IsFirst (TagFaultHolds frame) tag_faults fault × (text ≡ refusal_text (opening.Tag fault)))
    ⊎ ((parts : Parts) × Tag frame parts × (¬ IsForKay frame)
    × (text ≡ tag_text (tag_of frame) (short_length frame) (length frame)))

-- the line of a frame, with its number
abbrev pub IsLineOf : ℕ → List ℕ → List ℕ → Type 0
IsLineOf at frame text = (said : List ℕ) × IsSaidOf frame said × (text ≡ line (decimal at ++ (codes " " ++ said)))

-- the lines of the frames of these records, numbered from `at`
abbrev pub AreLinesOf : ℕ → List CaptureRecord → List ℕ → Type 0
AreLinesOf at [] text = text ≡ []
AreLinesOf at (taken ∷ more) text =
    (first : List ℕ) × (rest : List ℕ) × IsLineOf at taken.frame first × (text ≡ first ++ rest)
    × AreLinesOf (at + 1) more rest

-- they are printed, numbered from 1
abbrev pub PrintsLines : List CaptureRecord → Option (List ℕ) → Option (List ℕ) → Type 0
PrintsLines records before after = (text : List ℕ) × AreLinesOf 1 records text × Appends before after text

-- ---- one frame after another

-- these records were read, and the lines of their frames printed
pub record HasInspected (big : Bool) (old : SourceState) (before : Option (List ℕ)) (records : List CaptureRecord)
    (new : SourceState)
    (after : Option (List ℕ)) : Type 0 where
  pub taken : HoldsOfLeft old.left new.left (λ left rest. BeginsWithRecords big left records rest)
  pub printed : PrintsLines records before after

-- The run ends after `count` records: the next one has a fault; or memory runs out for its line; or the line cannot be
-- printed
abbrev pub StopsNext : Bool → ℕ → SourceState → Option (List ℕ) → Stop → SourceState → Option (List ℕ) → Type 0
StopsNext big count old before stop new after =
    ((fault : PcapFault) × (room : ℕ) × (frame : List ℕ) × ReadsRecord big count room old new frame (Err fault)
    × (stop ≡ stops.Record fault) × (after ≡ before))
    ⊎ ((stop ≡ stops.Memory) × (after ≡ before)) ⊎ (stop ≡ stops.Output)

-- the next record, after `count` others: its line is printed; or the capture has ended; or the run ends
abbrev pub InspectsNext : Bool → ℕ → SourceState → Option (List ℕ) → Result Bool Stop → SourceState
    → Option (List ℕ) → Type 0
InspectsNext big count old before (Ok true) new after =
    (taken : CaptureRecord) × (room : ℕ) × ReadsRecord big count room old new taken.frame (Ok (Some taken.stamp))
    × (text : List ℕ) × IsLineOf (count + 1) taken.frame text × Appends before after text
InspectsNext big count old before (Ok false) new after =
    (room : ℕ) × (frame : List ℕ) × ReadsRecord big count room old new frame (Ok None) × (after ≡ before)
InspectsNext big count old before (Err stop) new after = StopsNext big count old before stop new after

-- all records up to the end
pub record InspectsRecords (big : Bool) (old : SourceState) (before : Option (List ℕ)) (new : SourceState)
    (after : Option (List ℕ)) : Type 0 where
  pub records : List CaptureRecord
  pub until : SourceState
  pub inspected : HasInspected big old before records until after
  pub room : ℕ
  pub frame : List ℕ
  pub ended : ReadsRecord big (length records) room until new frame (Ok None)

-- the records before a stop
pub record StopsRecords (big : Bool) (old : SourceState) (before : Option (List ℕ)) (stop : Stop)
    (new : SourceState)
    (after : Option (List ℕ)) : Type 0 where
  pub records : List CaptureRecord
  pub until : SourceState
  pub between : Option (List ℕ)
  pub inspected : HasInspected big old before records until between
  pub stops : StopsNext big (length records) until between stop new after

-- either of the two
pub record RunsRecords (big : Bool) (old : SourceState) (before : Option (List ℕ)) (result : Result Status Stop)
    (new : SourceState)
    (after : Option (List ℕ)) : Type 0 where
  pub done : IfOk result (λ status. InspectsRecords big old before new after × (status ≡ ends.Done))
  pub stopped : IfErr result (λ stop. StopsRecords big old before stop new after)

-- ---- a whole capture

-- a capture is read from its header to its end, and the line of each frame is printed
pub record InspectsCapture (old : SourceState) (before : Option (List ℕ)) (new : SourceState)
    (after : Option (List ℕ)) : Type 0 where
  pub header : Header
  pub behind : SourceState
  pub begins : ReadsHeader old behind (Ok header)
  pub records : InspectsRecords header.big behind before new after

-- it is not: its header has a fault, or the run ends after some of its records
abbrev pub StopsCapture : SourceState → Option (List ℕ) → Stop → SourceState → Option (List ℕ) → Type 0
StopsCapture old before stop new after =
    ((fault : PcapFault) × ReadsHeader old new (Err fault) × (stop ≡ stops.Header fault) × (after ≡ before))
    ⊎ ((header : Header) × (behind : SourceState) × ReadsHeader old behind (Ok header)
    × StopsRecords header.big behind before stop new after)

-- the result of inspecting a capture
pub record RunsCapture (old : SourceState) (before : Option (List ℕ)) (result : Result Status Stop)
    (new : SourceState)
    (after : Option (List ℕ)) : Type 0 where
  pub done : IfOk result (λ status. InspectsCapture old before new after × (status ≡ ends.Done))
  pub stopped : IfErr result (λ stop. StopsCapture old before stop new after)

-- ---- a capture in a file, whose contents are not known here

-- some capture is inspected whole
abbrev pub Inspects : Option (List ℕ) → Option (List ℕ) → Type 0
Inspects before after = (old : SourceState) × (new : SourceState) × InspectsCapture old before new after

-- a failure gives the reason why the capture with this name is not inspected whole
abbrev pub FailsSo : List ℕ → Stop → Failure → Type 0
FailsSo name (stops.Header fault) failure =
    (is_pcapng : Bool) × Complains (Tells (codes "capture") name (header_text is_pcapng fault)) failure
FailsSo name (stops.Record fault) failure = (fault ≡ pcap.Memory → failure ≡ failures.Memory)
    × Complains (Tells (codes "capture") name (record_text fault)) failure
FailsSo name stops.Memory failure = failure ≡ failures.Memory
FailsSo name stops.Output failure = failure ≡ failures.Output

-- some capture, the one with this name, is not opened or not inspected whole
abbrev pub InspectFails : List ℕ → Option (List ℕ) → Option (List ℕ) → Failure → Type 0
InspectFails name before after failure =
    (Complains (TellsOfFile (codes "capture") name) failure × (after ≡ before))
    ⊎ ((old : SourceState) × (new : SourceState) × (stop : Stop) × StopsCapture old before stop new after
    × FailsSo name stop failure)

-- the lines of some frames were printed
abbrev pub PrintsFrames : Option (List ℕ) → Option (List ℕ) → Type 0
PrintsFrames before after = (records : List CaptureRecord) × PrintsLines records before after

-- the failures of `inspect`: the capture, memory and standard output
abbrev pub IsOfInspecting : Failure → Type 0
IsOfInspecting (failures.Said text) = ⊤
IsOfInspecting failures.Memory = ⊤
IsOfInspecting failures.Output = ⊤
IsOfInspecting other = ⊥
