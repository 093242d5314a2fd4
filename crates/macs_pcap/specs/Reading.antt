-- What the calls that read a capture promise.
use Rattle.std.specs.Prelude.{◌≡◌, ◌≢◌, ◌<◌, ◌≤◌, ◌⊎◌, ℕ, Bool, true, List, [], ◌++◌, length, take, Option, Some, None}
use Rattle.std.specs.Prelude.{Result, Ok, Err, IfErr, IfOk, IfSome, ⊤}
use Rattle.std.specs.Io.KnownBytes.{Consumes}
use Rattle.macs_pcap.specs.Faults.{header_fault, max_records, record_fault}
use Rattle.macs_pcap.specs.Header.{BeginsWithHeader, longest}
use Rattle.macs_pcap.specs.Records.{BeginsWithRecord, IsSoundRecordHeader, kept_in, stamp_in}
use Rattle.macs_pcap.specs.States.{SourceState}
use Rattle.macs_pcap.specs.declared.fields.RecordHeader.{RecordHeader}
use Rattle.macs_pcap.specs.declared.header.Header.{Header}
use Rattle.macs_pcap.specs.declared.header.Stamp.{Stamp}
use Rattle.macs_pcap.specs.declared.fault.PcapFault.{PcapFault}
use Rattle.macs_pcap.specs.declared.fault.PcapFault.TheVariants.{Read, CutFile, CutRecord, RecordTooLong, Write, Memory}
use Rattle.macs_pcap.specs.declared.fault.PcapFault.TheVariants.{TooManyRecords}

-- the fault in an answer, if any
abbrev pub fault_in : {T : Type 0} → Result T PcapFault → Option PcapFault
fault_in (Ok answer) = None
fault_in (Err fault) = Some fault

-- how many capture records an answer has
abbrev pub count_in : Result (Option Stamp) PcapFault → ℕ
count_in (Ok None) = 0
count_in (Ok (Some stamp)) = 1
count_in (Err fault) = 0

-- the fault is one of the octets, not of a read, a write or out of memory
abbrev pub IsOfOctets : PcapFault → Type 0
IsOfOctets fault = (fault ≢ Read) × (fault ≢ Write) × (fault ≢ Memory)

-- a read failed in this call if and only if that is the answer; what had failed before stays so
abbrev pub TellsFailedRead : {T : Type 0} → Bool → Bool → Result T PcapFault → Type 0
TellsFailedRead before after (Err Read) = after ≡ true
TellsFailedRead before after answer = after ≡ before

-- if the octets that a source had left are known, those that it has left afterwards are known, and this holds of both
abbrev pub HoldsOfLeft : Option (List ℕ) → Option (List ℕ) → (List ℕ → List ℕ → Type 0) → Type 0
HoldsOfLeft None after Holds = ⊤
HoldsOfLeft (Some left) None Holds = ⊥
HoldsOfLeft (Some left) (Some rest) Holds = Holds left rest

-- ---- the header

-- a failed read, or else the first fault of the octets that were left
abbrev pub AnswersHeaderFault : PcapFault → List ℕ → Type 0
AnswersHeaderFault fault left = (fault ≡ Read) ⊎ (header_fault left ≡ Some fault)

-- the header of a source is read: its fields, or its first fault, unless a read failed
pub record ReadsHeader (before after : SourceState) (answer : Result Header PcapFault) : Type 0 where
  pub header : IfOk answer
      (λ header. HoldsOfLeft before.left after.left (λ left rest. BeginsWithHeader left header rest))
  pub fault : IfSome before.left (λ left. (answer ≡ Err Read) ⊎ (fault_in answer ≡ header_fault left))
  pub read : TellsFailedRead before.failed after.failed answer
  pub names : IfErr answer (λ fault. (fault ≢ Write) × (fault ≢ Memory))

-- ---- capture records

-- what the octets begin with, by the answer: none at all, at the end, or a capture record with this frame
abbrev pub Takes : Bool → List ℕ → Option Stamp → List ℕ → List ℕ → Type 0
Takes big frame None left rest = (left ≡ []) × (rest ≡ [])
Takes big frame (Some stamp) left rest = BeginsWithRecord big left (record { stamp = stamp; frame = frame }) rest

-- the octets begin with a sound record header, whose frame needs more octets than the buffer has room for
pub record WantsRoom (big : Bool) (count room : ℕ) (left : List ℕ) : Type 0 where
  pub header : IsSoundRecordHeader big (take 16 left)
  pub few : count < max_records
  pub wanted : room < kept_in big (take 16 left)

-- the fault in an answer, by the octets that were left: a failed read, or no room for a frame, or else their first
-- fault
abbrev pub AnswersFault : Bool → ℕ → ℕ → Result (Option Stamp) PcapFault → List ℕ → Type 0
AnswersFault big count room answer left =
    (answer ≡ Err Read) ⊎ ((answer ≡ Err Memory) × WantsRoom big count room left)
    ⊎ (fault_in answer ≡ record_fault big count left)

-- what the octets begin with: none at all, at the end, or these 16 octets
abbrev pub TakesOctets : Option (List ℕ) → List ℕ → List ℕ → Type 0
TakesOctets None left rest = (left ≡ []) × (rest ≡ [])
TakesOctets (Some header) left rest = (length header ≡ 16) × (left ≡ header ++ rest)

-- a failed read, or else fewer octets than a record header has
abbrev pub AnswersCutRecordHeader : PcapFault → List ℕ → Type 0
AnswersCutRecordHeader fault left = (fault ≡ Read) ⊎ ((fault ≡ CutFile) × (0 < length left) × (length left < 16))

-- what the octets begin with, by the answer about a record header: none at all, at the end, or a sound record header
-- with these fields
abbrev pub TakesRecordHeader : Bool → Option RecordHeader → List ℕ → List ℕ → Type 0
TakesRecordHeader big None left rest = (left ≡ []) × (rest ≡ [])
TakesRecordHeader big (Some header) left rest =
    IsSoundRecordHeader big (take 16 left) × (header.stamp ≡ stamp_in big (take 16 left))
    × (header.kept ≡ kept_in big (take 16 left))
    × (left ≡ take 16 left ++ rest)

-- a failed read, or else the first fault of the octets that were left
abbrev pub AnswersRecordHeaderFault : Bool → ℕ → PcapFault → List ℕ → Type 0
AnswersRecordHeaderFault big count fault left = (fault ≡ Read) ⊎ (record_fault big count left ≡ Some fault)

-- a fault that is found before the first octet of the frame is read
abbrev pub IsOfRecordHeader : PcapFault → Type 0
IsOfRecordHeader fault = (fault ≡ TooManyRecords) ⊎ (fault ≡ RecordTooLong) ⊎ (fault ≡ CutRecord) ⊎ (fault ≡ Memory)

-- a record header was read and nothing after it
abbrev pub LeavesFrame : SourceState → SourceState → Type 0
LeavesFrame before after = (header : List ℕ) × (length header ≡ 16) × Consumes before.left after.left header

-- the next capture record is read into a buffer with this room, after `count` others: its timestamp and its frame, or
-- its first fault, unless a read failed or the buffer could not grow
pub record ReadsRecord (big : Bool) (count room : ℕ) (before after : SourceState) (frame : List ℕ)
    (answer : Result (Option Stamp) PcapFault) : Type 0 where
  pub taken : IfOk answer (λ stamp. HoldsOfLeft before.left after.left (Takes big frame stamp))
  pub fault : IfSome before.left (AnswersFault big count room answer)
  pub unread : IfErr answer (λ fault. IsOfRecordHeader fault → LeavesFrame before after)
  pub memory : answer ≡ Err Memory → room < longest
  pub few : IfOk answer (λ stamp. IfSome stamp (λ _. count < max_records))
  pub read : TellsFailedRead before.failed after.failed answer
  pub names : IfErr answer (λ fault. fault ≢ Write)
  pub empty : count_in answer ≡ 0 → frame ≡ []
  pub fits : length frame ≤ longest
