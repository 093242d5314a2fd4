-- A compaction cut at its device calls: the state before each of them, and what each does.
use Rattle.std.specs.Prelude.{◌≡◌, ◌≢◌, ◌==◌, ◌<◌, ◌≤◌, ◌⊎◌, ◌+◌, ◌*◌, ◌-◌, ℕ, if◌then◌else◌, Bool, true, false, List}
use Rattle.std.specs.Prelude.{length, slice_get, Option, Some, None, Result}
use Rattle.macs_disk.specs.Disk.{Disk, MayLeave, Reads, Syncs, Works, Writes, now}
use Rattle.macs_disk.specs.Runs.{Leaves}
use Rattle.macs_disk.specs.States.{DiskState, Image, IsImage, state_after_sync}
use Rattle.macs_record.specs.Decoding.{IsSectorOf}
use Rattle.macs_record.specs.Gates.{closed_gate, open_gate}
use Rattle.macs_record.specs.Heads.{Head, IsHeadOf}
use Rattle.macs_record.specs.declared.record.Record.{Record}
use Rattle.macs_journal.specs.Areas.{gate, gates, head_body, slot_body}
use Rattle.macs_journal.specs.Found.{IsGateOpen}
use Rattle.macs_journal.specs.Compacted.{HasOpenGates}
use Rattle.macs_journal.specs.NewArea.{AreClosed, IsNoBody, IsNoOpenGate, IsOldOrOpening, IsSettled, IsShut}
use Rattle.macs_journal.specs.Work.{IsSpared}
use Rattle.macs_journal.specs.declared.compact_stage.CompactStage.{CompactStage}
use Rattle.macs_journal.specs.declared.compact_stage.CompactStage.TheVariants.{ReadGate, CloseGate, GatesSync, HeadBody}
use Rattle.macs_journal.specs.declared.compact_stage.CompactStage.TheVariants.{Body, BodiesSync, HeadGate, HeadSync}

-- ---- the calls in order

-- the call for a gate, or after the last gate the next call
abbrev pub gate_from : ℕ → CompactStage
gate_from k = if k == gates then GatesSync else ReadGate k

-- the call for the body of a slot, or after the last body the next call
abbrev pub body_from : (count slot : ℕ) → CompactStage
body_from count slot = if slot == count then BodiesSync else Body slot

-- the call after this one, given how many records there are, and whether the gate that was read is open
abbrev pub next_stage : ℕ → CompactStage → Bool → Option CompactStage
next_stage count (ReadGate k) true = Some (CloseGate k)
next_stage count (ReadGate k) false = Some (gate_from (k + 1))
next_stage count (CloseGate k) is_open = Some (gate_from (k + 1))
next_stage count GatesSync is_open = Some HeadBody
next_stage count HeadBody is_open = Some (body_from count 0)
next_stage count (Body slot) is_open = Some (body_from count (slot + 1))
next_stage count BodiesSync is_open = Some HeadGate
next_stage count HeadGate is_open = Some HeadSync
next_stage count HeadSync is_open = None

-- the gate or the slot of a call exists
abbrev pub IsCompactStage : ℕ → CompactStage → Type 0
IsCompactStage count (ReadGate k) = k < gates
IsCompactStage count (CloseGate k) = k < gates
IsCompactStage count (Body slot) = slot < count
IsCompactStage count stage = Unit {0}

-- the same for the next call, if any
abbrev pub IsCompactNext : ℕ → Option CompactStage → Type 0
IsCompactNext count (Some stage) = IsCompactStage count stage
IsCompactNext count None = Unit {0}

-- the maximum number of calls left
abbrev pub compact_left : ℕ → CompactStage → ℕ
compact_left count (ReadGate k) = 2 * (gates - k) + 5 + count
compact_left count (CloseGate k) = 2 * (gates - k) + 4 + count
compact_left count GatesSync = 5 + count
compact_left count HeadBody = 4 + count
compact_left count (Body slot) = 3 + (count - slot)
compact_left count BodiesSync = 3
compact_left count HeadGate = 2
compact_left count HeadSync = 1

-- the maximum number of calls left, starting with the next call, if any
abbrev pub compact_left_next : ℕ → Option CompactStage → ℕ
compact_left_next count (Some stage) = compact_left count stage
compact_left_next count None = 0

-- ---- what one of them does

-- the octets are those of a slot's record
abbrev pub IsBodyOf : List Record → ℕ → List ℕ → Type 0
IsBodyOf records slot octets = (r : Record) → slice_get records slot ≡ Some r → IsSectorOf r octets

-- what the call of a stage does on an honest disk, and what it reads
abbrev pub Does : {T E : Type 0} → (old new : DiskState) → ℕ → Head → List Record → CompactStage → List ℕ
    → Result T E → Type 0
Does old new area head records (ReadGate k) read result = Reads old new (gate area k) read result
Does old new area head records (CloseGate k) read result = Writes old new (gate area k) closed_gate result
Does old new area head records GatesSync read result = Syncs old new result
Does old new area head records HeadBody read result = (octets : List ℕ) × IsHeadOf head octets
    × Writes old new (head_body area) octets result
Does old new area head records (Body slot) read result = (octets : List ℕ) × IsBodyOf records slot octets
    × Writes old new (slot_body area slot) octets result
Does old new area head records BodiesSync read result = Syncs old new result
Does old new area head records HeadGate read result = Writes old new (gate area 0) open_gate result
Does old new area head records HeadSync read result = Syncs old new result

-- ---- what they did, since `began`

-- the first gates of the area were read, and closed if they read open, and then some more calls were made
pub record AreGatesClosed (began d : Disk) (area k more : ℕ) : Type 0 where
  pub works : Works began d
  pub calls : (opened : ℕ) → HasOpenGates (now began).seen area k opened → d.clock ≡ began.clock + (k + opened + more)
  pub closed : AreClosed (now began).seen (now d).seen area 0 k
  pub spared : (i : ℕ) → IsNoOpenGate (now began).seen area 0 k i → IsSpared began d i

-- all gates of the area are durably closed
pub record IsCleared (began d : Disk) (area : ℕ) : Type 0 where
  pub works : Works began d
  pub calls : (opened : ℕ) → HasOpenGates (now began).seen area gates opened → d.clock ≡ began.clock + (258 + opened)
  pub settled : IsSettled (now d)
  pub closed : AreClosed (now began).seen (now d).seen area 0 gates
  pub shut : IsShut (now d).seen area
  pub spared : (i : ℕ) → IsNoOpenGate (now began).seen area 0 gates i → IsSpared began d i

-- then the bodies of the head and of the first slots were written
pub record AreBodiesWritten (began d : Disk) (area : ℕ) (head : Head) (records : List Record) (count : ℕ) : Type 0 where
  pub mid : Disk
  pub cleared : IsCleared began mid area
  pub works : Works mid d
  pub calls : d.clock ≡ mid.clock + (1 + count)
  pub head_is : IsHeadOf head ((now d).seen (head_body area))
  pub bodies : (slot : ℕ) → slot < count → IsBodyOf records slot ((now d).seen (slot_body area slot))
  pub others : (i : ℕ) → i ≢ head_body area → IsNoBody area count i → IsSpared mid d i

-- all of them were written, and after that, and a sync, no sector was written except the head gate
pub record IsOpening (began d : Disk) (area : ℕ) (head : Head) (records : List Record) : Type 0 where
  pub full : Disk
  pub filled : AreBodiesWritten began full area head records (length records)
  pub leaves : Leaves full d (IsOldOrOpening (now full) area)
  pub until : (k : ℕ) → full.clock ≤ k → k ≤ d.clock → k < full.clock + 2 → (image : Image) → IsImage (d.past k) image
      → MayLeave full image
  pub others : (i : ℕ) → i ≢ gate area 0 → IsSpared full d i

-- the sync succeeded
pub record AreBodiesDurable (began d : Disk) (area : ℕ) (head : Head) (records : List Record) : Type 0 where
  pub opening : IsOpening began d area head records
  pub calls : d.clock ≡ opening.full.clock + 1
  pub fit : IsImage (now opening.full) (now opening.full).seen
  pub synced : now d ≡ state_after_sync (now opening.full)

-- the head gate was written
pub record IsHeadOpened (began d : Disk) (area : ℕ) (head : Head) (records : List Record) : Type 0 where
  pub opening : IsOpening began d area head records
  pub calls : d.clock ≡ opening.full.clock + 2
  pub opened : (now d).seen (gate area 0) ≡ open_gate
  pub images : (image : Image) → IsImage (now d) image → IsOldOrOpening (now opening.full) area image

-- it is durable
pub record IsCompacted (began d : Disk) (area : ℕ) (head : Head) (records : List Record) : Type 0 where
  pub opening : IsOpening began d area head records
  pub calls : d.clock ≡ opening.full.clock + 3
  pub opened : (now d).seen (gate area 0) ≡ open_gate
  pub settled : IsSettled (now d)

-- before the call of a stage
abbrev pub AtStage : (began d : Disk) → ℕ → Head → List Record → CompactStage → Type 0
AtStage began d area head records (ReadGate k) = AreGatesClosed began d area k 0
AtStage began d area head records (CloseGate k) = AreGatesClosed began d area k 1 × IsGateOpen (now began).seen area k
AtStage began d area head records GatesSync = AreGatesClosed began d area gates 0
AtStage began d area head records HeadBody = IsCleared began d area
AtStage began d area head records (Body slot) = AreBodiesWritten began d area head records slot
AtStage began d area head records BodiesSync = AreBodiesWritten began d area head records (length records)
AtStage began d area head records HeadGate = AreBodiesDurable began d area head records
AtStage began d area head records HeadSync = IsHeadOpened began d area head records

-- before the next call, or after the last
abbrev pub AtNextStage : (began d : Disk) → ℕ → Head → List Record → Option CompactStage → Type 0
AtNextStage began d area head records (Some stage) = AtStage began d area head records stage
AtNextStage began d area head records None = IsCompacted began d area head records

-- ---- regardless of a call's answer

-- gates of the area that read open may have been written
pub record IsClearing (began d : Disk) (area : ℕ) : Type 0 where
  pub works : Works began d
  pub spared : (i : ℕ) → IsNoOpenGate (now began).seen area 0 gates i → IsSpared began d i

-- they are durably closed, and bodies may have been written
pub record IsFilling (began d : Disk) (area count : ℕ) : Type 0 where
  pub mid : Disk
  pub cleared : IsCleared began mid area
  pub works : Works mid d
  pub others : (i : ℕ) → i ≢ head_body area → IsNoBody area count i → IsSpared mid d i

-- a compaction is under way: its gates are closed, its bodies are written, or its head is opened
abbrev pub IsUnderWay : (began d : Disk) → ℕ → Head → List Record → Type 0
IsUnderWay began d area head records = IsClearing began d area
    ⊎ (IsFilling began d area (length records) ⊎ IsOpening began d area head records)
