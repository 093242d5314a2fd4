-- An area written by a compaction or a format: its gates closed, its bodies written, and its head opened.
use Rattle.std.specs.Prelude.{◌≡◌, ◌≢◌, ◌<◌, ◌≤◌, ◌⊎◌, ◌+◌, ℕ, false, List, slice_get, Some}
use Rattle.macs_disk.specs.States.{DiskState, Image, IsImage}
use Rattle.macs_record.specs.Decoding.{IsSectorOf}
use Rattle.macs_record.specs.Gates.{closed_gate, open_gate}
use Rattle.macs_record.specs.declared.record.Record.{Record}
use Rattle.macs_journal.specs.Areas.{gate, gates, slot_body, slots}
use Rattle.macs_journal.specs.Found.{IsGateOpen}

-- ---- gates closed

-- the sector is not a gate of an area, in this range, that reads open
abbrev pub IsNoOpenGate : Image → (area from until i : ℕ) → Type 0
IsNoOpenGate seen area from until i = (k : ℕ) → from ≤ k → k < until → IsGateOpen seen area k → i ≢ gate area k

-- each gate of an area in this range that read open before is closed
abbrev pub AreClosed : (old new : Image) → (area from until : ℕ) → Type 0
AreClosed old new area from until = (k : ℕ) → from ≤ k → k < until → IsGateOpen old area k
    → new (gate area k) ≡ closed_gate

-- no gate of an area reads open
abbrev pub IsShut : Image → ℕ → Type 0
IsShut seen area = (k : ℕ) → k < gates → ¬ IsGateOpen seen area k

-- ---- bodies written

-- the bodies of an area's first slots are those of these records
abbrev pub AreBodies : Image → ℕ → List Record → Type 0
AreBodies seen area records = (j : ℕ) (r : Record) → slice_get records j ≡ Some r
    → IsSectorOf r (seen (slot_body area j))

-- the sector is not the body of one of an area's first slots
abbrev pub IsNoBody : (area count i : ℕ) → Type 0
IsNoBody area count i = (j : ℕ) → j < count → i ≢ slot_body area j

-- ---- the head opened

-- nothing is pending: what reads give is durable
pub record IsSettled (s : DiskState) : Type 0 where
  pub clean : (i : ℕ) → s.pending i ≡ false
  pub fresh : (i : ℕ) → s.seen i ≡ s.durable i

-- what may be left while a head gate is being opened: what could be left before, or what reads gave except for the gate
abbrev pub IsOldOrOpening : DiskState → ℕ → Image → Type 0
IsOldOrOpening old area image = IsImage old image ⊎ ((i : ℕ) → i ≢ gate area 0 → image i ≡ old.seen i)

-- ---- all of it

-- the gates of a new area: that of its head is open, and those of slots that read open are closed, each exactly as it
-- was written
pub record HasNewGates (old new : Image) (area : ℕ) : Type 0 where
  pub head : new (gate area 0) ≡ open_gate
  pub slot : (slot : ℕ) → slot < slots → IsGateOpen old area (slot + 1) → new (gate area (slot + 1)) ≡ closed_gate
