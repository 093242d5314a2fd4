-- Which sector of a bad journal is the first with a fault.
use Rattle.std.specs.Prelude.{◌≡◌, ◌<◌, ◌⊎◌, ◌+◌, ℕ, Option, Some, None}
use Rattle.macs_disk.specs.States.{Image}
use Rattle.macs_record.specs.Decoding.{HasRecord}
use Rattle.macs_record.specs.Heads.{Head}
use Rattle.macs_journal.specs.Areas.{gate, head_body, slot_body, slots}
use Rattle.macs_journal.specs.Found.{AreAtOdds, IsBadJournal, IsCurrent, IsGateOpen, IsHeadless}

-- ---- heads

-- area 0 has no head, or else area 1 has none, or its head conflicts with that of area 0
abbrev pub IsHeadFault : Image → ℕ → Type 0
IsHeadFault image at =
    ((at ≡ head_body 0) × IsHeadless image 0)
    ⊎ ((at ≡ head_body 1) × (¬ IsHeadless image 0) × (IsHeadless image 1 ⊎ AreAtOdds image))

-- ---- slots

-- a slot of an area is used: it is part of the snapshot of `count` records, or its gate is open
abbrev pub IsUsed : Image → ℕ → ℕ → ℕ → Type 0
IsUsed image area count slot = (slot < count) ⊎ IsGateOpen image area (slot + 1)

-- it is used, and has a record
abbrev pub IsSound : Image → ℕ → ℕ → ℕ → Type 0
IsSound image area count slot = IsUsed image area count slot × HasRecord (image (slot_body area slot))

-- all slots before this one are used and hold records
abbrev pub AreSound : Image → ℕ → ℕ → ℕ → Type 0
AreSound image area count n = (j : ℕ) → j < n → IsSound image area count j

-- a gate after this slot is open
abbrev pub HasOpenBehind : Image → ℕ → ℕ → Type 0
HasOpenBehind image area slot = (behind : ℕ) × (slot < behind) × (behind < slots) × IsGateOpen image area (behind + 1)

-- the faulty sector of a slot: its body, if the slot is used and holds no record; its gate, if it is not used and a
-- later gate is open
abbrev pub IsSlotFault : Image → ℕ → ℕ → ℕ → ℕ → Type 0
IsSlotFault image area count slot at =
    ((at ≡ slot_body area slot) × IsUsed image area count slot × ¬ HasRecord (image (slot_body area slot)))
    ⊎ ((at ≡ gate area (slot + 1)) × (¬ IsUsed image area count slot) × HasOpenBehind image area slot)

-- the sector of the first faulty slot of an area
pub record IsAreaFault (image : Image) (area count at : ℕ) : Type 0 where
  pub slot : ℕ
  pub within : slot < slots
  pub before : AreSound image area count slot
  pub fault : IsSlotFault image area count slot at

-- an area has no fault: its slots are all used and hold records, or those before one that is not used, after which no
-- gate is open
pub record IsFaultless (image : Image) (area count : ℕ) : Type 0 where
  pub free : ℕ
  pub before : AreSound image area count free
  pub behind : (free ≡ slots) ⊎ ((¬ IsUsed image area count free) × ¬ HasOpenBehind image area free)

-- the faulty sector of a slot that is not used, if it has one
abbrev pub GateFaultIs : Image → ℕ → ℕ → Option ℕ → Type 0
GateFaultIs image area slot (Some at) = (at ≡ gate area (slot + 1)) × HasOpenBehind image area slot
GateFaultIs image area slot None = ¬ HasOpenBehind image area slot

-- that of an area
abbrev pub AreaFaultIs : Image → ℕ → ℕ → Option ℕ → Type 0
AreaFaultIs image area count (Some at) = IsAreaFault image area count at
AreaFaultIs image area count None = IsFaultless image area count

-- ---- whole

-- the sector of the first fault of a journal: a head, or the body or the gate of a slot in the current area
abbrev pub IsFirstFault : Image → ℕ → Type 0
IsFirstFault image at =
    IsHeadFault image at
    ⊎ ((area : ℕ) × (head : Head) × IsCurrent image area head × IsAreaFault image area head.count at)

-- there is one where the journal is bad
abbrev pub FirstFaultIs : Image → Option ℕ → Type 0
FirstFaultIs image (Some at) = IsFirstFault image at
FirstFaultIs image None = ¬ IsBadJournal image
