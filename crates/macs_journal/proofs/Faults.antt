-- Faults of a journal.
use Rattle.std.proofs.Common.{◌<◌, inl, inr, ℕ, Option, Some, None}
use Rattle.macs_disk.specs.States.{Image}
use Rattle.macs_record.specs.Heads.{Head}
use Rattle.macs_journal.specs.Areas.{slots}
use Rattle.macs_journal.specs.FirstFault.{AreSound, AreaFaultIs, FirstFaultIs, GateFaultIs, IsHeadFault, IsUsed}
use Rattle.macs_journal.specs.Found.{IsBadJournal, IsCurrent}
use Rattle.macs_journal.proofs.Current.{not_bad}

-- a journal is bad where a head has a fault
pub head-bad : (image : Image) (at : ℕ) → IsHeadFault image at → IsBadJournal image
head-bad image at (inl (is, none)) = inl (inl none)
head-bad image at (inr (is, first, inl none)) = inl (inr none)
head-bad image at (inr (is, first, inr odds)) = inr (inl odds)

-- the first slot that is not used has the fault of its gate, or the area has none
pub unused-fault : (image : Image) (area count slot : ℕ) (fault : Option ℕ) → slot < slots
    → AreSound image area count slot
    → ¬ IsUsed image area count slot
    → GateFaultIs image area slot fault
    → AreaFaultIs image area count fault
unused-fault image area count slot (Some at) within sound unused (is, opens) = record {
  slot = slot;
  within = within;
  before = sound;
  fault = inr (is, unused, opens);
}
unused-fault image area count slot None within sound unused shut = record {
  free = slot;
  before = sound;
  behind = inr (unused, shut);
}

-- the first fault is that of the current area
pub current-fault : (image : Image) (area : ℕ) (head : Head) (fault : Option ℕ) → IsCurrent image area head
    → AreaFaultIs image area head.count fault
    → FirstFaultIs image fault
current-fault image area head (Some at) current is = inr (area, head, current, is)
current-fault image area head None current none = λ bad. not_bad image area head current none bad
