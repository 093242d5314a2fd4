-- What several calls may leave.
use Rattle.macs_disk.specs.States.{Image}
use Rattle.macs_disk.specs.Disk.{Disk, MayLeave, LeftSince, Works}

-- calls led from old to new, and each image that a power loss at some moment since old might have left satisfies P
pub record Leaves (old new : Disk) (P : Image → Type 0) : Type 0 where
  pub works : Works old new
  pub each : (image : Image) → LeftSince new old.clock image → P image

-- each image that a power loss at some moment since old might have left is one that it could leave then
abbrev pub LeavesNothingNew : Disk → Disk → Type 0
LeavesNothingNew old new = Leaves old new (MayLeave old)
