-- What one call leaves, done or failed, and what it counts.
use Rattle.std.proofs.Common.{◌≡◌, ◌⊎◌, ◌+◌, ⊎_elim, ℕ, subst, Result, Ok, Err}
use Rattle.macs_disk.specs.States.{DiskState, IsImage, IsSound}
use Rattle.macs_disk.specs.Disk.{Disk, now, IsDeviceCall, Syncs}
use Rattle.macs_disk.specs.Runs.{LeavesNothingNew}
use Rattle.macs_disk.proofs.Images.{synced-image}
use Rattle.macs_disk.proofs.Moments.{Nothing-start, Nothing-call}

-- a call after which the state is the one before
pub still-leaves : {T E : Type 0} (old new : Disk) (result : Result T E) → IsDeviceCall old new result
    → now new ≡ now old → LeavesNothingNew old new
still-leaves old new result call same =
    Nothing-call old old new result (Nothing-start old) call
    (λ image left. subst (λ (s : DiskState). IsImage s image) same left)

pub sync-leaves : {T E : Type 0} (old new : Disk) (result : Result T E) → IsSound (now old)
    → IsDeviceCall old new result → Syncs (now old) (now new) result
    → LeavesNothingNew old new
sync-leaves old new (Ok x) sound call syncs =
    Nothing-call old old new (Ok x) (Nothing-start old) call
    (λ image left. synced-image _ image sound.fit (subst (λ (s : DiskState). IsImage s image) syncs.ok left))
sync-leaves old new (Err e) sound call syncs = still-leaves old new (Err e) call syncs.err
