-- The ways in which a program may end, each of which passes the medium of its disk on.
use Rattle.std.specs.Prelude.{◌≡◌, ◌≤◌, ◌<◌, ◌^◌, ◌&&◌, if◌then◌else◌, not, ℕ, Bool, true, false, List, length, get_or}
use Rattle.std.specs.Prelude.{Result}
use Rattle.macs_disk.specs.Disk.{Disk, IsDeviceCall, IsHonest, LeftSince, Reads, Syncs, now}
use Rattle.macs_disk.specs.States.{DiskState, Image, IsImage, settled_state}
use Rattle.macs_disk.specs.declared.disk.DeviceFault.{DeviceFault}
use Rattle.macs_headline.specs.Deeds.{IsPassedOn}

-- a disk with the same size and honesty, as another value over the same medium has
pub record IsAlike (old new : Disk) : Type 0 where
  pub sectors : new.sectors ≡ old.sectors
  pub honest : new.honest ≡ old.honest

-- The power is lost at some moment of calls that began at `since` and would have led to `ran`: the disk holds one of
-- the images of that moment, and nothing is pending.
pub record LosesPower (ran : Disk) (since : ℕ) (new : Disk) : Type 0 where
  pub image : Image
  pub left : LeftSince ran since image
  pub alike : IsAlike ran new
  pub settled : now new ≡ settled_state image

-- Power is lost.
abbrev pub PowerLossesPassOn : Type 0
PowerLossesPassOn = (old new : Disk) (since : ℕ) → LosesPower old since new → IsPassedOn old since new

-- The program is killed at some moment since, inside a call or between two, and no power is lost: what was pending is
-- still pending.
abbrev pub KillingsPassOn : Type 0
KillingsPassOn = (old new : Disk) (since moment : ℕ) → since ≤ moment → moment ≤ old.clock → IsAlike old new
    → now new ≡ old.past moment
    → IsPassedOn old since new

-- The program drops its disk, or ends after its last call, and another disk opens the medium unchanged, with what is
-- pending.
abbrev pub DroppedPassOn : Type 0
DroppedPassOn = (old new : Disk) → IsAlike old new → now new ≡ now old → IsPassedOn old old.clock new

-- the state after these sectors reached the medium: each is durable as reads give it, and the others are unchanged
abbrev pub state_written_back : (ℕ → Bool) → DiskState → DiskState
state_written_back written state = record {
  seen = state.seen;
  durable = λ i. if written i then state.seen i else state.durable i;
  pending = λ i. state.pending i && not (written i);
}

-- Some of the pending sectors reach the medium meanwhile, or all of them, or none.
abbrev pub WrittenBackPassOn : {D : Type 0} → (D → Disk) → Type 0
WrittenBackPassOn {D} disk_of = (old : D) (new : Disk) (written : ℕ → Bool) → IsHonest (disk_of old)
    → IsAlike (disk_of old) new
    → now new ≡ state_written_back written (now (disk_of old)) → IsPassedOn (disk_of old) (disk_of old).clock new

-- The owner reads a sector between two lives, or tries to.
abbrev pub ReadsPassOn : {D : Type 0} → (D → Disk) → Type 0
ReadsPassOn {D} disk_of = (old new : D) (at : ℕ) (into : List ℕ) (result : Result (Unit {0}) DeviceFault)
    → IsHonest (disk_of old)
    → IsDeviceCall (disk_of old) (disk_of new) result → Reads (now (disk_of old)) (now (disk_of new)) at into result
    → IsPassedOn (disk_of old) (disk_of old).clock (disk_of new)

-- The owner syncs the disk between two lives, or tries to.
abbrev pub SyncsPassOn : {D : Type 0} → (D → Disk) → Type 0
SyncsPassOn {D} disk_of = (old new : D) (result : Result (Unit {0}) DeviceFault) → IsHonest (disk_of old)
    → IsDeviceCall (disk_of old) (disk_of new) result → Syncs (now (disk_of old)) (now (disk_of new)) result
    → IsPassedOn (disk_of old) (disk_of old).clock (disk_of new)

-- After a power loss nothing is pending, and reads give what is durable.
abbrev pub LossesSettle : Type 0
LossesSettle = (ran new : Disk) (since : ℕ) → LosesPower ran since new
    → (i : ℕ) → ((now new).pending i ≡ false) × ((now new).seen i ≡ (now new).durable i)

-- A sector that was pending has 512 octets in each image, and each is below 256.
abbrev pub ImagesAreWhole : Type 0
ImagesAreWhole = (state : DiskState) (image : Image) → IsImage state image → (i : ℕ) → state.pending i ≡ true
    → (length (image i) ≡ 512) × ((k : ℕ) → get_or (image i) k 0 < 2 ^ 8)
