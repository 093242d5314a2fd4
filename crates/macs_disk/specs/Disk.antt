-- A disk over time, and the effect of one call.
use Rattle.std.specs.Prelude.{◌≡◌, ◌≤◌, ◌+◌, ◌⊎◌, ℕ, Bool, true, false, List, Result, IsErr, OnOk, OnErr}
use Rattle.macs_disk.specs.States.{IsSector, Image, DiskState, IsImage, settled_state, state_after_write}
use Rattle.macs_disk.specs.States.{state_after_sync}

-- a disk over time. `past k` is its state at moment k, for each k up to the clock. On a worn disk each call fails.
-- Whether it is honest decides whether its calls do what the model of an honest disk says, and whether it is prompt
-- whether each call is answered at once.
pub record Disk : Type 0 where
  pub sectors : ℕ
  pub past : ℕ → DiskState
  pub clock : ℕ
  pub failures : ℕ
  pub honest : Bool
  pub worn : Bool
  pub prompt : Bool

-- its state at this moment
abbrev pub now : Disk → DiskState
now disk = disk.past disk.clock

-- reads, writes and syncs of the disk do what the model says
abbrev pub IsHonest : Disk → Type 0
IsHonest disk = disk.honest ≡ true

-- a power loss now may leave this image
abbrev pub MayLeave : Disk → Image → Type 0
MayLeave disk image = IsImage (now disk) image

-- a power loss at some moment from `since` on might have left this image
abbrev pub LeftSince : Disk → ℕ → Image → Type 0
LeftSince disk since image = (k : ℕ) × (since ≤ k) × (k ≤ disk.clock) × IsImage (disk.past k) image

-- a disk left with this image by a power loss. This is not a call: the counts stay. Its past starts over: at each
-- moment it is settled with this image.
abbrev pub disk_after_loss : Disk → Image → Disk
disk_after_loss disk image =
    record {
      sectors = disk.sectors;
      past = λ _. settled_state image;
      clock = disk.clock;
      failures = disk.failures;
      honest = disk.honest;
      worn = disk.worn;
      prompt = disk.prompt;
    }

-- calls led from old to new: the clock advances, the past stays, failures are only added, a worn disk stays worn, and
-- the sectors and honesty stay
pub record Works (old new : Disk) : Type 0 where
  pub later : old.clock ≤ new.clock
  pub past : (k : ℕ) → k ≤ old.clock → new.past k ≡ old.past k
  pub failures : old.failures ≤ new.failures
  pub worn : old.worn ≡ true → new.worn ≡ true
  pub sectors : new.sectors ≡ old.sectors
  pub honest : new.honest ≡ old.honest

-- exactly one failure was counted, or the disk is worn, so that one may have failed uncounted
abbrev pub FailsOnce : Disk → Disk → Type 0
FailsOnce old new = (new.failures ≡ old.failures + 1) ⊎ (new.worn ≡ true)

-- calls, and a result that reports whether one of them failed: Ok if none did, Err if exactly one did
pub record IsWork {T E : Type 0} (old new : Disk) (result : Result T E) : Type 0 where
  pub works : Works old new
  pub ok : OnOk result (new.failures ≡ old.failures)
  pub err : OnErr result (FailsOnce old new)

-- what each call does on every disk, honest or not: a moment passes, and a failure is counted if and only if one is
-- returned. On a worn disk the call fails and the state stays; the clock and the failures stay as well, or both
-- increase by one (those of a fuse, which counts the calls that it fails itself).
pub record IsDeviceCall {T E : Type 0} (old new : Disk) (result : Result T E) : Type 0 where
  pub work : IsWork old new result
  pub at_most_one : new.clock ≤ old.clock + 1
  pub one : old.worn ≡ false → new.clock ≡ old.clock + 1
  pub counted : old.worn ≡ false → OnErr result (new.failures ≡ old.failures + 1)
  pub refused : old.worn ≡ true → IsErr result
  pub stands : old.worn ≡ true → now new ≡ now old
  pub alike : old.worn ≡ true → new.clock + old.failures ≡ old.clock + new.failures

-- what a read does on an honest disk
pub record Reads {T E : Type 0} (old new : DiskState) (at : ℕ) (into : List ℕ) (result : Result T E) : Type 0 where
  pub same : new ≡ old
  pub ok : OnOk result (into ≡ old.seen at)

-- what a write does on an honest disk: if it fails nothing was written, or some 512 octets were
pub record Writes {T E : Type 0} (old new : DiskState) (at : ℕ) (octets : List ℕ) (result : Result T E) : Type 0 where
  pub ok : OnOk result (new ≡ state_after_write old at octets)
  pub err : OnErr result ((new ≡ old) ⊎ ((other : List ℕ) × IsSector other × (new ≡ state_after_write old at other)))

-- what a sync does on an honest disk: if it fails nothing becomes durable
pub record Syncs {T E : Type 0} (old new : DiskState) (result : Result T E) : Type 0 where
  pub ok : OnOk result (new ≡ state_after_sync old)
  pub err : OnErr result (new ≡ old)
