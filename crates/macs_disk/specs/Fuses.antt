-- A disk with a fuse. The calls that the fuse fails do not reach the inner disk, except for a write in whose place the
-- fuse writes octets of its own.
use Rattle.std.specs.Prelude.{◌≡◌, ◌≤◌, ◌<◌, ◌+◌, ◌-◌, ◌^◌, ◌==◌, ◌||◌, ◌⊎◌, ℕ, min, max, if◌then◌else◌, List, Result}
use Rattle.std.specs.Prelude.{is_ok, true}
use Rattle.macs_disk.specs.Disk.{Disk, IsDeviceCall, IsHonest, Writes, now}
use Rattle.macs_disk.specs.declared.disk.DeviceFault.{DeviceFault}
use Rattle.macs_disk.specs.declared.fuse.Blow.{Blow}
use Rattle.macs_disk.specs.declared.fuse.Blow.TheVariants.{EachCall, OneCall, NoCall}

-- a fuse: the inner disk now, and when the fuse was made or last failed a call; how many calls are left to be passed
-- on, and which it fails then; how many calls the inner disk missed, and how many failures the fuse added
pub record FuseValue (D : Type 0) : Type 0 where
  pub inner : D
  pub when : D
  pub left : ℕ
  pub blow : Blow
  pub missed : ℕ
  pub added : ℕ

-- the next call is passed on
abbrev pub IsPassing : {D : Type 0} → FuseValue D → Type 0
IsPassing fuse = (0 < fuse.left) ⊎ (fuse.blow ≡ NoCall)

-- the fuse after a call that it passed on, which led the inner disk here. One call fewer is left, or none as before.
abbrev pub fuse_after_passed_call : {D : Type 0} → FuseValue D → D → FuseValue D
fuse_after_passed_call fuse inner =
    record {
      inner = inner;
      when = fuse.when;
      left = fuse.left - 1;
      blow = fuse.blow;
      missed = fuse.missed;
      added = fuse.added;
    }

-- a fuse that fails each call, after one that it failed. It counts them up to 2^64 - 1.
abbrev pub fuse_after_stopped_call : {D : Type 0} → FuseValue D → FuseValue D
fuse_after_stopped_call fuse =
    record {
      inner = fuse.inner;
      when = fuse.inner;
      left = fuse.left;
      blow = fuse.blow;
      missed = min (fuse.missed + 1) (2 ^ 64 - 1);
      added = min (fuse.added + 1) (2 ^ 64 - 1);
    }

-- a fuse that fails one call, after that call, which was a read or a sync. It passes all later ones on.
abbrev pub fuse_after_blown_call : {D : Type 0} → FuseValue D → FuseValue D
fuse_after_blown_call fuse =
    record {
      inner = fuse.inner;
      when = fuse.inner;
      left = fuse.left;
      blow = NoCall;
      missed = fuse.missed + 1;
      added = fuse.added + 1;
    }

-- a fuse that fails one call, after that call, which was a write. The octets written in its place led the inner disk
-- here, and the fuse added this many failures.
abbrev pub fuse_after_blown_write : {D : Type 0} → FuseValue D → D → ℕ → FuseValue D
fuse_after_blown_write fuse inner more =
    record {
      inner = inner;
      when = fuse.inner;
      left = fuse.left;
      blow = NoCall;
      missed = fuse.missed;
      added = fuse.added + more;
    }

-- in place of the write that a fuse failed, the inner disk took a write of the fuse's own octets, with this answer. The
-- fuse added a failure if and only if that write did not fail.
pub record IsBlownWrite {D : Type 0} (disk : D → Disk) (old new : FuseValue D) (at : ℕ) (fill : List ℕ)
    (answer : Result (Unit {0}) DeviceFault) : Type 0 where
  pub call : IsDeviceCall (disk old.inner) (disk new.inner) answer
  pub effect : IsHonest (disk new.inner) → Writes (now (disk old.inner)) (now (disk new.inner)) at fill answer
  pub after : new ≡ fuse_after_blown_write old new.inner (if is_ok answer then 1 else 0)

-- it took such a write, with any answer
abbrev pub BlowsWrite : {D : Type 0} → (D → Disk) → (old new : FuseValue D) → ℕ → List ℕ → Type 0
BlowsWrite disk old new at fill = (answer : Result (Unit {0}) DeviceFault) × IsBlownWrite disk old new at fill answer

-- what holds of a fuse's counts and the clock of the inner disk: at the call that it last failed, and now
abbrev pub AreCounted : Blow → (at clock left missed added : ℕ) → Type 0
AreCounted EachCall at clock left missed added = (at ≤ clock) × (missed ≡ added) × (missed < 2 ^ 64)
    × (0 < missed → (left ≡ 0) × (at ≡ clock))
AreCounted (OneCall fill) at clock left missed added = (at ≤ clock) × (missed ≡ 0) × (added ≡ 0)
AreCounted NoCall at clock left missed added = (at ≤ clock) × (missed ≤ 1) × (added ≤ 1)

-- the same for the fuse's value
abbrev pub IsCounted : {D : Type 0} → (D → Disk) → FuseValue D → Type 0
IsCounted disk fuse =
    AreCounted fuse.blow (disk fuse.when).clock (disk fuse.inner).clock fuse.left fuse.missed fuse.added

-- the disk that a fuse shows: the inner one, which at this moment of its own clock missed `missed` calls, with the
-- failures that the fuse added. At the moments of missed calls its state is that before them, and what came after them
-- comes that much later.
abbrev pub fused_disk : Disk → (at missed added : ℕ) → Disk
fused_disk disk at missed added =
    record {
      sectors = disk.sectors;
      past = λ k. disk.past (min k (max at (k - missed)));
      clock = disk.clock + missed;
      failures = disk.failures + added;
      honest = disk.honest;
      worn = disk.worn || (missed == 2 ^ 64 - 1);
      prompt = true;
    }

-- the value of a fuse, given that of the inner disk. `when` is never greater than the inner disk's clock; `min` makes
-- that so for values that no fuse has.
abbrev pub disk_of_fuse : {D : Type 0} → (D → Disk) → FuseValue D → Disk
disk_of_fuse disk fuse =
    fused_disk (disk fuse.inner) (min (disk fuse.when).clock (disk fuse.inner).clock) fuse.missed fuse.added
