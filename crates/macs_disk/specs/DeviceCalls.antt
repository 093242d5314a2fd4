-- A device call as a value, and what it leads a disk to, whoever makes it.
use Rattle.std.specs.Prelude.{◌<◌, ◌^◌, ℕ, List, Result}
use Rattle.macs_disk.specs.Disk.{Disk, IsDeviceCall, IsHonest, Reads, Syncs, Writes, now}
use Rattle.macs_disk.specs.States.{DiskState, IsSector}
use Rattle.macs_disk.specs.declared.device_call.DeviceCall.{DeviceCall}
use Rattle.macs_disk.specs.declared.device_call.DeviceCall.TheVariants.{Read, Write, Sync}

-- its sector is on a disk of this many sectors
abbrev pub IsWithin : ℕ → DeviceCall → Type 0
IsWithin sectors (Read at) = at < sectors
IsWithin sectors (Write at octets) = at < sectors
IsWithin sectors Sync = Unit {0}

-- a call as a program has it: a number has 64 bits, and a sector 512 octets
abbrev pub IsCall : DeviceCall → Type 0
IsCall (Read at) = at < 2 ^ 64
IsCall (Write at octets) = (at < 2 ^ 64) × IsSector octets
IsCall Sync = Unit {0}

-- what it does on an honest disk, and what it reads
abbrev pub DoesCall : {T E : Type 0} → (old new : DiskState) → DeviceCall → List ℕ → Result T E → Type 0
DoesCall old new (Read at) read result = Reads old new at read result
DoesCall old new (Write at octets) read result = Writes old new at octets result
DoesCall old new Sync read result = Syncs old new result

-- The call was made, by anybody: it led the disk from old to new, with this answer, and a read put these octets into
-- its buffer.
pub record IsMade {T E : Type 0} (old new : Disk) (asked : DeviceCall) (read : List ℕ) (result : Result T E)
    : Type 0 where
  pub call : IsDeviceCall old new result
  pub does : IsHonest new → DoesCall (now old) (now new) asked read result
