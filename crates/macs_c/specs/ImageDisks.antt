-- What an `ImageDisk` is.
use Rattle.std.specs.Prelude.{◌==◌, ◌+◌, ◌-◌, ◌%◌, ◌++◌, ℕ, if◌then◌else◌, true, false, List, [], length, map, take}
use Rattle.std.specs.Prelude.{get_or, Option, Some, None}
use Rattle.macs_disk.specs.States.{DiskState, Image, settled_state, state_after_write, zero_sector}
use Rattle.macs_disk.specs.Disk.{Disk}

-- any list as 512 octets: its first 512, with zeros after a shorter one, each modulo 2^8. A sector is itself.
unfoldable pub sector_of : List ℕ → List ℕ
sector_of octets = map (λ octet. octet % 256) (take 512 (octets ++ zero_sector))

-- the image that a list of sectors is, with zeros after them
abbrev pub image_of : List (List ℕ) → Image
image_of sectors i = sector_of (get_or sectors i [])

-- sectors that are only read: they, the sector to which a write was tried, if any, and how many calls there were before
-- that and after it
pub record ImageValue : Type 0 where
  pub sectors : List (List ℕ)
  pub tried : Option ℕ
  pub calls : ℕ
  pub more : ℕ

-- these sectors before the first call
abbrev pub image_from : List (List ℕ) → ImageValue
image_from sectors = record { sectors = sectors; tried = None; calls = 0; more = 0 }

-- how many calls failed: the write that was tried, and each call after it
abbrev pub failed_calls : Option ℕ → ℕ → ℕ
failed_calls None more = 0
failed_calls (Some at) more = more + 1

-- the state after a write that failed: its sector is pending, with the octets that were there
abbrev pub tried_state : List (List ℕ) → Option ℕ → DiskState
tried_state sectors None = settled_state (image_of sectors)
tried_state sectors (Some at) = state_after_write (settled_state (image_of sectors)) at (image_of sectors at)

-- The disk that they show: it is settled with them until a write is tried, which fails, as does each call after it. It
-- is never worn.
abbrev pub image_disk : ImageValue → Disk
image_disk it =
    record {
      sectors = length it.sectors;
      past = λ k. if k - it.calls == 0 then settled_state (image_of it.sectors) else tried_state it.sectors it.tried;
      clock = it.calls + failed_calls it.tried it.more;
      failures = failed_calls it.tried it.more;
      honest = true;
      worn = false;
      prompt = true;
    }
