-- An in-memory disk, as its callers see it.
use Rattle.std.specs.Prelude.{ℕ, true, false, List, Option, Some, None, unwrap_or}
use Rattle.macs_disk.specs.States.{Image, put_sector, settled_state, zero_sector}
use Rattle.macs_disk.specs.Disk.{Disk, now, disk_after_loss}

-- an in-memory disk: the disk, and the choices of what a power loss leaves in its sectors
pub record Memory : Type 0 where
  pub disk : Disk
  pub chosen : ℕ → Option (List ℕ)

-- a disk of this many sectors of zeros
abbrev pub blank_memory : ℕ → Memory
blank_memory sectors =
    record {
      disk =
          record {
            sectors = sectors;
            past = λ _. settled_state (λ _. zero_sector);
            clock = 0;
            failures = 0;
            honest = true;
            worn = false;
            prompt = true;
          };
      chosen = λ _. None;
    }

-- the disk after this choice for a sector
abbrev pub memory_with_choice : Memory → ℕ → List ℕ → Memory
memory_with_choice memory at octets = record { disk = memory.disk; chosen = put_sector memory.chosen at (Some octets) }

-- what a power loss leaves now: the choices, and the last writes where there is no choice
abbrev pub image_left : Memory → Image
image_left memory i = unwrap_or (memory.chosen i) ((now memory.disk).seen i)

-- the disk after a power loss
abbrev pub memory_after_loss : Memory → Memory
memory_after_loss memory = record { disk = disk_after_loss memory.disk (image_left memory); chosen = λ _. None }
