-- A planned end of a store: its journal is compacted, with the next packet numbers as ceilings.
use Rattle.std.specs.Prelude.{◌≡◌, ◌≤◌, ◌+◌, ◌↔◌, ◌⊎◌, true, false, length, Result, IsErrOf, OnErr, OnOk}
use Rattle.macs_config.specs.Config.{this_edition}
use Rattle.macs_disk.specs.Disk.{IsHonest, MayLeave}
use Rattle.macs_disk.specs.Disk as disk
use Rattle.macs_disk.specs.Runs.{Leaves}
use Rattle.macs_disk.specs.States.{Image}
use Rattle.macs_journal.specs.Compacting.{last_generation}
use Rattle.macs_journal.specs.Work.{IsWorkOf}
use Rattle.macs_journal.specs.declared.fault.JournalFault.{JournalFault}
use Rattle.macs_journal.specs.declared.fault.JournalFault.TheVariants as journal
use Rattle.macs_store.specs.Found.{StandsFor, StandsForEither}
use Rattle.macs_store.specs.Snapshot.{snapshot}
use Rattle.macs_store.specs.Standing.{Ceilings, Standing}
use Rattle.macs_store.specs.Value.{IsIdle, IsStored, StoreValue, disk_in, generation, is_stopped, standing_in}
use Rattle.macs_store.specs.Value.{used_slots}

-- the standing, with these ceilings
abbrev pub standing_with_ceilings : Standing → Ceilings → Standing
standing_with_ceilings s ceilings = record s { ceilings = ceilings }

-- A journal is compacted, with these ceilings instead of those of the standing. Fails with Stopped, then with
-- GenerationsSpent if the generation is the last one, even if slots are free; these change nothing. Disk if a device
-- call failed: memory is unchanged, and the store is stopped. At each moment a power loss leaves the standing with the
-- ceilings before, or with these; and after Ok with these alone, which are then in memory.
pub record Rests {D : Type 0} (disk_of : D → disk.Disk) (old : StoreValue D) (ceilings : Ceilings)
    (result : Result (Unit {0}) JournalFault) (new : StoreValue D) : Type 0 where
  pub stopped : IsErrOf result journal.Stopped ↔ (is_stopped old ≡ true)
  pub spent : IsErrOf result journal.GenerationsSpent ↔ ((is_stopped old ≡ false) × (generation old ≡ last_generation))
  pub names : OnErr result
      (IsErrOf result journal.Stopped ⊎ (IsErrOf result journal.GenerationsSpent ⊎ IsErrOf result journal.Disk))
  pub same : OnErr result (IsErrOf result journal.Disk ⊎ (new ≡ old))
  pub halted : IsErrOf result journal.Disk → (is_stopped new ≡ true) × (new.held ≡ old.held)
  pub running : OnOk result (is_stopped new ≡ false)
  pub idle : IsIdle new
  pub slots : OnOk result (used_slots new ≡ length (snapshot (standing_with_ceilings (standing_in old) ceilings)))
  pub generation : OnOk result (generation new ≡ generation old + 1)
  pub most : (disk_in disk_of new).clock ≤ (disk_in disk_of old).clock
      + (519 + length (snapshot (standing_with_ceilings (standing_in old) ceilings)))
  pub done : OnOk result (standing_in new ≡ standing_with_ceilings (standing_in old) ceilings)
  pub work : IsWorkOf (disk_in disk_of old) (disk_in disk_of new) result
  pub any_moment : IsHonest (disk_in disk_of new) → IsStored disk_of old
      → Leaves (disk_in disk_of old) (disk_in disk_of new)
      (StandsForEither (standing_in old) (standing_with_ceilings (standing_in old) ceilings))
  pub stored : OnOk result (IsHonest (disk_in disk_of new) → IsStored disk_of old → IsStored disk_of new)
  pub kept : OnOk result (IsHonest (disk_in disk_of new) → IsStored disk_of old
      → (image : Image) → MayLeave (disk_in disk_of new) image → StandsFor this_edition image (standing_in new))
