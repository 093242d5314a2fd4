-- What the calls of a store that keep something promise.
use Rattle.std.specs.Prelude.{◌≡◌, ◌≤◌, ◌+◌, ◌==◌, ◌↔◌, ◌⊎◌, ℕ, true, false, if◌then◌else◌, length, Result, Ok, Err}
use Rattle.std.specs.Prelude.{IsOk, OnOk, OnErr, IsErrOf}
use Rattle.macs_config.specs.Apply.{Named}
use Rattle.macs_config.specs.Config.{this_edition}
use Rattle.macs_config.specs.declared.command.Command.{Command}
use Rattle.macs_config.specs.declared.refusal.Refusal.{Refusal}
use Rattle.macs_disk.specs.Disk.{FailsOnce, IsHonest, MayLeave, Works}
use Rattle.macs_disk.specs.Disk as disk
use Rattle.macs_disk.specs.Runs.{Leaves}
use Rattle.macs_disk.specs.States.{Image}
use Rattle.macs_journal.specs.Areas.{slots}
use Rattle.macs_journal.specs.Compacting.{last_generation}
use Rattle.macs_journal.specs.Work.{IsWorkOf}
use Rattle.macs_journal.specs.declared.fault.JournalFault.{JournalFault}
use Rattle.macs_journal.specs.declared.fault.JournalFault.TheVariants as journal
use Rattle.macs_store.specs.Found.{CommitLeaves, StandsFor, StandsForEither}
use Rattle.macs_store.specs.Snapshot.{snapshot}
use Rattle.macs_store.specs.Standing.{Standing, accept}
use Rattle.macs_store.specs.Value.{IsIdle, IsStored, StoreValue, disk_in, generation, is_stopped, standing_in}
use Rattle.macs_store.specs.Value.{used_slots}
use Rattle.macs_store.specs.declared.fault.CommitFault.{CommitFault}
use Rattle.macs_store.specs.declared.fault.CommitFault.TheVariants as commit

-- ---- one more change

-- no more change can be kept: it is running, all slots are used, and no compaction is possible
abbrev pub IsSpent : {D : Type 0} → StoreValue D → Type 0
IsSpent s = (is_stopped s ≡ false) × (used_slots s ≡ slots) × (generation s ≡ last_generation)

-- how many slots are used after one more change, given how many were used and the standing: if all were used the
-- journal was compacted with a snapshot
abbrev pub slots_with_change : ℕ → Standing → ℕ
slots_with_change used s = if used == slots then length (snapshot s) + 1 else used + 1

-- the generation after it, given the one before
abbrev pub generation_with_change : ℕ → ℕ → ℕ
generation_with_change used number = if used == slots then number + 1 else number

-- the maximum number of device calls of the change: 4 for its record, and if all slots are used 519 for a compaction
-- and one for each record of the snapshot
abbrev pub most_with_change : ℕ → Standing → ℕ
most_with_change used s = if used == slots then 523 + length (snapshot s) else 4

-- how many slots of a store are used after one more change
abbrev pub slots_after : {D : Type 0} → StoreValue D → ℕ
slots_after s = slots_with_change (used_slots s) (standing_in s)

-- the generation after it
abbrev pub generation_after : {D : Type 0} → StoreValue D → ℕ
generation_after s = generation_with_change (used_slots s) (generation s)

-- the maximum number of device calls of the change
abbrev pub most_calls : {D : Type 0} → StoreValue D → ℕ
most_calls s = most_with_change (used_slots s) (standing_in s)

-- ---- a reservation

-- A call keeps one change, which turns the standing into `after`. Fails with Stopped, then with GenerationsSpent; these
-- are checked before the work starts, and change nothing. Disk if a device call failed: memory is unchanged, and a
-- power loss leaves the old standing or the new one, in format two. If all slots are used the journal is compacted
-- first, with a snapshot of the standing.
pub record Keeps {D : Type 0} (disk_of : D → disk.Disk) (old : StoreValue D) (after : Standing)
    (result : Result (Unit {0}) JournalFault) (new : StoreValue D) : Type 0 where
  pub stopped : IsErrOf result journal.Stopped ↔ (is_stopped old ≡ true)
  pub spent : IsErrOf result journal.GenerationsSpent ↔ IsSpent old
  pub names : OnErr result
      (IsErrOf result journal.Stopped ⊎ (IsErrOf result journal.GenerationsSpent ⊎ IsErrOf result journal.Disk))
  pub same : OnErr result (IsErrOf result journal.Disk ⊎ (new ≡ old))
  pub halted : IsErrOf result journal.Disk → (is_stopped new ≡ true) × (new.held ≡ old.held)
  pub running : OnOk result (is_stopped new ≡ false)
  pub idle : IsIdle new
  pub slots : OnOk result (used_slots new ≡ slots_after old)
  pub generation : OnOk result (generation new ≡ generation_after old)
  pub most : (disk_in disk_of new).clock ≤ (disk_in disk_of old).clock + most_calls old
  pub done : OnOk result (standing_in new ≡ after)
  pub work : IsWorkOf (disk_in disk_of old) (disk_in disk_of new) result
  pub any_moment : IsHonest (disk_in disk_of new) → IsStored disk_of old
      → Leaves (disk_in disk_of old) (disk_in disk_of new) (StandsForEither (standing_in old) after)
  pub stored : OnOk result (IsHonest (disk_in disk_of new) → IsStored disk_of old → IsStored disk_of new)
  pub kept : OnOk result (IsHonest (disk_in disk_of new) → IsStored disk_of old
      → (image : Image) → MayLeave (disk_in disk_of new) image → StandsFor this_edition image (standing_in new))

-- ---- a command

-- calls of the disk: exactly one of them failed, if and only if the answer is Disk
abbrev pub CommitFails : disk.Disk → disk.Disk → Result (Unit {0}) CommitFault → Type 0
CommitFails old new (Err commit.Disk) = FailsOnce old new
CommitFails old new result = new.failures ≡ old.failures

-- the device calls of a commit
pub record IsCommitOf (old new : disk.Disk) (result : Result (Unit {0}) CommitFault) : Type 0 where
  pub works : Works old new
  pub fails : CommitFails old new result

-- A call keeps a command and applies it. Fails with Stopped, then with Refused and the first refusal that applies, then
-- with GenerationsSpent; these are checked before the work starts, and change nothing. Disk if a device call failed:
-- memory is unchanged, and a power loss leaves the old standing or the one after the command, in format two. If all
-- slots are used the journal is compacted first, with a snapshot of the standing.
pub record Commits {D : Type 0} (disk_of : D → disk.Disk) (old : StoreValue D) (command : Command)
    (result : Result (Unit {0}) CommitFault) (new : StoreValue D) : Type 0 where
  pub stopped : IsErrOf result commit.Stopped ↔ (is_stopped old ≡ true)
  pub refused : (refusal : Refusal) → (result ≡ Err (commit.Refused refusal))
      ↔ ((is_stopped old ≡ false) × (accept (standing_in old) command ≡ Err (Named refusal)))
  pub spent : IsErrOf result commit.GenerationsSpent ↔ (IsOk (accept (standing_in old) command) × IsSpent old)
  pub same : OnErr result (IsErrOf result commit.Disk ⊎ (new ≡ old))
  pub halted : IsErrOf result commit.Disk → (is_stopped new ≡ true) × (new.held ≡ old.held)
  pub running : OnOk result (is_stopped new ≡ false)
  pub idle : IsIdle new
  pub slots : OnOk result (used_slots new ≡ slots_after old)
  pub generation : OnOk result (generation new ≡ generation_after old)
  pub most : (disk_in disk_of new).clock ≤ (disk_in disk_of old).clock + most_calls old
  pub done : OnOk result (accept (standing_in old) command ≡ Ok (standing_in new))
  pub work : IsCommitOf (disk_in disk_of old) (disk_in disk_of new) result
  pub any_moment : IsHonest (disk_in disk_of new) → IsStored disk_of old
      → Leaves (disk_in disk_of old) (disk_in disk_of new) (CommitLeaves (standing_in old) command)
  pub stored : OnOk result (IsHonest (disk_in disk_of new) → IsStored disk_of old → IsStored disk_of new)
  pub kept : OnOk result (IsHonest (disk_in disk_of new) → IsStored disk_of old
      → (image : Image) → MayLeave (disk_in disk_of new) image → StandsFor this_edition image (standing_in new))
