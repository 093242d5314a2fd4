-- What a store keeps, one device call at a time.
use Rattle.std.specs.Prelude.{◌≡◌, ◌≤◌, ◌+◌, ◌↔◌, ◌⊎◌, true, false, Some, Result, Ok, Err, IsOk, OnOk, OnErr, IsErrOf}
use Rattle.macs_config.specs.Apply.{Named}
use Rattle.macs_config.specs.Config.{this_edition}
use Rattle.macs_config.specs.declared.command.Command.{Command}
use Rattle.macs_config.specs.declared.refusal.Refusal.{Refusal}
use Rattle.macs_disk.specs.Disk.{IsDeviceCall, IsHonest, MayLeave}
use Rattle.macs_disk.specs.Disk as disk
use Rattle.macs_disk.specs.Runs.{Leaves}
use Rattle.macs_disk.specs.States.{Image}
use Rattle.macs_journal.specs.Work.{IsWorkOf}
use Rattle.macs_journal.specs.declared.fault.JournalFault.{JournalFault}
use Rattle.macs_journal.specs.declared.fault.JournalFault.TheVariants as journal
use Rattle.macs_journal.specs.declared.work.JournalStep.{JournalStep}
use Rattle.macs_journal.specs.declared.work.JournalStep.TheVariants.{Finished, Going, Idle}
use Rattle.macs_record.specs.declared.record.Record.{Record}
use Rattle.macs_store.specs.Found.{StandsFor, StandsForEither}
use Rattle.macs_store.specs.Keeps.{IsSpent, generation_after, most_calls, slots_after}
use Rattle.macs_store.specs.Replay.{standing_after_record}
use Rattle.macs_store.specs.Standing.{Standing, accept}
use Rattle.macs_store.specs.Value.{IsIdle, IsStored, StoreValue, calls_left, device_in, disk_in, generation}
use Rattle.macs_store.specs.Value.{generation_then, is_stopped, slots_then, standing_in, standing_then, used_slots}
use Rattle.macs_store.specs.declared.fault.CommitFault.{CommitFault}
use Rattle.macs_store.specs.declared.fault.CommitFault.TheVariants as commit

-- ---- work is started

-- A store that has started one change, which will turn the standing into `after`: the standing is unchanged, no device
-- call was made, and at most this many will be.
pub record HasUnderWay {D : Type 0} (disk_of : D → disk.Disk) (old : StoreValue D) (after : Standing)
    (new : StoreValue D) : Type 0 where
  pub running : is_stopped new ≡ false
  pub device : device_in new ≡ device_in old
  pub standing : new.held ≡ old.held
  pub leads : standing_then new ≡ Some after
  pub busy : ¬ IsIdle new
  pub slots : slots_then new ≡ slots_after old
  pub generation : generation_then new ≡ generation_after old
  pub left : calls_left new ≡ most_calls old
  pub stored : IsStored disk_of old → IsStored disk_of new

-- A reservation is started, which will turn the standing into `after`. Fails with Stopped, then with GenerationsSpent;
-- nothing changes then.
pub record Starts {D : Type 0} (disk_of : D → disk.Disk) (old : StoreValue D) (after : Standing)
    (result : Result (Unit {0}) JournalFault) (new : StoreValue D) : Type 0 where
  pub stopped : IsErrOf result journal.Stopped ↔ (is_stopped old ≡ true)
  pub spent : IsErrOf result journal.GenerationsSpent ↔ IsSpent old
  pub names : OnErr result (IsErrOf result journal.Stopped ⊎ IsErrOf result journal.GenerationsSpent)
  pub same : OnErr result (new ≡ old)
  pub under_way : OnOk result (HasUnderWay disk_of old after new)

-- A command is started. Fails with Stopped, then with Refused and the first refusal that applies, then with
-- GenerationsSpent; nothing changes then.
pub record StartsCommit {D : Type 0} (disk_of : D → disk.Disk) (old : StoreValue D) (command : Command)
    (result : Result (Unit {0}) CommitFault) (new : StoreValue D) : Type 0 where
  pub stopped : IsErrOf result commit.Stopped ↔ (is_stopped old ≡ true)
  pub refused : (refusal : Refusal) → (result ≡ Err (commit.Refused refusal))
      ↔ ((is_stopped old ≡ false) × (accept (standing_in old) command ≡ Err (Named refusal)))
  pub spent : IsErrOf result commit.GenerationsSpent ↔ (IsOk (accept (standing_in old) command) × IsSpent old)
  pub names : ¬ IsErrOf result commit.Disk
  pub same : OnErr result (new ≡ old)
  pub under_way : OnOk result
      ((after : Standing) × (accept (standing_in old) command ≡ Ok after) × HasUnderWay disk_of old after new)

-- Work on a record is started, as a reservation is.
pub record StartsRecord {D : Type 0} (disk_of : D → disk.Disk) (old : StoreValue D) (r : Record)
    (result : Result (Unit {0}) JournalFault) (new : StoreValue D) : Type 0 where
  pub stopped : IsErrOf result journal.Stopped ↔ (is_stopped old ≡ true)
  pub spent : IsErrOf result journal.GenerationsSpent ↔ IsSpent old
  pub names : OnErr result (IsErrOf result journal.Stopped ⊎ IsErrOf result journal.GenerationsSpent)
  pub same : OnErr result (new ≡ old)
  pub under_way : OnOk result ((after : Standing) → standing_after_record (standing_in old) r ≡ Some after
      → HasUnderWay disk_of old after new)

-- ---- one device call

-- A step of a store: one device call of the work under way. Stopped if and only if a device call failed before, else
-- Idle if and only if nothing is under way: then no call is made and nothing changes. Disk if and only if the call
-- failed, which stops the store and leaves nothing under way. Otherwise the work continues, or is finished: the
-- standing changes then, and at no other time. At each moment a power loss leaves the standing before, or the one once
-- the work is done; and once it is finished, only the latter.
pub record Steps {D : Type 0} (disk_of : D → disk.Disk) (old : StoreValue D) (result : Result JournalStep JournalFault)
    (new : StoreValue D) : Type 0 where
  -- the answer, and the store in memory
  pub stopped : IsErrOf result journal.Stopped ↔ (is_stopped old ≡ true)
  pub idle : (result ≡ Ok Idle) ↔ ((is_stopped old ≡ false) × IsIdle old)
  pub names : OnErr result (IsErrOf result journal.Stopped ⊎ IsErrOf result journal.Disk)
  pub same : (IsErrOf result journal.Stopped ⊎ (result ≡ Ok Idle)) → new ≡ old
  pub halted : IsErrOf result journal.Disk → (is_stopped new ≡ true) × IsIdle new
  pub running : OnOk result (is_stopped new ≡ false)
  pub standing : (¬ (result ≡ Ok Finished)) → new.held ≡ old.held
  pub going : result ≡ Ok Going → (¬ IsIdle new) × (standing_then new ≡ standing_then old)
  pub finished : result ≡ Ok Finished → IsIdle new × (standing_then old ≡ Some (standing_in new))
  pub slots : OnOk result (slots_then new ≡ slots_then old)
  pub generation : OnOk result (generation_then new ≡ generation_then old)
  -- its device calls
  pub work : IsWorkOf (disk_in disk_of old) (disk_in disk_of new) result
  pub device : is_stopped old ≡ false → (¬ IsIdle old) → IsDeviceCall (disk_in disk_of old) (disk_in disk_of new) result
  pub one : (disk_in disk_of new).clock ≤ (disk_in disk_of old).clock + 1
  pub call : OnOk result ((¬ IsIdle old) → (disk_in disk_of new).clock ≡ (disk_in disk_of old).clock + 1)
  pub left : OnOk result ((¬ IsIdle old) → calls_left new + 1 ≤ calls_left old)
  pub last : result ≡ Ok Finished → calls_left old ≡ 1
  -- what a power loss leaves
  pub any_moment : IsHonest (disk_in disk_of new) → IsStored disk_of old → (after : Standing)
      → standing_then old ≡ Some after
      → Leaves (disk_in disk_of old) (disk_in disk_of new) (StandsForEither (standing_in old) after)
  pub stored : OnOk result (IsHonest (disk_in disk_of new) → IsStored disk_of old → IsStored disk_of new)
  pub kept : result ≡ Ok Finished → IsHonest (disk_in disk_of new) → IsStored disk_of old
      → (image : Image) → MayLeave (disk_in disk_of new) image → StandsFor this_edition image (standing_in new)

-- ---- to the end

-- The device calls of the work under way, up to its end. Fails as a step does. After Ok nothing is under way, the work
-- is done, and a power loss leaves the standing.
pub record Finishes {D : Type 0} (disk_of : D → disk.Disk) (old : StoreValue D)
    (result : Result (Unit {0}) JournalFault) (new : StoreValue D) : Type 0 where
  pub stopped : IsErrOf result journal.Stopped ↔ (is_stopped old ≡ true)
  pub names : OnErr result (IsErrOf result journal.Stopped ⊎ IsErrOf result journal.Disk)
  pub same : IsErrOf result journal.Stopped → new ≡ old
  pub halted : IsErrOf result journal.Disk → (is_stopped new ≡ true) × (new.held ≡ old.held)
  pub running : OnOk result (is_stopped new ≡ false)
  pub idle : (is_stopped old ≡ false) → IsIdle new
  pub done : OnOk result (standing_then old ≡ Some (standing_in new))
  pub slots : OnOk result (used_slots new ≡ slots_then old)
  pub generation : OnOk result (generation new ≡ generation_then old)
  pub most : (disk_in disk_of new).clock ≤ (disk_in disk_of old).clock + calls_left old
  pub work : IsWorkOf (disk_in disk_of old) (disk_in disk_of new) result
  pub any_moment : IsHonest (disk_in disk_of new) → IsStored disk_of old → (after : Standing)
      → standing_then old ≡ Some after
      → Leaves (disk_in disk_of old) (disk_in disk_of new) (StandsForEither (standing_in old) after)
  pub stored : OnOk result (IsHonest (disk_in disk_of new) → IsStored disk_of old → IsStored disk_of new)
  pub kept : OnOk result (IsHonest (disk_in disk_of new) → IsStored disk_of old
      → (image : Image) → MayLeave (disk_in disk_of new) image → StandsFor this_edition image (standing_in new))
