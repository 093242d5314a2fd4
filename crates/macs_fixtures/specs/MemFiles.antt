-- What a `MemFile` is.
use Rattle.std.specs.Prelude.{ℕ, if◌then◌else◌, true, false}
use Rattle.macs_disk.specs.Files.{FileState}
use Rattle.macs_fixtures.specs.Blocks.{file_in_memory, flag_in, octet_at}
use Rattle.macs_fixtures.specs.declared.blocks.DeviceBlock.{DeviceBlock}
use Rattle.macs_fixtures.specs.declared.blocks.DeviceBlock.TheVariants.{Octets512, Octets4096}
use Rattle.macs_fixtures.specs.declared.file.MemFile.{MemFile}
use Rattle.macs_fixtures.specs.declared.plan.FileCall.{FileCall}

-- a file in memory, as a file
abbrev pub file_of : {A : Type 0} → MemFile A → FileState
file_of it = file_in_memory it.block it.size it.durable_size it.cache.items it.durable.items it.pending.items
    it.is_clean it.is_sure it.is_claimed

-- what the device has once all that is dirty was written to it
abbrev pub written_in : {A : Type 0} → MemFile A → ℕ → ℕ
written_in it p = if flag_in it.block it.dirty.items p then octet_at it.cache.items p else octet_at it.device.items p

-- how many octets it durably has
abbrev pub durable_size_of : {A : Type 0} → MemFile A → ℕ
durable_size_of it = it.durable_size

-- the kind of call that is to fail
abbrev pub failing_call_of : {A : Type 0} → MemFile A → FileCall
failing_call_of it = it.plan.call

-- and which of them, counted from 1 on from now. None is to fail where it is 0.
abbrev pub failing_number_of : {A : Type 0} → MemFile A → ℕ
failing_number_of it = it.plan.nth

-- how many blocks a sync that fails writes
abbrev pub blocks_reached_by : {A : Type 0} → MemFile A → ℕ
blocks_reached_by it = it.reached

-- how many octets a block has
abbrev pub octets_in : DeviceBlock → ℕ
octets_in Octets512 = 512
octets_in Octets4096 = 4096

-- the file that shows these octets, by pressure on memory
abbrev pub file_pressed : FileState → (ℕ → ℕ) → FileState
file_pressed file octets = record file { seen = octets }

-- the file that its program let go of and opened again: it is not claimed, nor is it known whether a sync of it failed
abbrev pub file_closed : FileState → FileState
file_closed file = record file { is_sure = false; is_claimed = false }

-- a file that was just made, on a device of such blocks: it is empty, and nothing of it is pending
abbrev pub file_just_made : ℕ → FileState
file_just_made block =
    record {
      behaves = true;
      block = block;
      size = 0;
      is_size_durable = true;
      seen = λ _. 0;
      durable = λ _. 0;
      pending = λ _. false;
      is_clean = true;
      is_sure = true;
      is_claimed = false;
    }

-- the file that a power loss left with so many octets, and with these
abbrev pub file_after_loss : FileState → ℕ → (ℕ → ℕ) → FileState
file_after_loss file size octets =
    record {
      behaves = file.behaves;
      block = file.block;
      size = size;
      is_size_durable = true;
      seen = octets;
      durable = octets;
      pending = λ _. false;
      is_clean = true;
      is_sure = true;
      is_claimed = false;
    }
