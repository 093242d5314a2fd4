-- What a `MemDisk` is.
use Rattle.std.specs.Prelude.{length}
use Rattle.macs_disk.specs.States.{settled_state}
use Rattle.macs_disk.specs.Disk.{Disk}
use Rattle.macs_disk.specs.CallLists.{sectors_in, choice_at, disk_of_calls}
use Rattle.macs_disk.specs.Memory.{Memory}
use Rattle.macs_disk.specs.declared.memory.MemDisk.{MemDisk}

-- an in-memory disk over time, given by its list of calls
abbrev pub disk_of : {A : Type 0} → MemDisk A → Disk
disk_of m = disk_of_calls (length m.seen.items) (settled_state (sectors_in m.first.items)) m.calls.entries.items
    m.calls.clock m.calls.failures

-- the same, with the choices of what a power loss leaves in its sectors
abbrev pub memory_of : {A : Type 0} → MemDisk A → Memory
memory_of m = record { disk = disk_of m; chosen = choice_at m.choices.items }
