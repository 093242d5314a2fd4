-- What an in-memory disk keeps: its list of writes and syncs, and what these made of its sectors.
use Rattle.std.specs.Prelude.{◌≡◌, ◌≤◌, ◌-◌, ◌^◌, ◌==◌, ℕ, if◌then◌else◌, Bool, true, false, List, [], ◌∷◌, length}
use Rattle.std.specs.Prelude.{get_or, nat_le, Option, Some, None}
use Rattle.macs_disk.specs.States.{IsSector, Image, DiskState, settled_state, state_after_write, state_after_sync}
use Rattle.macs_disk.specs.States.{zero_sector}
use Rattle.macs_disk.specs.Disk.{Disk}
use Rattle.macs_disk.specs.declared.call_list.Entry.{Entry}
use Rattle.macs_disk.specs.declared.call_list.Call.{Call}
use Rattle.macs_disk.specs.declared.call_list.Call.TheVariants.{Write, Sync}

-- an image given by the list of its sectors, with zeros after them
abbrev pub sectors_in : List (List ℕ) → Image
sectors_in sectors i = get_or sectors i zero_sector

-- whether a sector is pending, by the list of flags
abbrev pub flag_at : List Bool → ℕ → Bool
flag_at pending i = get_or pending i false

-- the choice for a sector, by the list of choices
abbrev pub choice_at : List (Option (List ℕ)) → ℕ → Option (List ℕ)
choice_at choices i = get_or choices i None

-- the state after a call in the list
abbrev pub state_after_call : DiskState → Call → DiskState
state_after_call state (Write at octets) = state_after_write state at octets
state_after_call state Sync = state_after_sync state

-- the state at moment k: the state at the start of the list, changed by the calls up to k
abbrev pub state_at : DiskState → List Entry → ℕ → DiskState
state_at state [] k = state
state_at state (e ∷ es) k = state_at (if nat_le e.clock k then state_after_call state e.call else state) es k

-- a disk given by what it keeps: it is worn once its clock is full
abbrev pub disk_of_calls : ℕ → DiskState → List Entry → ℕ → ℕ → Disk
disk_of_calls sectors state calls clock failures =
    record {
      sectors = sectors;
      past = state_at state calls;
      clock = clock;
      failures = failures;
      honest = true;
      worn = clock == 2 ^ 64 - 1;
      prompt = true;
    }

-- the list of the calls so far gives the contents of the disk
pub record IsSoundMemory (first seen durable : List (List ℕ)) (pending : List Bool) (calls : List Entry) (clock : ℕ)
    : Type 0 where
  pub is_now : state_at (settled_state (sectors_in first)) calls clock
      ≡ record { seen = sectors_in seen; durable = sectors_in durable; pending = flag_at pending }
  pub as_first : length first ≡ length seen
  pub as_durable : length durable ≡ length seen
  pub as_pending : length pending ≡ length seen
  pub small : length seen ≤ 65536
  pub clean : (i : ℕ) → flag_at pending i ≡ false → sectors_in seen i ≡ sectors_in durable i
  pub whole_seen : (i : ℕ) → IsSector (sectors_in seen i)
  pub whole_durable : (i : ℕ) → IsSector (sectors_in durable i)

-- what a power loss will leave in some of the pending sectors
pub record AreChosen (seen : List (List ℕ)) (pending : List Bool) (choices : List (Option (List ℕ))) : Type 0 where
  pub as_choices : length choices ≡ length seen
  pub sectors : (i : ℕ) (s : List ℕ) → choice_at choices i ≡ Some s → IsSector s
  pub only_pending : (i : ℕ) (s : List ℕ) → choice_at choices i ≡ Some s → flag_at pending i ≡ true
